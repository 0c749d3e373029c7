use Rattle.pre_cli.proofs.refusals.put_unfit_words.Goals as goal

pub returns-in-Overload-clause-octets : goal.returns-in-Overload-clause-octets
returns-in-Overload-clause-octets g c = rw c.in-Overload.is c.put_numbered.ensures.octets
