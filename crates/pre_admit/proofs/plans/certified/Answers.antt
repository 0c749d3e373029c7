use Rattle.pre_admit.proofs.plans.certified.Goals as goal

pub returns-in-Err-clause-fits : goal.returns-in-Err-clause-fits
returns-in-Err-clause-fits c = c.remove_stream.ensures.fits c.args.net.now c.requires.fits
