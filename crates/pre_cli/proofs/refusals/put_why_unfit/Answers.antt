use Rattle.std.proofs.Common.{codes, rules}
use Rattle.pre_base.specs.Told.{WhereTold}
use Rattle.pre_base.specs.Sinks.{TakesWhole, TakesFront}
use Rattle.pre_cli.specs.Statuses.{unfit_words}
use Rattle.pre_cli.proofs.Two.{two_breaks, two_ends}
use Rattle.pre_cli.proofs.refusals.put_why_unfit.Goals as goal

pub returns-in_err-write_all-clause-octets : goal.returns-in_err-write_all-clause-octets
returns-in_err-write_all-clause-octets g c =
    let before = g.S.Sink.tells c.args.sink.now in
    let after = g.S.Sink.tells c.write_all.new.sink in
    let took : WhereTold before after (TakesFront (codes "unfit")) = search rules in
    two_breaks before after (codes "unfit") (unfit_words c.args.cause.now) c.from_residual.result c.from_residual.ensures.0 took

pub returns-clause-octets : goal.returns-clause-octets
returns-clause-octets g c =
    let before = g.S.Sink.tells c.args.sink.now in
    let after = g.S.Sink.tells c.write_all.new.sink in
    let took : WhereTold before after (TakesWhole (codes "unfit")) = search rules in
    two_ends before after (g.S.Sink.tells c.put_unfit_words.new.sink) (codes "unfit") (unfit_words c.args.cause.now) c.put_unfit_words.result took c.put_unfit_words.ensures.octets
