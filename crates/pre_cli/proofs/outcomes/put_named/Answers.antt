use Rattle.std.proofs.Common.{rules}
use Rattle.pre_base.specs.Told.{WhereTold}
use Rattle.pre_base.specs.Sinks.{TakesWhole, TakesFront}
use Rattle.pre_cli.proofs.Two.{two_breaks, two_ends}
use Rattle.pre_cli.proofs.outcomes.put_named.Goals as goal

pub returns-in_err-write_all-clause-octets : goal.returns-in_err-write_all-clause-octets
returns-in_err-write_all-clause-octets g c =
    let before = g.S.Sink.tells c.args.sink.now in
    let after = g.S.Sink.tells c.write_all.new.sink in
    let took : WhereTold before after (TakesFront (c.args.word.now)) = search rules in
    two_breaks before after (c.args.word.now) (c.args.name.now) c.from_residual.result c.from_residual.ensures.0 took

pub returns-clause-octets : goal.returns-clause-octets
returns-clause-octets g c =
    let before = g.S.Sink.tells c.args.sink.now in
    let after = g.S.Sink.tells c.write_all.new.sink in
    let took : WhereTold before after (TakesWhole (c.args.word.now)) = search rules in
    two_ends before after (g.S.Sink.tells c.write_all-2.new.sink) (c.args.word.now) (c.args.name.now) c.write_all-2.result took c.write_all-2.ensures.octets
