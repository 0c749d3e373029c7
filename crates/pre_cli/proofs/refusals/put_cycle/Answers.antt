use Rattle.std.proofs.Common.{codes, rules}
use Rattle.pre_base.specs.Told.{WhereTold}
use Rattle.pre_base.specs.Sinks.{TakesWhole, TakesFront}
use Rattle.pre_cli.specs.Statuses.{arc_numbers}
use Rattle.pre_cli.proofs.Two.{two_breaks, two_ends}
use Rattle.pre_cli.proofs.refusals.put_cycle.Goals as goal

pub returns-in_err-write_all-clause-octets : goal.returns-in_err-write_all-clause-octets
returns-in_err-write_all-clause-octets g c =
    let before = g.S.Sink.tells c.args.sink.now in
    let after = g.S.Sink.tells c.write_all.new.sink in
    let took : WhereTold before after (TakesFront (codes " cycle")) = search rules in
    two_breaks before after (codes " cycle") (arc_numbers c.args.arcs.now) c.from_residual.result c.from_residual.ensures.0 took

pub returns-clause-octets : goal.returns-clause-octets
returns-clause-octets g c =
    let before = g.S.Sink.tells c.args.sink.now in
    let after = g.S.Sink.tells c.write_all.new.sink in
    let took : WhereTold before after (TakesWhole (codes " cycle")) = search rules in
    two_ends before after (g.S.Sink.tells c.put_arcs.new.sink) (codes " cycle") (arc_numbers c.args.arcs.now) c.put_arcs.result took c.put_arcs.ensures.octets
