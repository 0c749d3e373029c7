use Rattle.std.proofs.Common.{◌++◌, rules}
use Rattle.pre_base.specs.Told.{WhereTold}
use Rattle.pre_base.specs.Sinks.{TakesWhole, TakesFront}
use Rattle.pre_cli.specs.Statuses.{behind_space}
use Rattle.pre_cli.proofs.Two.{two_breaks, two_ends}
use Rattle.pre_cli.proofs.refusals.put_port_need.Goals as goal

pub returns-in_err-put_behind_space-clause-octets : goal.returns-in_err-put_behind_space-clause-octets
returns-in_err-put_behind_space-clause-octets g c =
    let before = g.S.Sink.tells c.args.sink.now in
    let after = g.S.Sink.tells c.put_behind_space.new.sink in
    let took : WhereTold before after (TakesFront (behind_space c.args.arc)) = search rules in
    two_breaks before after (behind_space c.args.arc) (behind_space c.args.prio ++ behind_space c.args.need) c.from_residual.result c.from_residual.ensures.0 took

pub returns-clause-octets : goal.returns-clause-octets
returns-clause-octets g c =
    let before = g.S.Sink.tells c.args.sink.now in
    let after = g.S.Sink.tells c.put_behind_space.new.sink in
    let took : WhereTold before after (TakesWhole (behind_space c.args.arc)) = search rules in
    two_ends before after (g.S.Sink.tells c.put_place.new.sink) (behind_space c.args.arc) (behind_space c.args.prio ++ behind_space c.args.need) c.put_place.result took c.put_place.ensures.octets
