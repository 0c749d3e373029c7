use Rattle.std.proofs.Common.{◌++◌, codes, rules}
use Rattle.pre_base.specs.Told.{WhereTold}
use Rattle.pre_base.specs.Sinks.{TakesWhole, TakesFront}
use Rattle.pre_cli.specs.Statuses.{behind_space}
use Rattle.pre_cli.proofs.Two.{two_breaks, two_ends}
use Rattle.pre_cli.proofs.refusals.put_large.Goals as goal

pub returns-in_err-write_all-clause-octets : goal.returns-in_err-write_all-clause-octets
returns-in_err-write_all-clause-octets g c =
    let before = g.S.Sink.tells c.args.sink.now in
    let after = g.S.Sink.tells c.write_all.new.sink in
    let took : WhereTold before after (TakesFront (codes " large")) = search rules in
    two_breaks before after (codes " large") (behind_space c.args.arc ++ behind_space c.args.prio) c.from_residual.result c.from_residual.ensures.0 took

pub returns-clause-octets : goal.returns-clause-octets
returns-clause-octets g c =
    let before = g.S.Sink.tells c.args.sink.now in
    let after = g.S.Sink.tells c.write_all.new.sink in
    let took : WhereTold before after (TakesWhole (codes " large")) = search rules in
    two_ends before after (g.S.Sink.tells c.put_place.new.sink) (codes " large") (behind_space c.args.arc ++ behind_space c.args.prio) c.put_place.result took c.put_place.ensures.octets
