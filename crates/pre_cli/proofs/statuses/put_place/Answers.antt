use Rattle.pre_cli.specs.Statuses.{behind_space}
use Rattle.pre_cli.proofs.Two.{two_breaks, two_ends}
use Rattle.pre_cli.proofs.statuses.put_place.Goals as goal

pub returns-in_err-put_behind_space-clause-octets : goal.returns-in_err-put_behind_space-clause-octets
returns-in_err-put_behind_space-clause-octets g c =
    two_breaks (g.S.Sink.tells c.args.sink.now) (g.S.Sink.tells c.put_behind_space.new.sink) (behind_space c.args.line) (behind_space c.args.rule) c.from_residual.result c.from_residual.ensures.0 c.in_err-put_behind_space.ensures.octets

pub returns-clause-octets : goal.returns-clause-octets
returns-clause-octets g c =
    two_ends (g.S.Sink.tells c.args.sink.now) (g.S.Sink.tells c.put_behind_space.new.sink) (g.S.Sink.tells c.put_behind_space-2.new.sink) (behind_space c.args.line) (behind_space c.args.rule) c.put_behind_space-2.result c.in_ok-put_behind_space.ensures.octets c.put_behind_space-2.ensures.octets
