use Rattle.std.proofs.Common.{◌∷◌, []}
use Rattle.std.specs.Fmt.{decimal}
use Rattle.pre_cli.proofs.Two.{two_breaks, two_ends}
use Rattle.pre_cli.proofs.statuses.put_behind_space.Goals as goal

pub returns-in_err-write_all-clause-octets : goal.returns-in_err-write_all-clause-octets
returns-in_err-write_all-clause-octets g c =
    two_breaks (g.S.Sink.tells c.args.sink.now) (g.S.Sink.tells c.write_all.new.sink) (32 ∷ []) (decimal c.args.n) c.from_residual.result c.from_residual.ensures.0 c.in_err-write_all.ensures.octets

pub returns-clause-octets : goal.returns-clause-octets
returns-clause-octets g c =
    two_ends (g.S.Sink.tells c.args.sink.now) (g.S.Sink.tells c.write_all.new.sink) (g.S.Sink.tells c.put_number.new.sink) (32 ∷ []) (decimal c.args.n) c.put_number.result c.in_ok-write_all.ensures.octets c.put_number.ensures.octets
