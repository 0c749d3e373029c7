use Rattle.pre_cli.specs.Statuses.{behind_space}
use Rattle.pre_cli.proofs.Numbers.{word_fails}
use Rattle.pre_cli.proofs.refusals.put_arcs.Goals as goal

pub returns-in_err-put_behind_space-clause-octets : goal.returns-in_err-put_behind_space-clause-octets
returns-in_err-put_behind_space-clause-octets g c =
    word_fails (λ arc. behind_space arc.0) c.args.arcs.now c.loop-arc.arc-index (record { 0 = 0 }) _ _ _ c.from_residual.result c.loop-arc-test.true c.from_residual.ensures.0 c.loop-arc.invariant.taken c.in_err-put_behind_space.ensures.octets
