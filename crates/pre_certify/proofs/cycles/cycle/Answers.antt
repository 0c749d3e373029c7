use Rattle.std.proofs.Common.{subst}
use Rattle.pre_certify.specs.Causes.{IsCycle}
use Rattle.pre_certify.specs.Paths.{IsTurned}
use Rattle.pre_certify.proofs.Walking.{ok_weaker, turned_cycle}
use Rattle.pre_certify.proofs.cycles.cycle.Goals as goal

pub returns : goal.returns
returns c =
    ok_weaker (IsTurned c.as_slice.result.now) (IsCycle c.args.rows.now) c.from_least.result c.from_least.ensures
    (λ turned t. turned_cycle c.args.rows.now c.in_ok-path.path turned c.in_ok-path.ensures.0 c.in_ok-path.ensures.1 (subst (λ p. IsTurned p turned) c.as_slice.ensures t))
