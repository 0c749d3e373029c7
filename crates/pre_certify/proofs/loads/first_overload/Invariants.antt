use Rattle.std.proofs.Common.{◌≡◌, ℕ, ◌<◌, false}
use Rattle.pre_certify.specs.Loads.{is_overloaded}
use Rattle.pre_certify.proofs.loads.first_overload.Given as goal

abbrev pub invariant-loop-arc : goal.invariant-loop-arc
invariant-loop-arc l = (other : ℕ) → other < l.arc → is_overloaded l.net l.rows other ≡ false
