use Rattle.std.proofs.Common.{ℕ, ◌<◌}
use Rattle.pre_certify.specs.Peels.{IsOpen}
use Rattle.pre_certify.proofs.cycles.first_open.Given as goal

abbrev pub invariant-loop-arc : goal.invariant-loop-arc
invariant-loop-arc l = (k : ℕ) → k < l.arc → IsOpen l.ranks k → ⊥
