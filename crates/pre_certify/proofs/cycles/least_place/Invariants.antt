use Rattle.std.proofs.Common.{ℕ, ◌<◌, ◌≤◌, length, get_or}
use Rattle.pre_base.specs.declared.numbers.ArcId.{ArcId}
use Rattle.pre_certify.proofs.cycles.least_place.Given as goal

abbrev pub invariant-loop-place : goal.invariant-loop-place
invariant-loop-place l = (l.least < length l.path) × ((k : ℕ) (d e : ArcId) → k < l.place → (get_or l.path l.least d).0 ≤ (get_or l.path k e).0)
