use Rattle.std.proofs.Common.{◌≡◌, ℕ, ◌+◌, ◌<◌, Some}
use Rattle.std.specs.Prelude.{slice_get}
use Rattle.pre_base.specs.declared.numbers.ArcId.{ArcId}
use Rattle.pre_certify.specs.Peels.{IsOpen}
use Rattle.pre_certify.proofs.ranks.before_on.Given as goal

abbrev pub invariant-loop-hop : goal.invariant-loop-hop
invariant-loop-hop l = (k : ℕ) → k < l.hop → (b : ArcId) → IsOpen l.ranks b.0 → slice_get l.arcs k ≡ Some b → slice_get l.arcs (k + 1) ≡ Some l.arc → ⊥
