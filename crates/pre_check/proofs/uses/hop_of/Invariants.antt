use Rattle.std.proofs.Common.{◌≡◌, ℕ, ◌<◌, false}
use Rattle.std.specs.Prelude.{slice_index_or, ◌==◌}
use Rattle.pre_base.specs.declared.numbers.ArcId.{ArcId}
use Rattle.pre_check.proofs.uses.hop_of.Given as goal

abbrev pub invariant-loop-hop : goal.invariant-loop-hop
invariant-loop-hop l = (k : ℕ) (d : ArcId) → k < l.hop → ((slice_index_or l.arcs k d).0 == l.arc.0) ≡ false
