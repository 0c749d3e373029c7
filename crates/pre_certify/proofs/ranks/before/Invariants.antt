use Rattle.std.proofs.Common.{ℕ, ◌<◌}
use Rattle.std.specs.Prelude.{IsSome}
use Rattle.pre_streams.specs.declared.rows.Row.{Row}
use Rattle.pre_bound.specs.Uses.{TakesAt}
use Rattle.std.specs.Prelude.{◌+◌, slice_index_or}
use Rattle.pre_certify.specs.Peels.{IsOpen}
use Rattle.pre_certify.proofs.ranks.before.Given as goal

abbrev pub invariant-loop-row : goal.invariant-loop-row
invariant-loop-row l = (k : ℕ) (d : Row) → k < l.row-index → IsSome (slice_index_or l.rows k d).curve → (b hop : ℕ) → IsOpen l.ranks b → TakesAt (slice_index_or l.rows k d) hop b → TakesAt (slice_index_or l.rows k d) (hop + 1) l.arc.0 → ⊥
