use Rattle.std.proofs.Common.{ℕ, ◌<◌, slice_index_or}
use Rattle.pre_base.specs.declared.numbers.ArcId.{ArcId}
use Rattle.pre_streams.specs.declared.rows.Row.{Row}
use Rattle.pre_streams.specs.Hops.{TakesArcBy}
use Rattle.pre_streams.proofs.lookups.arc_of_vid.Given as goal

abbrev pub invariant-loop-row : goal.invariant-loop-row
invariant-loop-row l = (k : ℕ) (d : Row) (arc : ArcId) → k < l.row-index → ¬ TakesArcBy l.node l.vid arc (slice_index_or l.rows k d)
