use Rattle.std.proofs.Common.{ℕ, ◌<◌}
use Rattle.std.specs.Prelude.{slice_index_or}
use Rattle.pre_streams.specs.declared.rows.Row.{Row}
use Rattle.pre_admit.proofs.plans.prios_below.Given as goal

abbrev pub invariant-loop-row : goal.invariant-loop-row
invariant-loop-row l = (k : ℕ) (d : Row) → k < l.row-index → (slice_index_or l.rows k d).prio < 8
