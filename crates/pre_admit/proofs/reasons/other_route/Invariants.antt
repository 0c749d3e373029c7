use Rattle.std.proofs.Common.{ℕ, ◌<◌, slice_index_or}
use Rattle.pre_streams.specs.declared.rows.Row.{Row}
use Rattle.pre_admit.specs.Routes.{SharesNodes}
use Rattle.pre_admit.proofs.reasons.other_route.Given as goal

abbrev pub invariant-loop-held : goal.invariant-loop-held
invariant-loop-held l = (k : ℕ) (d : Row) → k < l.held-index → SharesNodes l.row (slice_index_or l.rows k d)
