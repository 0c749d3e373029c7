use Rattle.std.proofs.Common.{ℕ, ◌<◌, ◌≢◌, Some, slice_get}
use Rattle.pre_streams.proofs.lookups.arc_from.Given as goal

abbrev pub invariant-loop-hop : goal.invariant-loop-hop
invariant-loop-hop l = (i : ℕ) → i < l.hop → slice_get l.row.route i ≢ Some l.node
