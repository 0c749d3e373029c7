use Rattle.std.proofs.Common.{◌≡◌, map}
use Rattle.std.specs.Prelude.{filter}
use Rattle.std.specs.List.{range_with_len}
use Rattle.pre_bound.specs.Uses.{has_arc}
use Rattle.pre_rounds.specs.Written.{arc_at}
use Rattle.pre_rounds.proofs.rows.arc_rows.Given as goal

abbrev pub invariant-loop-place : goal.invariant-loop-place
invariant-loop-place l = l.found ≡ map (arc_at l.net l.rows) (filter (has_arc l.rows) (range_with_len 0 l.place))
