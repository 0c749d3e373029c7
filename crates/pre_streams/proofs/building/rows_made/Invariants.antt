use Rattle.std.proofs.Common.{◌≡◌, map, take, slice_get}
use Rattle.std.specs.List.{enumerate_from}
use Rattle.pre_streams.specs.Made.{row_made, row_parts}
use Rattle.pre_streams.proofs.building.rows_made.Given as goal

abbrev pub invariant-loop-place : goal.invariant-loop-place
invariant-loop-place l = map row_parts l.made ≡ map (λ r. row_made l.net (slice_get l.raw.curves r.0) r.1) (enumerate_from 0 (take l.place l.raw.rows))
