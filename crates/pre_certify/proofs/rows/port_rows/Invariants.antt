use Rattle.std.proofs.Common.{◌≡◌, map}
use Rattle.std.specs.Prelude.{filter}
use Rattle.std.specs.List.{range_with_len}
use Rattle.pre_bound.specs.Uses.{has_port}
use Rattle.pre_bound.specs.Listed.{port_row}
use Rattle.pre_certify.specs.Tables.{delays_in}
use Rattle.pre_certify.specs.Written.{values_at}
use Rattle.std.specs.Prelude.{◌/◌, ◌%◌}
use Rattle.pre_certify.proofs.rows.port_rows.Given as goal

abbrev pub invariant-loop-place : goal.invariant-loop-place
invariant-loop-place l = l.found ≡ map (port_row (values_at l.net l.rows (delays_in l.delays))) (filter (λ place. has_port l.rows (place / 8) (place % 8)) (range_with_len 0 l.place))
