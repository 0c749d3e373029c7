use Rattle.std.proofs.Common.{◌≡◌, ◌/◌, ◌%◌, map}
use Rattle.std.specs.Prelude.{filter}
use Rattle.std.specs.List.{range_with_len}
use Rattle.pre_bound.specs.Uses.{has_port}
use Rattle.pre_rounds.specs.Rounds.{port_over}
use Rattle.pre_rounds.specs.Tables.{bursts_in}
use Rattle.pre_rounds.proofs.rows.port_rows.Given as goal

abbrev pub invariant-loop-place : goal.invariant-loop-place
invariant-loop-place l =
    l.found ≡ map (λ place. port_over l.net l.rows (bursts_in l.bursts) (place / 8) (place % 8)) (filter (λ place. has_port l.rows (place / 8) (place % 8)) (range_with_len 0 l.place))
