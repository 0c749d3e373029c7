use Rattle.std.proofs.Common.{◌≡◌, ◌/◌, ◌%◌, ◌++◌, map}
use Rattle.std.specs.Prelude.{filter}
use Rattle.std.specs.List.{range_with_len}
use Rattle.pre_bound.specs.Uses.{has_port}
use Rattle.pre_check.specs.Due.{due_port}
use Rattle.pre_check.proofs.due.push_ports.Given as goal

abbrev pub invariant-loop-place : goal.invariant-loop-place
invariant-loop-place l = l.due ≡ l.fn.due ++ map due_port (filter (λ place. has_port l.rows (place / 8) (place % 8)) (range_with_len 0 l.place))
