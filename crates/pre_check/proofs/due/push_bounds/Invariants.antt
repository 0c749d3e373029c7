use Rattle.std.proofs.Common.{◌≡◌, ◌++◌, take}
use Rattle.pre_check.specs.Due.{due_bounds}
use Rattle.pre_check.proofs.due.push_bounds.Given as goal

abbrev pub invariant-loop-stream : goal.invariant-loop-stream
invariant-loop-stream l = l.due ≡ l.fn.due ++ due_bounds (take l.stream l.rows)
