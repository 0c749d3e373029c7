use Rattle.std.proofs.Common.{◌≡◌, ◌++◌, map}
use Rattle.std.specs.Prelude.{filter}
use Rattle.std.specs.List.{range_with_len}
use Rattle.pre_bound.specs.Uses.{has_arc}
use Rattle.pre_check.specs.declared.due.Due.TheVariants as due
use Rattle.pre_check.proofs.due.push_arcs.Given as goal

abbrev pub invariant-loop-place : goal.invariant-loop-place
invariant-loop-place l = l.due ≡ l.fn.due ++ map (λ arc. due.Arc (record { 0 = arc })) (filter (has_arc l.rows) (range_with_len 0 l.place))
