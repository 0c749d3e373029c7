use Rattle.std.proofs.Common.{◌≡◌, ◌-◌, ◌++◌}
use Rattle.pre_plant.specs.Draws.{drawn, draws_of}
use Rattle.pre_plant.proofs.draws.draws_of.Given as goal

abbrev pub invariant-loop-count : goal.invariant-loop-count
invariant-loop-count l = l.draws.items ++ drawn (360 - l._count) l.state ≡ draws_of l.fn.number
