use Rattle.std.proofs.Common.{◌≡◌, ◌++◌, length}
use Rattle.pre_streams.specs.NamedRoutes.{arcs_along}
use Rattle.pre_streams.proofs.building.arcs_along.Given as goal

abbrev pub invariant-loop-rest : goal.invariant-loop-rest
invariant-loop-rest l = l.arcs ++ arcs_along l.net l.rest ≡ arcs_along l.net l.fn.route

abbrev pub decreases-loop-rest : goal.decreases-loop-rest
decreases-loop-rest l = length l.rest
