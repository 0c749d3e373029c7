use Rattle.std.proofs.Common.{◌≡◌, take}
use Rattle.pre_topo.specs.Made.{arcs_made}
use Rattle.pre_topo.proofs.building.arcs_made.Given as goal

abbrev pub invariant-loop-link : goal.invariant-loop-link
invariant-loop-link l = l.arcs ≡ arcs_made l.top l.nodes (take l.link-index l.links)
