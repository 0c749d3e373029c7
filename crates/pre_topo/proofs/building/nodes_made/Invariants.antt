use Rattle.std.proofs.Common.{◌≡◌, take}
use Rattle.pre_topo.specs.Made.{nodes_made}
use Rattle.pre_topo.proofs.building.nodes_made.Given as goal

abbrev pub invariant-loop-node : goal.invariant-loop-node
invariant-loop-node l = l.made ≡ nodes_made (take l.node-index l.nodes)
