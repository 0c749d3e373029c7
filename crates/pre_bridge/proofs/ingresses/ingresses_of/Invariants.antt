use Rattle.std.proofs.Common.{◌≡◌, map, take}
use Rattle.pre_bridge.specs.Ingresses.{ingress_of}
use Rattle.pre_bridge.proofs.ingresses.ingresses_of.Given as goal

abbrev pub invariant-loop-arc : goal.invariant-loop-arc
invariant-loop-arc l = l.ingresses.items ≡ map (ingress_of l.nodes) (take l.arc-index l.arcs)
