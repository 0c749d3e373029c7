use Rattle.std.proofs.Common.{◌≡◌, ◌≤◌, sum_by, take}
use Rattle.pre_topo.specs.Arcs.{wires_of_arc}
use Rattle.pre_topo.proofs.sums.wires_fit.Given as goal

abbrev pub invariant-loop-arc : goal.invariant-loop-arc
invariant-loop-arc l = (l.total ≡ sum_by wires_of_arc (take l.arc-index l.arcs)) × (l.total ≤ 67108864)
