use Rattle.std.proofs.Common.{◌≡◌, ◌≤◌, sum_by, take}
use Rattle.pre_topo.specs.Arcs.{slots_of_arc}
use Rattle.pre_topo.proofs.sums.slots_fit.Given as goal

abbrev pub invariant-loop-arc : goal.invariant-loop-arc
invariant-loop-arc l = (l.total ≡ sum_by (slots_of_arc l.nodes) (take l.arc-index l.arcs)) × (l.total ≤ 60000)
