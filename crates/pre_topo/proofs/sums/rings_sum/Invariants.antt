use Rattle.std.proofs.Common.{◌≡◌, ◌≤◌, ◌*◌, sum, take}
use Rattle.pre_topo.proofs.sums.rings_sum.Given as goal

abbrev pub invariant-loop-ring : goal.invariant-loop-ring
invariant-loop-ring l = (l.total ≡ sum (take l.ring-index l.rings)) × (l.total ≤ 65535 * l.ring-index)
