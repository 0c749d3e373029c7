use Rattle.std.proofs.Common.{◌≡◌, ◌+◌, ◌≤◌, length}
use Rattle.pre_certify.specs.Peels.{Peeled, open_count}
use Rattle.pre_certify.proofs.ranks.peeled.Given as goal

abbrev pub invariant-loop-left : goal.invariant-loop-left
invariant-loop-left l = record {
  long : length l.ranks ≡ l.arcs;
  left : l.left ≡ open_count l.ranks;
  peeled : Peeled l.rows l.round l.ranks;
  few : l.round + l.left ≤ l.arcs;
}

abbrev pub decreases-loop-left : goal.decreases-loop-left
decreases-loop-left l = l.left
