use Rattle.std.proofs.Common.{◌≡◌, ◌≢◌, ℕ, ◌+◌, ◌*◌, ◌<◌, ◌≤◌, length}
use Rattle.pre_wheel.specs.Winners.{IsWon, node_at}
use Rattle.pre_wheel.proofs.entries.renew.Given as goal

abbrev pub invariant-loop-node : goal.invariant-loop-node
invariant-loop-node l = record {
  inside : 2 * l.node + 1 < length l.nodes;
  others : (i : ℕ) → 0 < i → 2 * i + 1 < length l.nodes → i ≢ l.node → IsWon l.nodes i;
  leaves : (k : ℕ) → length l.nodes ≤ 2 * k → node_at l.nodes k ≡ node_at l.fn.nodes k;
}

abbrev pub decreases-loop-node : goal.decreases-loop-node
decreases-loop-node l = l.node
