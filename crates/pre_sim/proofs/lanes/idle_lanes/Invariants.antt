use Rattle.std.proofs.Common.{◌≡◌, ℕ, Some, vec_len}
use Rattle.std.specs.Prelude.{slice_get, slice_index_or}
use Rattle.pre_history.specs.Scenario.{no_arc}
use Rattle.pre_sim.specs.declared.lanes.Lane.{Lane}
use Rattle.pre_sim.specs.Lanes.{IsIdle}
use Rattle.pre_sim.proofs.lanes.idle_lanes.Given as goal

abbrev pub invariant-loop-arc : goal.invariant-loop-arc
invariant-loop-arc l = record {
  long : vec_len l.lanes ≡ l.arc-index;
  each : (a : ℕ) (lane : Lane) → slice_get l.lanes.items a ≡ Some lane → IsIdle l.fn.net.timing (slice_index_or l.arcs a no_arc) lane;
}
