use Rattle.std.proofs.Common.{ℕ, ◌+◌, ◌*◌, ◌<◌, ◌≤◌, ◌≡◌, [], length, Some}
use Rattle.std.specs.Prelude.{slice_get}
use Rattle.pre_history.specs.History.{History}
use Rattle.pre_sim.specs.Telling.{TellsAll}
use Rattle.pre_links.specs.Standing.{IsReady, IsUpTo}
use Rattle.pre_sim.specs.declared.lanes.Lane.{Lane}
use Rattle.pre_sim.specs.Keeps.{Store}
use Rattle.pre_sim.specs.Parts.{LanesPart, scenario_of}
use Rattle.pre_sim.proofs.expiries.expiries.Given as goal

abbrev pub invariant-loop-arc : goal.invariant-loop-arc
invariant-loop-arc g l = record {
  long : length l.lanes ≡ length l.plan.net.now.arcs;
  settled : (a : ℕ) (lane : Lane) → slice_get l.lanes a ≡ Some lane → (a < l.arc → IsUpTo lane.link l.now.0) × (l.arc ≤ a → IsReady lane.link l.now.0);
  part : (es : History) × TellsAll l.plan.net.now (g.W.Watcher.took l.fn.watcher) (g.W.Watcher.took l.watcher) es
      × ((store : Store) → LanesPart (scenario_of l.plan) l.now.0 (1 + 2 * length l.plan.net.now.arcs) l.arc 0 store store l.fn.lanes l.lanes [] es);
  later : g.W.Watcher.faults l.fn.watcher ≤ g.W.Watcher.faults l.watcher;
  same : g.W.Watcher.same l.fn.watcher l.watcher;
}
