use Rattle.std.proofs.Common.{◌≤◌, ◌≡◌, [], length}
use Rattle.pre_history.specs.History.{History}
use Rattle.pre_sim.specs.Telling.{TellsAll}
use Rattle.pre_sim.specs.Keeps.{AreReady}
use Rattle.pre_sim.specs.Parts.{LanesPart, scenario_of}
use Rattle.pre_sim.proofs.ends.ends.Given as goal

abbrev pub invariant-loop-arc : goal.invariant-loop-arc
invariant-loop-arc g l = record {
  long : length l.lanes ≡ length l.plan.net.now.arcs;
  ready : AreReady l.now.0 l.lanes;
  part : (es : History) × TellsAll l.plan.net.now (g.W.Watcher.took l.fn.watcher) (g.W.Watcher.took l.watcher) es
      × LanesPart (scenario_of l.plan) l.now.0 1 l.arc 0 l.fn.store l.store l.fn.lanes l.lanes [] es;
  later : g.W.Watcher.faults l.fn.watcher ≤ g.W.Watcher.faults l.watcher;
  same : g.W.Watcher.same l.fn.watcher l.watcher;
}
