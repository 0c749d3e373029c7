use Rattle.std.proofs.Common.{◌≡◌, ◌≤◌, ◌+◌, length}
use Rattle.pre_history.specs.History.{History}
use Rattle.pre_sim.specs.Telling.{TellsAll}
use Rattle.pre_sim.specs.Keeps.{AreReady}
use Rattle.pre_sim.specs.Parts.{ArrivalsPart, scenario_of}
use Rattle.pre_sim.proofs.arrivals.arrivals.Given as goal

abbrev pub invariant-loop-arc : goal.invariant-loop-arc
invariant-loop-arc g l = record {
  long : length l.lanes ≡ length l.plan.net.now.arcs;
  ready : AreReady l.now.0 l.lanes;
  part : (es : History) × TellsAll l.plan.net.now (g.W.Watcher.took l.fn.watcher) (g.W.Watcher.took l.watcher) es
      × ArrivalsPart (scenario_of l.plan) l.now.0 (1 + length l.plan.net.now.arcs) l.arc l.delivered l.fn.store l.store l.fn.relay l.relay l.fn.lanes l.lanes es;
  few : l.delivered ≤ l.arc;
  latest : l.relay.latest.0 ≤ l.now.0;
  later : g.W.Watcher.faults l.fn.watcher ≤ g.W.Watcher.faults l.watcher;
  same : g.W.Watcher.same l.fn.watcher l.watcher;
}
