use Rattle.std.proofs.Common.{◌≡◌, ◌-◌, ◌≤◌, List, [], length, take, vec_len}
use Rattle.pre_script.specs.declared.scripts.SetLine.{SetLine}
use Rattle.pre_history.specs.History.{History}
use Rattle.pre_bridge.specs.Inside.{Entry}
use Rattle.pre_sim.specs.Telling.{TellsAll}
use Rattle.pre_sim.specs.Keeps.{Keeps, SameLinks}
use Rattle.pre_sim.specs.Parts.{scenario_of}
use Rattle.pre_sim.proofs.SetsParts.{AreTold, AreSetBy}
use Rattle.pre_sim.proofs.ticks.sets.Given as goal

abbrev pub invariant-loop-progress : goal.invariant-loop-progress
invariant-loop-progress g l = record {
  part : (es : History) × (lines : List SetLine) × TellsAll l.plan.net.now (g.W.Watcher.took l.fn.watcher) (g.W.Watcher.took l.watcher) es
      × AreTold (scenario_of l.plan) l.now.0 l.fn.progress.set l.progress.set lines es;
  by : AreSetBy (take l.fn.progress.set l.plan.script.now.sets) (take l.progress.set l.plan.script.now.sets) l.fn.progress.lanes.items l.progress.lanes.items;
  keeps : (entries : List Entry) → Keeps (scenario_of l.plan) l.fn.progress.store l.fn.progress.lanes.items entries []
      → Keeps (scenario_of l.plan) l.fn.progress.store l.progress.lanes.items entries [];
  lanes : vec_len l.progress.lanes ≡ length l.plan.net.now.arcs;
  links : SameLinks l.fn.progress.lanes.items l.progress.lanes.items;
  relay : l.progress.relay ≡ l.fn.progress.relay;
  store : l.progress.store ≡ l.fn.progress.store;
  sent : l.progress.sent ≡ l.fn.progress.sent;
  delivered : l.progress.delivered ≡ l.fn.progress.delivered;
  dropped : l.progress.dropped ≡ l.fn.progress.dropped;
  later : g.W.Watcher.faults l.fn.watcher ≤ g.W.Watcher.faults l.watcher;
  same : g.W.Watcher.same l.fn.watcher l.watcher;
}

abbrev pub decreases-loop-progress : goal.decreases-loop-progress
decreases-loop-progress g l = length l.lines - l.progress.set
