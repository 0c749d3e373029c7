use Rattle.std.proofs.Common.{◌≤◌}
use Rattle.pre_history.specs.History.{History}
use Rattle.pre_sim.specs.Telling.{TellsAll}
use Rattle.pre_sim.specs.Parts.{CountsPart, scenario_of}
use Rattle.pre_sim.proofs.closing.counts.Given as goal

abbrev pub invariant-loop-arc : goal.invariant-loop-arc
invariant-loop-arc g l = record {
  part : (es : History) × TellsAll l.plan.net.now (g.W.Watcher.took l.fn.watcher) (g.W.Watcher.took l.watcher) es × CountsPart (scenario_of l.plan) l.progress l.arc es;
  later : g.W.Watcher.faults l.fn.watcher ≤ g.W.Watcher.faults l.watcher;
  same : g.W.Watcher.same l.fn.watcher l.watcher;
}
