use Rattle.std.proofs.Common.{◌≡◌, ◌≤◌, ◌+◌, ◌-◌, true}
use Rattle.pre_sim.proofs.Told.{GoesOnFrom}
use Rattle.pre_cli.proofs.replays.run_on.Given as goal

abbrev pub invariant-loop-last : goal.invariant-loop-last
invariant-loop-last g l = record {
  going : l.sim.going ≡ true;
  told : GoesOnFrom l.fn.sim l.sim (g.W.Watcher.took l.fn.watcher) (g.W.Watcher.took l.watcher);
  later : g.W.Watcher.faults l.fn.watcher ≤ g.W.Watcher.faults l.watcher;
  same : g.W.Watcher.same l.fn.watcher l.watcher;
}

abbrev pub decreases-loop-last : goal.decreases-loop-last
decreases-loop-last g l = l.sim.run.script.until.0 + 1 - l.sim.next
