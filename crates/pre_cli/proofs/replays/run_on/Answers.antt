use Rattle.std.proofs.Common.{rules}
use Rattle.pre_sim.proofs.Told.{goes_nowhere, goes_further, step_then}
use Rattle.pre_cli.proofs.Steps.{cause_then}
use Rattle.pre_cli.proofs.replays.run_on.Goals as goal

pub loop-last-init : goal.loop-last-init
loop-last-init g c = record {
  going = search rules;
  told = goes_nowhere c.args.sim.now (g.W.Watcher.took c.args.watcher.now);
  later = search rules;
  same = search rules;
}

pub loop-last-preserved : goal.loop-last-preserved
loop-last-preserved g c =
    let took = g.W.Watcher.took in
    record {
      going = search rules;
      told = goes_further c.args.sim.now c.loop-last.sim c.step.new.self (took c.args.watcher.now) (took c.loop-last.watcher) (took c.step.new.watcher) (g.W.Watcher.torn c.step.new.watcher)
          c.loop-last.invariant.told c.in-More.ensures.kept c.in-More.ensures.told;
      later = search rules;
      same = search rules;
    }

pub returns-in_default : goal.returns-in_default
returns-in_default g c =
    let took = g.W.Watcher.took in
    record {
      last = search rules;
      told = step_then c.args.sim.now c.loop-last.sim c.step.new.self c.step.result (took c.args.watcher.now) (took c.loop-last.watcher) (took c.step.new.watcher) (g.W.Watcher.torn c.step.new.watcher)
          c.loop-last.invariant.told c.step.ensures.told;
      cause = cause_then c.step.result (g.W.Watcher.faults c.args.watcher.now) (g.W.Watcher.faults c.loop-last.watcher) (g.W.Watcher.faults c.step.new.watcher) c.loop-last.invariant.later c.step.ensures.cause;
      same = search rules;
    }
