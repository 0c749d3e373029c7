use Rattle.std.proofs.Common.{◌≡◌, ◌+◌, ◌-◌, ◌≤◌, ◌<◌, ℕ, length, vec_len}
use Rattle.pre_history.specs.Scenario.{send}
use Rattle.pre_history.specs.History.{History}
use Rattle.pre_sim.specs.Telling.{TellsAll}
use Rattle.pre_sim.specs.Reach.{IsWithin}
use Rattle.pre_sim.specs.Keeps.{IsKept, SameLinks}
use Rattle.pre_sim.specs.Parts.{scenario_of}
use Rattle.pre_sim.specs.Sends.{ComesPart, sent_frames}
use Rattle.pre_sim.proofs.ticks.sends.Given as goal

abbrev pub invariant-loop-progress : goal.invariant-loop-progress
invariant-loop-progress g l = record {
  part : (es : History) × (count : ℕ) × (lost : ℕ) × TellsAll l.plan.net.now (g.W.Watcher.took l.fn.watcher) (g.W.Watcher.took l.watcher) es
      × ComesPart (scenario_of l.plan) l.now.0 (sent_frames (scenario_of l.plan) l.fn.progress.sent count) l.fn.progress.lanes.items l.progress.lanes.items lost es
      × (l.progress.sent ≡ l.fn.progress.sent + count) × (l.progress.dropped ≡ l.fn.progress.dropped + lost);
  this_tick : (k : ℕ) → l.fn.progress.sent ≤ k → k < l.progress.sent → (send (scenario_of l.plan) k).send.tick.0 ≡ l.now.0;
  known : l.fn.progress.sent ≤ length l.plan.script.now.sends → l.progress.sent ≤ length l.plan.script.now.sends;
  lanes : vec_len l.progress.lanes ≡ length l.plan.net.now.arcs;
  counts : IsWithin (l.now.0 + 1) l.progress;
  set : l.progress.set ≡ l.fn.progress.set;
  links : SameLinks l.fn.progress.lanes.items l.progress.lanes.items;
  delivered : l.progress.delivered ≡ l.fn.progress.delivered;
  relay : l.progress.relay ≡ l.fn.progress.relay;
  kept : IsKept (scenario_of l.plan) l.now.0 l.progress;
  later : g.W.Watcher.faults l.fn.watcher ≤ g.W.Watcher.faults l.watcher;
  same : g.W.Watcher.same l.fn.watcher l.watcher;
}

abbrev pub decreases-loop-progress : goal.decreases-loop-progress
decreases-loop-progress g l = length l.lines - l.progress.sent
