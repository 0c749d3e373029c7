use Rattle.std.proofs.Common.{◌≡◌, ◌≤◌, length}
use Rattle.pre_history.specs.History.{History}
use Rattle.pre_sim.specs.Telling.{TellsAll}
use Rattle.pre_sim.specs.Keeps.{SameLinks}
use Rattle.pre_sim.specs.Parts.{scenario_of}
use Rattle.pre_sim.proofs.EntriesTakes.{TakesPart, IsStanding}
use Rattle.pre_sim.proofs.entering.relays.Given as goal

abbrev pub invariant-loop-arc : goal.invariant-loop-arc
invariant-loop-arc g l = record {
  part : (es : History) × TellsAll l.plan.net.now (g.W.Watcher.took l.fn.watcher) (g.W.Watcher.took l.watcher) es
      × TakesPart (scenario_of l.plan) l.now.0 l.fn.relay l.relay l.fn.lanes l.lanes l._arc l.lost es;
  kept : IsStanding (scenario_of l.plan) l.store l.relay l.lanes;
  links : SameLinks l.fn.lanes l.lanes;
  latest : l.relay.latest ≡ l.fn.relay.latest;
  long : length l.lanes ≡ length l.fn.lanes;
  few : l.lost ≤ l._arc;
  later : g.W.Watcher.faults l.fn.watcher ≤ g.W.Watcher.faults l.watcher;
  same : g.W.Watcher.same l.fn.watcher l.watcher;
}
