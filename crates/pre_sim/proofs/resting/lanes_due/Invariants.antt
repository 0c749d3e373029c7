use Rattle.std.proofs.Common.{◌≤◌}
use Rattle.pre_sim.proofs.RestingLanes.{AreResting}
use Rattle.pre_sim.proofs.resting.lanes_due.Given as goal

abbrev pub invariant-loop-arc : goal.invariant-loop-arc
invariant-loop-arc l = record {
  until : l.due ≤ l.fn.until;
  rests : AreResting l.fn.net l.fn.lanes l.fn.now.0 l.arc l.due;
}
