use Rattle.std.proofs.Common.{◌≤◌, drop, length}
use Rattle.pre_picture.specs.Delays.{Knows}
use Rattle.pre_picture.proofs.delays.entries.Given as goal

abbrev pub invariant-loop-at : goal.invariant-loop-at
invariant-loop-at l = record {
  within : l.at ≤ length l.events;
  knows : Knows l.first (drop l.at l.events);
}

abbrev pub decreases-loop-at : goal.decreases-loop-at
decreases-loop-at l = l.at
