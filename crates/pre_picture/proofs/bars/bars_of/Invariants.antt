use Rattle.std.proofs.Common.{◌≡◌, ◌≤◌, drop, length}
use Rattle.pre_picture.specs.Bars.{bars, Follow}
use Rattle.pre_picture.proofs.bars.bars_of.Given as goal

abbrev pub invariant-loop-at : goal.invariant-loop-at
invariant-loop-at l = record {
  within : l.at ≤ length l.events;
  follow : Follow l.stops (drop l.at l.events);
  found : l.found ≡ bars (drop l.at l.events);
}

abbrev pub decreases-loop-at : goal.decreases-loop-at
decreases-loop-at l = l.at
