use Rattle.std.proofs.Common.{◌≤◌, drop, length}
use Rattle.pre_picture.specs.Queues.{KnowsSizes}
use Rattle.pre_picture.proofs.queues.sizes_of.Given as goal

abbrev pub invariant-loop-at : goal.invariant-loop-at
invariant-loop-at l = record {
  within : l.at ≤ length l.bars;
  knows : KnowsSizes l.sizes (drop l.at l.bars);
}

abbrev pub decreases-loop-at : goal.decreases-loop-at
decreases-loop-at l = l.at
