use Rattle.std.proofs.Common.{◌≡◌, drop, max}
use Rattle.pre_picture.specs.Bounds.{reach_of}
use Rattle.pre_picture.proofs.bounds.reach_of.Given as goal

abbrev pub invariant-loop-stream : goal.invariant-loop-stream
invariant-loop-stream l = max l.most (reach_of l.sent.events.now l.rows (drop l.stream-index l.bounds)) ≡ reach_of l.sent.events.now l.rows l.bounds
