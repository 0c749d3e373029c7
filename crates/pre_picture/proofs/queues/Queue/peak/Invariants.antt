use Rattle.std.proofs.Common.{◌≡◌, drop, max}
use Rattle.pre_picture.specs.Queues.{peak_from, peak}
use Rattle.pre_picture.proofs.queues.Queue.peak.Given as goal

abbrev pub invariant-loop-seen : goal.invariant-loop-seen
invariant-loop-seen l =
    max l.most (peak_from l.self.sent.events.now l.self.port l.level (drop l.seen-index l.self.sent.events.now)) ≡ peak l.self.sent.events.now l.self.port
