use Rattle.std.proofs.Common.{◌≡◌, drop, filter_map, max}
use Rattle.pre_picture.specs.Delays.{delay_at, greatest, greatest_delay}
use Rattle.pre_picture.proofs.delays.Sent.greatest_delay.Given as goal

abbrev pub invariant-loop-seen : goal.invariant-loop-seen
invariant-loop-seen l =
    max l.most (greatest (filter_map (delay_at l.self.events.now l.row) (drop l.seen-index l.self.events.now))) ≡ greatest_delay l.self.events.now l.row
