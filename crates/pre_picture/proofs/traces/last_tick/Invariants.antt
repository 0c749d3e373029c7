use Rattle.std.proofs.Common.{◌≡◌, max, drop}
use Rattle.pre_picture.specs.Traces.{last_tick}
use Rattle.pre_picture.proofs.traces.last_tick.Given as goal

abbrev pub invariant-loop-seen : goal.invariant-loop-seen
invariant-loop-seen l = max l.last (last_tick (drop l.seen-index l.events)) ≡ last_tick l.events
