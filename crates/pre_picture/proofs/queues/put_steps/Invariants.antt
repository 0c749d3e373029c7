use Rattle.std.proofs.Common.{◌≤◌, drop}
use Rattle.pre_base.specs.Told.{WhereTold}
use Rattle.pre_base.specs.Sinks.{TakesBut}
use Rattle.pre_picture.specs.Queues.{steps}
use Rattle.pre_picture.proofs.queues.put_steps.Given as goal

abbrev pub invariant-loop-seen : goal.invariant-loop-seen
invariant-loop-seen g l = record {
  taken : WhereTold (g.S.Sink.tells l.fn.sink) (g.S.Sink.tells l.sink)
      (TakesBut (steps l.queue.sent.events.now l.queue.port l.field.across l.field.up l.since l.level (drop l.seen-index l.queue.sent.events.now))
      (steps l.queue.sent.events.now l.queue.port l.field.across l.field.up 0 0 l.queue.sent.events.now));
  later : g.S.Sink.faults l.fn.sink ≤ g.S.Sink.faults l.sink;
}
