use Rattle.std.proofs.Common.{◌≤◌, drop, false}
use Rattle.pre_base.specs.Told.{WhereTold}
use Rattle.pre_base.specs.Sinks.{TakesBut}
use Rattle.pre_picture.specs.Runs.{marks}
use Rattle.pre_picture.proofs.runs.put_marks.Given as goal

abbrev pub invariant-loop-seen : goal.invariant-loop-seen
invariant-loop-seen g l = record {
  taken : WhereTold (g.S.Sink.tells l.fn.sink) (g.S.Sink.tells l.sink) (TakesBut (marks l.scale l.y l.arc l.here (drop l.seen-index l.events)) (marks l.scale l.y l.arc false l.events));
  later : g.S.Sink.faults l.fn.sink ≤ g.S.Sink.faults l.sink;
}
