use Rattle.std.proofs.Common.{◌≡◌, ◌≤◌, ◌+◌, ◌*◌, drop}
use Rattle.pre_base.specs.Told.{WhereTold}
use Rattle.pre_base.specs.Sinks.{TakesBut}
use Rattle.pre_picture.specs.Bounds.{rows_of}
use Rattle.pre_picture.proofs.bounds.put_rows.Given as goal

abbrev pub invariant-loop-bound : goal.invariant-loop-bound
invariant-loop-bound g l = record {
  place : l.y ≡ 620 + 300 * l.bound-index;
  taken : WhereTold (g.S.Sink.tells l.fn.sink) (g.S.Sink.tells l.sink)
      (TakesBut (rows_of l.sent.events.now l.rows l.scale l.y (drop l.bound-index l.bounds)) (rows_of l.sent.events.now l.rows l.scale 620 l.bounds));
  later : g.S.Sink.faults l.fn.sink ≤ g.S.Sink.faults l.sink;
}
