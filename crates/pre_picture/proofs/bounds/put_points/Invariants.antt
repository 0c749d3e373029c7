use Rattle.std.proofs.Common.{◌≤◌, drop}
use Rattle.std.specs.List.{flat_map}
use Rattle.pre_base.specs.Told.{WhereTold}
use Rattle.pre_base.specs.Sinks.{TakesBut}
use Rattle.pre_picture.specs.Bounds.{point_at, points}
use Rattle.pre_picture.proofs.bounds.put_points.Given as goal

abbrev pub invariant-loop-seen : goal.invariant-loop-seen
invariant-loop-seen g l = record {
  taken : WhereTold (g.S.Sink.tells l.fn.sink) (g.S.Sink.tells l.sink)
      (TakesBut (flat_map (point_at l.sent.events.now l.row l.scale l.y) (drop l.seen-index l.sent.events.now)) (points l.sent.events.now l.row l.scale l.y));
  later : g.S.Sink.faults l.fn.sink ≤ g.S.Sink.faults l.sink;
}
