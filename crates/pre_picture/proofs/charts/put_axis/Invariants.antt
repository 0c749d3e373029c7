use Rattle.std.proofs.Common.{◌≤◌, ◌-◌}
use Rattle.std.specs.List.{flat_map, range_with_len}
use Rattle.pre_base.specs.Told.{WhereTold}
use Rattle.pre_base.specs.Sinks.{TakesBut}
use Rattle.pre_picture.specs.Charts.{axis_mark, axis}
use Rattle.pre_picture.proofs.charts.put_axis.Given as goal

abbrev pub invariant-loop-mark : goal.invariant-loop-mark
invariant-loop-mark g l = record {
  taken : WhereTold (g.S.Sink.tells l.fn.sink) (g.S.Sink.tells l.sink)
      (TakesBut (flat_map (axis_mark l.scale l.top l.height) (range_with_len l.mark (11 - l.mark))) (axis l.scale l.top l.height));
  later : g.S.Sink.faults l.fn.sink ≤ g.S.Sink.faults l.sink;
}
