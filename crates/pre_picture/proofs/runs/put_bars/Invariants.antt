use Rattle.std.proofs.Common.{◌≤◌, drop}
use Rattle.pre_base.specs.Told.{WhereTold}
use Rattle.pre_base.specs.Sinks.{TakesBut}
use Rattle.pre_picture.specs.Runs.{lane_bars}
use Rattle.pre_picture.proofs.runs.put_bars.Given as goal

abbrev pub invariant-loop-bar : goal.invariant-loop-bar
invariant-loop-bar g l = record {
  taken : WhereTold (g.S.Sink.tells l.fn.sink) (g.S.Sink.tells l.sink) (TakesBut (lane_bars l.scale l.y l.arc (drop l.bar-index l.bars)) (lane_bars l.scale l.y l.arc l.bars));
  later : g.S.Sink.faults l.fn.sink ≤ g.S.Sink.faults l.sink;
}
