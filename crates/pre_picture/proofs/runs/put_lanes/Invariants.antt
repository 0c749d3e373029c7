use Rattle.std.proofs.Common.{◌≡◌, ◌≤◌, ◌+◌, ◌*◌, drop}
use Rattle.pre_base.specs.Told.{WhereTold}
use Rattle.pre_base.specs.Sinks.{TakesBut}
use Rattle.pre_picture.specs.Runs.{lanes}
use Rattle.pre_picture.proofs.runs.put_lanes.Given as goal

abbrev pub invariant-loop-arc : goal.invariant-loop-arc
invariant-loop-arc g l = record {
  place : l.y ≡ 620 + 330 * l.arc-index;
  taken : WhereTold (g.S.Sink.tells l.fn.sink) (g.S.Sink.tells l.sink)
      (TakesBut (lanes l.run.net.now l.run.scale l.run.bars.now l.run.events.now l.y (drop l.arc-index l.arcs)) (lanes l.run.net.now l.run.scale l.run.bars.now l.run.events.now 620 l.arcs));
  later : g.S.Sink.faults l.fn.sink ≤ g.S.Sink.faults l.sink;
}
