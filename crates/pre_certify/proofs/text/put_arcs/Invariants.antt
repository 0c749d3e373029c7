use Rattle.std.proofs.Common.{◌≤◌, drop}
use Rattle.pre_base.specs.Told.{WhereTold}
use Rattle.pre_base.specs.Sinks.{TakesBut}
use Rattle.pre_certify.specs.Text.{arc_lines}
use Rattle.pre_certify.proofs.text.put_arcs.Given as goal

abbrev pub invariant-loop-row : goal.invariant-loop-row
invariant-loop-row g l = record {
  taken : WhereTold (g.S.Sink.tells l.fn.sink) (g.S.Sink.tells l.sink) (TakesBut (arc_lines l.net (drop l.row-index l.rows)) (arc_lines l.net l.rows));
  later : g.S.Sink.faults l.fn.sink ≤ g.S.Sink.faults l.sink;
}
