use Rattle.std.proofs.Common.{◌≤◌, drop}
use Rattle.pre_base.specs.Told.{WhereTold}
use Rattle.pre_base.specs.Sinks.{TakesBut}
use Rattle.pre_cli.specs.Statuses.{arc_numbers}
use Rattle.pre_cli.proofs.refusals.put_arcs.Given as goal

abbrev pub invariant-loop-arc : goal.invariant-loop-arc
invariant-loop-arc g l = record {
  taken : WhereTold (g.S.Sink.tells l.fn.sink) (g.S.Sink.tells l.sink) (TakesBut (arc_numbers (drop l.arc-index l.arcs)) (arc_numbers l.arcs));
  later : g.S.Sink.faults l.fn.sink ≤ g.S.Sink.faults l.sink;
}
