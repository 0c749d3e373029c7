use Rattle.std.proofs.Common.{◌≤◌, drop}
use Rattle.pre_base.specs.Told.{WhereTold}
use Rattle.pre_base.specs.Sinks.{TakesBut}
use Rattle.pre_cli.specs.Outcomes.{held_lines}
use Rattle.pre_cli.proofs.outcomes.put_outcomes.Given as goal

abbrev pub invariant-loop-outcome : goal.invariant-loop-outcome
invariant-loop-outcome g l = record {
  taken : WhereTold (g.S.Sink.tells l.fn.sink) (g.S.Sink.tells l.sink) (TakesBut (held_lines l.held (drop l.outcome-index l.outcomes)) (held_lines l.held l.outcomes));
  later : g.S.Sink.faults l.fn.sink ≤ g.S.Sink.faults l.sink;
}
