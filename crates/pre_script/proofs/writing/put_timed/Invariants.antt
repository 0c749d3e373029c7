use Rattle.std.proofs.Common.{◌≤◌, drop}
use Rattle.pre_base.specs.Told.{WhereTold}
use Rattle.pre_base.specs.Sinks.{TakesBut}
use Rattle.pre_script.specs.Text.{timed_lines}
use Rattle.pre_script.proofs.writing.put_timed.Given as goal

abbrev pub invariant-loop-line : goal.invariant-loop-line
invariant-loop-line g l = record {
  taken : WhereTold (g.S.Sink.tells l.fn.sink) (g.S.Sink.tells l.sink) (TakesBut (timed_lines l.net l.streams (drop l.line-index l.sends) l.rest) (timed_lines l.net l.streams l.sends l.sets));
  later : g.S.Sink.faults l.fn.sink ≤ g.S.Sink.faults l.sink;
}
