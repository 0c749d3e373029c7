use Rattle.std.proofs.Common.{◌≤◌, drop}
use Rattle.pre_base.specs.Told.{WhereTold}
use Rattle.pre_base.specs.Sinks.{TakesBut}
use Rattle.pre_trace.specs.Sums.{figures_from}
use Rattle.pre_trace.specs.SummaryText.{stream_lines}
use Rattle.pre_trace.proofs.summary_lines.put_streams.Given as goal

abbrev pub invariant-loop-bound : goal.invariant-loop-bound
invariant-loop-bound g l = record {
  taken : WhereTold (g.S.Sink.tells l.fn.sink) (g.S.Sink.tells l.sink) (TakesBut (stream_lines l.streams (figures_from l.summary.script.now l.summary.tallies) (drop l.bound-index l.bounds))
      (stream_lines l.streams (figures_from l.summary.script.now l.summary.tallies) l.bounds));
  later : g.S.Sink.faults l.fn.sink ≤ g.S.Sink.faults l.sink;
}
