use Rattle.std.proofs.Common.{◌≤◌, drop}
use Rattle.std.specs.List.{flat_map}
use Rattle.pre_base.specs.Told.{WhereTold}
use Rattle.pre_base.specs.Sinks.{TakesBut}
use Rattle.pre_trace.specs.Text.{line}
use Rattle.pre_trace.specs.Sums.{plain_closing}
use Rattle.pre_trace.proofs.summary_lines.put_closings.Given as goal

abbrev pub invariant-loop-closing : goal.invariant-loop-closing
invariant-loop-closing g l = record {
  taken : WhereTold (g.S.Sink.tells l.fn.sink) (g.S.Sink.tells l.sink) (TakesBut (flat_map (λ c. line l.net (plain_closing c)) (drop l.closing-index l.closings))
      (flat_map (λ c. line l.net (plain_closing c)) l.closings));
  later : g.S.Sink.faults l.fn.sink ≤ g.S.Sink.faults l.sink;
}
