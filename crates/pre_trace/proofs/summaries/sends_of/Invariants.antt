use Rattle.std.proofs.Common.{◌≡◌, ◌≤◌, take}
use Rattle.std.specs.List.{count_by}
use Rattle.pre_trace.specs.Figures.{is_sent}
use Rattle.pre_trace.proofs.summaries.sends_of.Given as goal

abbrev pub invariant-loop-line : goal.invariant-loop-line
invariant-loop-line l = (l.count ≡ count_by (is_sent l.fn.script l.fn.stream.0) (take l.line-index l.fn.script.sends)) × (l.count ≤ l.line-index)
