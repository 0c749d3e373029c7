use Rattle.std.proofs.Common.{◌≡◌, [], length}
use Rattle.pre_text.specs.Lines.{numbered_lines}
use Rattle.pre_picture.specs.Traces.{after_lines}
use Rattle.pre_picture.proofs.traces.read_trace.Given as goal

abbrev pub invariant-loop-line : goal.invariant-loop-line
invariant-loop-line l = after_lines l.net l.found l.lines ≡ after_lines l.net [] (numbered_lines l.text)

abbrev pub decreases-loop-line : goal.decreases-loop-line
decreases-loop-line l = length l.lines
