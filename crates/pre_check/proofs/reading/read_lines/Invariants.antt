use Rattle.std.proofs.Common.{◌≡◌, ◌+◌, ◌^◌, ◌<◌, length}
use Rattle.pre_text.specs.Lines.{lines_of, numbered_lines}
use Rattle.pre_check.specs.Seen.{seen, nothing_seen}
use Rattle.pre_check.specs.Reading.{after_lines, AreSmall}
use Rattle.pre_check.proofs.Loops.{ComeNext}
use Rattle.pre_check.proofs.reading.read_lines.Given as goal

abbrev pub invariant-loop-line : goal.invariant-loop-line
invariant-loop-line l = record {
  same : after_lines l.net l.streams l.due (seen l.draft) l.lines ≡ after_lines l.net l.streams l.due nothing_seen (numbered_lines l.text);
  place : ComeNext l.count l.lines (length (lines_of l.text));
  room : l.count + 1 < 2 ^ 64;
  small : AreSmall (seen l.draft);
}

abbrev pub decreases-loop-line : goal.decreases-loop-line
decreases-loop-line l = length l.lines
