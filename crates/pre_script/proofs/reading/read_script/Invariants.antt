use Rattle.std.proofs.Common.{◌≡◌, ◌+◌, ◌^◌, ◌<◌, length}
use Rattle.pre_text.specs.Lines.{lines_of, numbered_lines}
use Rattle.pre_script.specs.Drafts.{seen, IsLatest}
use Rattle.pre_script.specs.Seen.{nothing_seen}
use Rattle.pre_script.specs.Reading.{after_lines}
use Rattle.pre_script.proofs.Loops.{ComeNext}
use Rattle.pre_script.proofs.reading.read_script.Given as goal

abbrev pub invariant-loop-line : goal.invariant-loop-line
invariant-loop-line l = record {
  same : after_lines l.net l.streams (seen l.draft) l.lines ≡ after_lines l.net l.streams nothing_seen (numbered_lines l.text);
  place : ComeNext l.count l.lines (length (lines_of l.text));
  latest : IsLatest l.draft;
  room : l.count + 1 < 2 ^ 64;
}

abbrev pub decreases-loop-line : goal.decreases-loop-line
decreases-loop-line l = length l.lines
