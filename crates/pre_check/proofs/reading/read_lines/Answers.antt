use Rattle.std.proofs.Common.{◌≡◌, ◌∙◌, ℕ, List, [], Result, Ok, sym, ap, length}
use Rattle.pre_text.specs.Lines.{lines_of, numbered_lines}
use Rattle.pre_check.specs.Seen.{Seen, seen, nothing_seen}
use Rattle.pre_check.specs.Reading.{after_line, after_lines, then_after}
use Rattle.pre_check.proofs.Fitting.{line_small}
use Rattle.pre_check.proofs.Loops.{line_goes, next_comes, none_comes, ends}
use Rattle.pre_check.proofs.reading.read_lines.Goals as goal

pub loop-line-preserved : goal.loop-line-preserved
loop-line-preserved c =
    let net = c.args.net.now in
    let streams = c.args.streams.now in
    let due = c.args.due.now in
    let line : ℕ × List ℕ = (c.in-Some.line.number, c.in-Some.line.octets.now) in
    let went = line_goes _ (seen c.read_line.new.draft) (after_line net streams due (seen c.loop-line.draft) line) c.in_ok-read_line.ensures.exact in
    record {
      same = ap (λ (r : Result Seen (ℕ × ℕ)). then_after r (λ s. after_lines net streams due s c.next_line.new.self)) (sym went)
          ∙ ap (after_lines net streams due (seen c.loop-line.draft)) (sym c.in-Some.ensures.next)
          ∙ c.loop-line.invariant.same;
      place = next_comes c.loop-line.count c.in-Some.line.number c.in-Some.line.octets.now c.loop-line.lines c.next_line.new.self (length (lines_of c.args.text.now)) c.in-Some.ensures.next c.loop-line.invariant.place;
      room = c.in-Some.ensures.number;
      small = line_small net streams due (seen c.loop-line.draft) (seen c.read_line.new.draft) line c.loop-line.invariant.small went;
    }

pub returns : goal.returns
returns c =
    let net = c.args.net.now in
    let streams = c.args.streams.now in
    let due = c.args.due.now in
    let none : c.loop-line.lines ≡ [] = c.in_default.ensures.next.0 in
    let all = none_comes c.loop-line.count c.loop-line.lines (length (lines_of c.args.text.now)) none c.loop-line.invariant.place in
    let last : after_lines net streams due nothing_seen (numbered_lines c.args.text.now) ≡ Ok (seen c.loop-line.draft) = sym c.loop-line.invariant.same ∙ ap (after_lines net streams due (seen c.loop-line.draft)) none in
    ends c.ended.result (seen c.loop-line.draft) (after_lines net streams due nothing_seen (numbered_lines c.args.text.now)) due c.loop-line.count (length (lines_of c.args.text.now)) all last c.ended.ensures
