use Rattle.std.proofs.Common.{◌≡◌, ◌∙◌, ℕ, List, [], Result, Ok, sym, ap, length}
use Rattle.pre_text.specs.Lines.{lines_of, numbered_lines}
use Rattle.pre_script.specs.Drafts.{seen}
use Rattle.pre_script.specs.Seen.{Seen, nothing_seen}
use Rattle.pre_script.specs.Reading.{after_line, after_lines, then_after}
use Rattle.pre_script.proofs.Fitting.{read_fits}
use Rattle.pre_script.proofs.Loops.{line_goes, next_comes, none_comes, ends}
use Rattle.pre_script.proofs.reading.read_script.Goals as goal

pub loop-line-preserved : goal.loop-line-preserved
loop-line-preserved c =
    let net = c.args.net.now in
    let streams = c.args.streams.now in
    let line : ℕ × List ℕ = (c.in-Some.line.number, c.in-Some.line.octets.now) in
    let went = line_goes _ (seen c.read_line.new.draft) (after_line net streams (seen c.loop-line.draft) line) c.in_ok-read_line.ensures.exact in
    record {
      same = ap (λ (r : Result Seen (ℕ × ℕ)). then_after r (λ s. after_lines net streams s c.next_line.new.self)) (sym went)
          ∙ ap (after_lines net streams (seen c.loop-line.draft)) (sym c.in-Some.ensures.next)
          ∙ c.loop-line.invariant.same;
      place = next_comes c.loop-line.count c.in-Some.line.number c.in-Some.line.octets.now c.loop-line.lines c.next_line.new.self (length (lines_of c.args.text.now)) c.in-Some.ensures.next c.loop-line.invariant.place;
      latest = c.in_ok-read_line.ensures.latest;
      room = c.in-Some.ensures.number;
    }

pub returns-clause-exact : goal.returns-clause-exact
returns-clause-exact c =
    let net = c.args.net.now in
    let streams = c.args.streams.now in
    let none : c.loop-line.lines ≡ [] = c.in_default.ensures.next.0 in
    let all = none_comes c.loop-line.count c.loop-line.lines (length (lines_of c.args.text.now)) none c.loop-line.invariant.place in
    let last : after_lines net streams nothing_seen (numbered_lines c.args.text.now) ≡ Ok (seen c.loop-line.draft) = sym c.loop-line.invariant.same ∙ ap (after_lines net streams (seen c.loop-line.draft)) none in
    ends c.ended.result (seen c.loop-line.draft) (after_lines net streams nothing_seen (numbered_lines c.args.text.now)) c.loop-line.count (length (lines_of c.args.text.now)) all last c.ended.ensures

pub returns-clause-fits : goal.returns-clause-fits
returns-clause-fits c = read_fits c.args.net.now c.args.streams.now c.args.text.now c.ended.result (returns-clause-exact c)
