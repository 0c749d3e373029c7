use Rattle.std.proofs.Common.{◌∙◌, List, ap, subst, length}
use Rattle.pre_text.specs.Lines.{lines_of, numbered_lines}
use Rattle.pre_check.specs.declared.due.Due.{Due}
use Rattle.pre_check.specs.Due.{due_lines}
use Rattle.pre_check.specs.Seen.{nothing_seen}
use Rattle.pre_check.specs.Reading.{ReadsAs, after_lines, ended}
use Rattle.pre_check.proofs.Matching.{rows_read}
use Rattle.pre_check.proofs.reading.read_certificate.Goals as goal

pub returns-clause-rows : goal.returns-clause-rows
returns-clause-rows c =
    let net = c.args.net.now in
    let streams = c.args.streams.now in
    let text = c.args.text.now in
    rows_read net streams text c.read_lines.result c.requires
    (subst (λ (l : List Due). ReadsAs c.read_lines.result (ended l (length (lines_of text)) (after_lines net streams l nothing_seen (numbered_lines text))))
    (c.as_slice-2.ensures ∙ c.in_ok-due.ensures ∙ ap (due_lines net) c.as_slice.ensures) c.read_lines.ensures)
