use Rattle.std.proofs.Common.{arith, ◌<◌, length, sym, ap, ◌∙◌}
use Rattle.std.specs.List.{enumerate_from}
use Rattle.std.proofs.lemmas.Bool.Decides.{nat_tests}
use Rattle.pre_text.proofs.Cuts.{lines_step}
use Rattle.pre_text.proofs.cutting.Lines.next_line.Goals as goal

pub returns-clause-next : goal.returns-clause-next
returns-clause-next c =
    let some : 0 < length c.self.inside.rest.now = grind (arith, nat_tests) in
    let step = lines_step c.self.inside.rest.now some in
    rw (c.without_return.ensures, c.cut_first.ensures.before, c.cut_first.ensures.after) (sym c.self.view_is ∙ ap (enumerate_from c.self.inside.number) step)
