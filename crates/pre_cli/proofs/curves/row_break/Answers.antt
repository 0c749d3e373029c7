use Rattle.std.proofs.Common.{List, sym, ◌∙◌, subst}
use Rattle.pre_curve.specs.Windows.{offers_of, InOrder}
use Rattle.pre_script.specs.declared.scripts.SendLine.{SendLine}
use Rattle.pre_cli.specs.Curves.{sends_in}
use Rattle.pre_cli.proofs.CurveLemmas.{lines_in_order, row_found}
use Rattle.pre_cli.proofs.curves.row_break.Goals as goal

pub break_in-requires : goal.break_in-requires
break_in-requires c =
    subst (λ (l : List SendLine). InOrder (offers_of (sends_in l))) (sym (c.as_slice.ensures.value ∙ c.in_ok-lines-in-Some.ensures)) (lines_in_order c.args.sends.now c.args.number c.requires.order)

pub returns-in_ok-lines-in-Some : goal.returns-in_ok-lines-in-Some
returns-in_ok-lines-in-Some c =
    row_found c.args.sends.now c.as_slice.result.now c.args.number c.args.row.now c.in-Some.curve c.break_in.result c.requires.rise
    (c.as_slice.ensures.value ∙ c.in_ok-lines-in-Some.ensures) c.in-Some.is c.break_in.ensures
