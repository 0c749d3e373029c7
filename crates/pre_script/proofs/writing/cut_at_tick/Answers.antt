use Rattle.std.proofs.Common.{◌∙◌, sym}
use Rattle.pre_script.proofs.Lines.{cut_at_place, cut_at_end}
use Rattle.pre_script.proofs.writing.cut_at_tick.Goals as goal

pub returns-in-Some : goal.returns-in-Some
returns-in-Some c =
    let cut = cut_at_place c.args.tick.0 c.args.sets.now c.in-Some.count (sym c.in-Some.ensures) in
    (c.split_at.ensures.front ∙ cut.1.0, c.split_at.ensures.back ∙ cut.1.1)

pub returns-in-None : goal.returns-in-None
returns-in-None c =
    let cut = cut_at_end c.args.tick.0 c.args.sets.now (sym c.in-None.ensures) in
    (c.split_at-in-None.ensures.front ∙ cut.0, c.split_at-in-None.ensures.back ∙ cut.1)
