use Rattle.std.proofs.Common.{arith, ◌<◌, length, sym, ◌∙◌}
use Rattle.std.proofs.lemmas.Bool.Decides.{nat_tests}
use Rattle.pre_text.proofs.Cuts.{words_step}
use Rattle.pre_text.proofs.cutting.LineWords.next_word.Goals as goal

pub returns : goal.returns
returns c =
    let some : 0 < length c.without_spaces-octets.result.now = grind (arith, nat_tests) in
    let step = words_step c.without_spaces-octets.result.now some c.without_spaces-octets.ensures.begins in
    rw (c.cut_first.ensures.before, c.cut_first.ensures.after) (sym c.self.view_is ∙ sym c.without_spaces-octets.ensures.words ∙ step)
