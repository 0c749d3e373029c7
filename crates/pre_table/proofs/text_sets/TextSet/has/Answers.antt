use Rattle.std.proofs.Common.{◌∙◌}
use Rattle.pre_table.proofs.Added.{IsSetOf-has}
use Rattle.pre_table.proofs.text_sets.TextSet.has.Goals as goal

pub returns : goal.returns
returns c = λ texts held. c.contains.ensures ∙ IsSetOf-has c.args.self.now texts held c.args.text.now
