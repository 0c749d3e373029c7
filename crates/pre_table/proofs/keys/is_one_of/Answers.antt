use Rattle.std.proofs.Common.{◌∙◌}
use Rattle.pre_table.proofs.Known.{known_texts}
use Rattle.pre_table.proofs.keys.is_one_of.Goals as goal

pub returns : goal.returns
returns c = c.is_any_of.ensures ∙ known_texts c.args.known.now c.args.key.now
