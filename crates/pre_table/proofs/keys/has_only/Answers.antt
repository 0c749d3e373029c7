use Rattle.std.proofs.Common.{◌∙◌, map}
use Rattle.pre_table.proofs.Known.{known_keys}
use Rattle.pre_table.proofs.keys.has_only.Goals as goal

pub returns : goal.returns
returns c = c.has_known_keys.ensures ∙ known_keys (map (λ k. k.now) c.args.known.now) c.args.table.now.entries
