use Rattle.std.proofs.Common.{refl, []}
use Rattle.pre_table.proofs.Added.{IsSetOf-from}
use Rattle.pre_table.proofs.text_sets.TextSet.new.Goals as goal

pub returns : goal.returns
returns c = IsSetOf-from _ [] (λ text. rw c.new.ensures.empty refl)
