use Rattle.std.proofs.Common.{refl, false}
use Rattle.pre_table.proofs.PairsAdded.{HasPairs-from}
use Rattle.pre_table.proofs.text_sets.PairSet.new.Goals as goal

pub returns : goal.returns
returns c = HasPairs-from _ (λ a b. false) (λ a b. rw c.new.ensures.empty refl)
