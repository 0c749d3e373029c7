use Rattle.pre_memory.proofs.Counting.{rings, wanted}
use Rattle.pre_memory.proofs.laws.slots_are_spare.Goals as goal

pub returns : goal.returns
returns c = record { rings = rings; spare = wanted }
