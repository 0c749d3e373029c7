use Rattle.pre_memory.proofs.Sizes.{have_sizes}
use Rattle.pre_memory.proofs.laws.mpackets_have_sizes.Goals as goal

pub returns : goal.returns
returns c = have_sizes
