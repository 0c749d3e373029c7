use Rattle.pre_memory.proofs.Stores.{out_with, all_out}
use Rattle.pre_memory.proofs.laws.slots_are_counted.Goals as goal

pub returns : goal.returns
returns c = record { out = out_with; all = all_out }
