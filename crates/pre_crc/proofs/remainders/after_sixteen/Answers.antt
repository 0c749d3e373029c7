use Rattle.std.proofs.Common.{arith}
use Rattle.pre_crc.proofs.Slices.{sixteen_looked_up}
use Rattle.pre_crc.proofs.remainders.after_sixteen.Goals as goal

pub returns : goal.returns
returns c = sixteen_looked_up c.args.word c.to_le_bytes.result (omega arith) c.to_le_bytes.ensures
