use Rattle.std.proofs.Common.{arith}
use Rattle.pre_crc.proofs.Table.{AFTER_ONE-at, entry-remainder}
use Rattle.pre_crc.proofs.remainders.remainder_of.Goals as goal

pub returns-clause-remainder : goal.returns-clause-remainder
returns-clause-remainder c = entry-remainder c.args.octet (omega arith)

pub returns-clause-turned : goal.returns-clause-turned
returns-clause-turned c = AFTER_ONE-at c.args.octet (omega arith)
