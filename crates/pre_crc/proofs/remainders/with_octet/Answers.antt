use Rattle.std.proofs.Common.{arith}
use Rattle.pre_crc.proofs.Table.{turns-of_parts}
use Rattle.pre_crc.proofs.remainders.with_octet.Goals as goal

pub returns : goal.returns
returns c = turns-of_parts c.args.register c.args.octet c.remainder_of.result (omega arith) (rw c.from.ensures at c.remainder_of.ensures.turned)
