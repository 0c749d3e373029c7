use Rattle.std.proofs.Common.{sym}
use Rattle.pre_incoming.proofs.Xored.{past_end}
use Rattle.pre_incoming.proofs.changes.xor_from.Goals as goal

pub returns-then-place-octets : goal.returns-then-place-octets
returns-then-place-octets c = sym (past_end c.args.place c.args.with.now c.args.octets.now c.if-place-octets.true)
