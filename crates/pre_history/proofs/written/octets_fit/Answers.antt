use Rattle.std.proofs.Common.{arith}
use Rattle.pre_history.proofs.OctetLists.{are_octets}
use Rattle.pre_history.proofs.written.octets_fit.Goals as goal

pub returns : goal.returns
returns c = are_octets c.args.octets.now (λ i. omega (arith, c.type_inv.octets i))
