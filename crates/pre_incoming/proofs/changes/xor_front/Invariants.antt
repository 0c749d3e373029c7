use Rattle.std.proofs.Common.{◌≡◌, take}
use Rattle.pre_history.specs.Octets.{xored_from}
use Rattle.pre_incoming.proofs.changes.xor_front.Given as goal

abbrev pub invariant-loop-i : goal.invariant-loop-i
invariant-loop-i l = l.octets ≡ xored_from (take l.i l.with) l.fn.octets
