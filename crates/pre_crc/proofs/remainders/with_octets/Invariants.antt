use Rattle.std.proofs.Common.{◌≡◌, drop}
use Rattle.pre_crc.specs.Register.{taken_in}
use Rattle.pre_crc.proofs.remainders.with_octets.Given as goal

abbrev pub invariant-loop-octet : goal.invariant-loop-octet
invariant-loop-octet l = taken_in l.register (drop l.octet-index l.rest) ≡ taken_in l.before l.octets
