use Rattle.std.proofs.Common.{◌≡◌, length}
use Rattle.pre_crc.specs.Register.{taken_in}
use Rattle.pre_crc.proofs.remainders.with_sixteens.Given as goal

abbrev pub invariant-loop-rest : goal.invariant-loop-rest
invariant-loop-rest l = taken_in l.register l.rest ≡ taken_in l.before l.octets

abbrev pub decreases-loop-rest : goal.decreases-loop-rest
decreases-loop-rest l = length l.rest
