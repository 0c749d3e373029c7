use Rattle.std.proofs.Common.{◌≡◌, ◌-◌, bit_xor}
use Rattle.pre_crc.specs.Register.{turns}
use Rattle.pre_crc.proofs.bitwise.with_bits.Given as goal

abbrev pub invariant-loop-bit : goal.invariant-loop-bit
invariant-loop-bit l = turns (8 - l._bit) l.turned ≡ turns 8 (bit_xor l.register l.octet)
