use Rattle.std.proofs.Common.{◌∙◌, ◌-◌, ◌+◌, ap, sym, arith}
use Rattle.pre_crc.specs.Register.{turns}
use Rattle.pre_crc.proofs.Registers.{turns-less, turns-none}
use Rattle.pre_crc.proofs.bitwise.with_bits.Goals as goal

pub loop-bit-preserved : goal.loop-bit-preserved
loop-bit-preserved c =
    let left = turns-less (8 - (c.loop-bit._bit + 1)) (8 - c.loop-bit._bit) c.loop-bit.turned (omega arith) in
    ap (turns (8 - (c.loop-bit._bit + 1))) c.turned_once-turned.ensures ∙ sym left ∙ c.loop-bit.invariant

pub returns : goal.returns
returns c = sym (turns-none (8 - c.loop-bit._bit) c.loop-bit.turned (omega arith)) ∙ c.loop-bit.invariant
