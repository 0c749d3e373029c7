use Rattle.std.proofs.Common.{◌∙◌, rules, ap₂, ap, bit_xor}
use Rattle.pre_crc.specs.Register.{turns}
use Rattle.pre_crc.proofs.Slices.{sixteen_taken_in}
use Rattle.pre_crc.proofs.remainders.with_sixteen.Goals as goal

pub returns : goal.returns
returns c =
    ap₂ bit_xor
    (c.after_eight.ensures ∙ ap (turns 64) c.from_le_bytes.ensures)
    (c.after_sixteen.ensures ∙ ap (turns 128) (ap₂ bit_xor c.from.ensures c.from_le_bytes-2.ensures))
    ∙ sixteen_taken_in c.args.register c.args.first.now c.args.last.now (search rules) (search rules) (search rules) (search rules)
