use Rattle.std.proofs.Common.{◌∙◌, ◌+◌, ap, drop, sym, arith}
use Rattle.pre_crc.specs.Register.{taken_in}
use Rattle.pre_crc.proofs.Registers.{taken_in-next, taken_in-none}
use Rattle.pre_crc.proofs.remainders.with_octets.Goals as goal

pub loop-octet-preserved : goal.loop-octet-preserved
loop-octet-preserved c =
    let rest = c.with_sixteens-register.result.1.now in
    ap (λ r. taken_in r (drop (c.loop-octet.octet-index + 1) rest)) c.with_octet-register.ensures
    ∙ taken_in-next c.loop-octet.register rest c.loop-octet.octet-index c.loop-octet-test.true
    ∙ c.loop-octet.invariant

pub returns : goal.returns
returns c = sym (taken_in-none c.loop-octet.register c.with_sixteens-register.result.1.now c.loop-octet.octet-index (omega arith)) ∙ c.loop-octet.invariant
