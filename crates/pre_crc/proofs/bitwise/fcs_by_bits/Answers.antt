use Rattle.std.proofs.Common.{[], ◌∙◌, take, ap, arith, lit<, take_all}
use Rattle.pre_crc.specs.Checks.{Fcs}
use Rattle.pre_crc.proofs.Registers.{IsRegister-empty, IsRegister-more, IsRegister-Fcs}
use Rattle.pre_crc.proofs.bitwise.fcs_by_bits.Goals as goal

pub loop-octet-init : goal.loop-octet-init
loop-octet-init c = record { stands = IsRegister-empty; within = lit< tt }

pub loop-octet-preserved : goal.loop-octet-preserved
loop-octet-preserved c = record {
  stands = IsRegister-more c.loop-octet.register c.with_bits-register.result [] c.args.octets.now c.loop-octet.octet-index
      c.loop-octet.invariant.within c.loop-octet-test.true (omega (arith, c.type_inv.octets c.loop-octet.octet-index))
      c.with_bits-register.ensures c.loop-octet.invariant.stands;
  within = omega arith;
}

pub returns : goal.returns
returns c =
    c.to_le_bytes.ensures
    ∙ IsRegister-Fcs c.loop-octet.register (take c.loop-octet.octet-index c.args.octets.now) c.loop-octet.invariant.within c.loop-octet.invariant.stands
    ∙ ap Fcs (take_all c.loop-octet.octet-index c.args.octets.now (omega arith))
