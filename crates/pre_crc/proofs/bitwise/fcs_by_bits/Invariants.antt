use Rattle.std.proofs.Common.{◌^◌, ◌<◌, take}
use Rattle.pre_crc.specs.Register.{IsRegister}
use Rattle.pre_crc.proofs.bitwise.fcs_by_bits.Given as goal

abbrev pub invariant-loop-octet : goal.invariant-loop-octet
invariant-loop-octet l = record {
  stands : IsRegister l.register (take l.octet-index l.octets);
  within : l.register < 2 ^ 32;
}
