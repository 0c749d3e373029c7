use Rattle.pre_crc.proofs.CheckFacts.{length-Fcs, length-Mcrc}
use Rattle.pre_crc.proofs.CheckFacts.{Fcs-octets, Mcrc-octets, Fcs-differs}
use Rattle.pre_crc.proofs.checks_law.Goals as goal

pub returns : goal.returns
returns c = record {
  fcs_length = length-Fcs;
  mcrc_length = length-Mcrc;
  fcs_octets = Fcs-octets;
  mcrc_octets = Mcrc-octets;
  differ = Fcs-differs;
}
