-- What is answered to octets that are no mPacket.
use Rattle.pre_mpacket.specs.declared.reading.MFault.{MFault}
use Rattle.pre_mpacket.specs.declared.reading.MFault.TheVariants as fault
use Rattle.pre_receive.specs.declared.taken.Cause.{Cause}
use Rattle.pre_receive.specs.declared.taken.Cause.TheVariants as cause

abbrev pub fault_cause : MFault → Cause
fault_cause fault.Smd = cause.Smd
fault_cause fault.Preamble = cause.Smd
fault_cause fault.Fragment = cause.Fragment
fault_cause fault.Short = cause.Size
