use Rattle.std.proofs.Common.{length}
use Rattle.pre_lldp.proofs.Whole.{SoFar}
use Rattle.pre_lldp.proofs.reading.capabilities.Given as goal

abbrev pub invariant-loop-tlv : goal.invariant-loop-tlv
invariant-loop-tlv l = SoFar l.octets l.rest l.caps

abbrev pub decreases-loop-tlv : goal.decreases-loop-tlv
decreases-loop-tlv l = length l.rest
