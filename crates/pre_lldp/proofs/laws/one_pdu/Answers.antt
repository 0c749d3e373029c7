use Rattle.pre_lldp.proofs.PduLaws.{pdu_of-pdu, pdu_of-fault, IsPdu-from_read, IsFirstFault-from_read}
use Rattle.pre_lldp.proofs.laws.one_pdu.Goals as goal

pub returns : goal.returns
returns c = record {
  pdu = λ octets fields small. (λ is. pdu_of-pdu fields octets is, λ e. IsPdu-from_read octets fields small e);
  fault = λ octets fault small. (λ is. pdu_of-fault fault octets is, λ e. IsFirstFault-from_read octets fault small e);
}
