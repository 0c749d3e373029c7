use Rattle.std.proofs.Common.{arith}
use Rattle.pre_lldp.proofs.PduLaws.{answers-pdu, answers-pdu_due, answers-fault, answers-fault_due}
use Rattle.pre_lldp.proofs.reading.read_lldpdu.Goals as goal

pub returns : goal.returns
returns c = record {
  pdu = answers-pdu c.fields_at_front.result c.args.octets.now (λ i. omega (arith, c.type_inv.octets i)) c.fields_at_front.ensures;
  pdu_due = λ fields is. answers-pdu_due c.fields_at_front.result c.args.octets.now fields c.fields_at_front.ensures is;
  fault = answers-fault c.fields_at_front.result c.args.octets.now (λ i. omega (arith, c.type_inv.octets i)) c.fields_at_front.ensures;
  fault_due = λ fault is. answers-fault_due c.fields_at_front.result c.args.octets.now fault c.fields_at_front.ensures is;
  read = c.fields_at_front.ensures;
}
