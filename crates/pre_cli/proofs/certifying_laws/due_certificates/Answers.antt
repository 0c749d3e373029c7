use Rattle.pre_cli.proofs.DueCertificate.{missing_network, refused_network}
use Rattle.pre_cli.proofs.DueStreams.{missing_streams, refused_as_due, due_for_both, good_is_certified, refusal_is_due, settled_is_certified, fault_is_due}
use Rattle.pre_cli.proofs.certifying_laws.due_certificates.Goals as goal

pub returns : goal.returns
returns c = record {
  words = λ net streams o cause. cause;
  missing = missing_network;
  network = refused_network;
  missing_streams = λ s net_word streams_word o told net tells read none cause. missing_streams net_word streams_word o told tells net read none s cause;
  streams = λ s due net_word streams_word o told net tells read refused cause. refused_as_due net_word streams_word o told tells net read due refused s cause;
  both = λ s net_word streams_word o told net streams tells read are cause. due_for_both net_word streams_word o told tells net read streams are s cause;
  complete = λ s net_word streams_word o told net streams tells read are good cause. good_is_certified net_word streams_word o told tells net read streams are good s cause;
  refusal = λ s net_word streams_word o told net streams e tells read are not plain why cause. refusal_is_due net_word streams_word o told tells net read streams are e not plain why s cause;
  settled = λ s net_word streams_word o told net streams arcs tells read are why none cause. settled_is_certified net_word streams_word o told tells net read streams are arcs why none s cause;
  fault = λ s net_word streams_word o told net streams arcs e tells read are why not here cause. fault_is_due net_word streams_word o told tells net read streams are arcs e why not here s cause;
}
