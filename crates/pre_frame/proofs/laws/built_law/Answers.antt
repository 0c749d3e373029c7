use Rattle.std.proofs.Common.{arith}
use Rattle.pre_frame.proofs.FrameFacts.{length-frame_of}
use Rattle.pre_frame.proofs.BuiltLaws.{IsFrame-built, frame_number-frame_of, frame_of-octets, frame_of-differs}
use Rattle.pre_frame.proofs.laws.built_law.Goals as goal

pub returns : goal.returns
returns c = record {
  size = λ destination source prio vid number size h. length-frame_of destination source prio vid number size (omega arith);
  fields = λ destination source prio vid number size hp hv h. IsFrame-built destination source prio vid number size hp hv h.0 h.1;
  octets = frame_of-octets c.checks_law.ensures.fcs_octets;
  number = frame_number-frame_of;
  differ = λ d s p v n z d' s' p' v' n' z'. frame_of-differs d s p v z d' s' p' v' z' n n';
}
