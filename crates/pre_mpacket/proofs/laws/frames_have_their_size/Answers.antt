use Rattle.pre_mpacket.proofs.FrameSizes.{frame_size}
use Rattle.pre_mpacket.proofs.laws.frames_have_their_size.Goals as goal

pub returns : goal.returns
returns c = frame_size
