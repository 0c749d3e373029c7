use Rattle.pre_laws.proofs.FrameArrivals.{arrives_whole}
use Rattle.pre_laws.proofs.laws.frames_arrive_whole.Goals as goal

pub returns : goal.returns
returns c = arrives_whole
