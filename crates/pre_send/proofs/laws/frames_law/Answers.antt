use Rattle.pre_send.proofs.Framed.{framed}
use Rattle.pre_send.proofs.laws.frames_law.Goals as goal

pub returns : goal.returns
returns c = framed
