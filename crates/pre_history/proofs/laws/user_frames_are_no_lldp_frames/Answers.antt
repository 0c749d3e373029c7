use Rattle.pre_history.proofs.Undamaged.{user_frame}
use Rattle.pre_history.proofs.laws.user_frames_are_no_lldp_frames.Goals as goal

pub returns : goal.returns
returns c = λ w f. user_frame w f.0
