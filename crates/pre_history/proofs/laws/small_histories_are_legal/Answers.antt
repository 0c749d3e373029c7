use Rattle.pre_history.proofs.OneFrameLegal.{one_frame_legal}
use Rattle.pre_history.proofs.TwoFramesLegal.{two_frames_legal}
use Rattle.pre_history.proofs.laws.small_histories_are_legal.Goals as goal
use Rattle.pre_history.proofs.LostFrame.{lost_frame_legal}

pub returns-clause-one_frame : goal.returns-clause-one_frame
returns-clause-one_frame c = one_frame_legal c.one_mpacket.ensures.given c.one_given.ensures

pub returns-clause-two_frames : goal.returns-clause-two_frames
returns-clause-two_frames c = λ w s. two_frames_legal c.one_mpacket.ensures.given w s c.one_given.ensures

pub returns-clause-lost_frame : goal.returns-clause-lost_frame
returns-clause-lost_frame c = lost_frame_legal
