use Rattle.pre_witnesses.proofs.CutFrameLegal.{cut_frame_legal}
use Rattle.pre_witnesses.proofs.Scenarios.{cuts_some}
use Rattle.pre_witnesses.proofs.laws.a_frame_is_cut.Goals as goal

pub returns-clause-legal : goal.returns-clause-legal
returns-clause-legal c = cut_frame_legal

pub returns-clause-some : goal.returns-clause-some
returns-clause-some c = cuts_some
