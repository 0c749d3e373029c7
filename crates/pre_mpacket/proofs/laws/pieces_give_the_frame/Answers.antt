use Rattle.pre_mpacket.proofs.Carried.{frame_alone, part_alone}
use Rattle.pre_mpacket.proofs.laws.pieces_give_the_frame.Goals as goal

pub returns-clause-last : goal.returns-clause-last
returns-clause-last c = frame_alone

pub returns-clause-before : goal.returns-clause-before
returns-clause-before c = part_alone
