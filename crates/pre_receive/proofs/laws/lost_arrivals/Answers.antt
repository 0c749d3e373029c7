use Rattle.pre_receive.proofs.Lost.{stands_lost}
use Rattle.pre_receive.proofs.PacketLaws.{packet_laws}
use Rattle.pre_receive.proofs.laws.lost_arrivals.Goals as goal

pub returns : goal.returns
returns c = stands_lost packet_laws
