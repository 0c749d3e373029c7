use Rattle.pre_receive.proofs.LaterTaken.{taken_later}
use Rattle.pre_receive.proofs.PacketLaws.{packet_laws}
use Rattle.pre_receive.proofs.laws.later_takings.Goals as goal

pub returns : goal.returns
returns c = taken_later packet_laws
