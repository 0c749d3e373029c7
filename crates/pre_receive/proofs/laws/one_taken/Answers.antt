use Rattle.pre_receive.proofs.OneTaken.{taken_one}
use Rattle.pre_receive.proofs.PacketLaws.{packet_laws}
use Rattle.pre_receive.proofs.laws.one_taken.Goals as goal

pub returns : goal.returns
returns c = taken_one packet_laws
