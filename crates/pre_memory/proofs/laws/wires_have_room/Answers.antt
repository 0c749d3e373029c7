use Rattle.pre_memory.proofs.Flying.{octets_few, packets_few}
use Rattle.pre_memory.proofs.Sizes.{sent_long}
use Rattle.pre_memory.proofs.laws.wires_have_room.Goals as goal

pub returns : goal.returns
returns c = record { octets = octets_few; packets = packets_few; sent = sent_long }
