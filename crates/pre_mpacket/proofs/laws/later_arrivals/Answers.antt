use Rattle.pre_mpacket.proofs.Later.{gives_more}
use Rattle.pre_mpacket.proofs.laws.later_arrivals.Goals as goal

pub returns : goal.returns
returns c = gives_more
