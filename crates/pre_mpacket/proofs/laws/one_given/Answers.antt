use Rattle.pre_mpacket.proofs.Chains.{gives_one}
use Rattle.pre_mpacket.proofs.laws.one_given.Goals as goal

pub returns : goal.returns
returns c = gives_one
