use Rattle.pre_lldp.proofs.ReadBack.{sent-length, sent-lldp, sent-advert}
use Rattle.pre_lldp.proofs.laws.read_back.Goals as goal

pub returns : goal.returns
returns c = record { length = sent-length; lldp = sent-lldp; advert = sent-advert }
