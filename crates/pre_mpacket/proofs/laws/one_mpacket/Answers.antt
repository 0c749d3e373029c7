use Rattle.pre_mpacket.proofs.Spelled.{spelled_one, spelled_given, given_spells}
use Rattle.pre_mpacket.proofs.laws.one_mpacket.Goals as goal

pub returns-clause-one : goal.returns-clause-one
returns-clause-one c = spelled_one

pub returns-clause-given : goal.returns-clause-given
returns-clause-given c = λ m octets. (given_spells m octets, spelled_given m octets)
