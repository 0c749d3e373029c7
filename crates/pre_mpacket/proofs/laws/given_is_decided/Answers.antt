use Rattle.pre_mpacket.proofs.GivenDecided.{gives_decided, lost_decided}
use Rattle.pre_mpacket.proofs.CountersFound.{counters_some}
use Rattle.pre_mpacket.proofs.laws.given_is_decided.Goals as goal

pub returns-clause-given : goal.returns-clause-given
returns-clause-given c = gives_decided

pub returns-clause-lost : goal.returns-clause-lost
returns-clause-lost c = lost_decided

pub returns-clause-counters : goal.returns-clause-counters
returns-clause-counters c = counters_some
