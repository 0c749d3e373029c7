use Rattle.pre_mpacket.proofs.Counted.{counters_one, counters_more}
use Rattle.pre_mpacket.proofs.laws.one_count.Goals as goal

pub returns-clause-one : goal.returns-clause-one
returns-clause-one c = counters_one

pub returns-clause-later : goal.returns-clause-later
returns-clause-later c = counters_more
