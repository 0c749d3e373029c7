use Rattle.pre_bound.proofs.Completed.{good_pass_nowhere, good_have_room, settled_alike}
use Rattle.pre_bound.proofs.laws.completeness_law.Goals as goal

pub returns-clause-ports : goal.returns-clause-ports
returns-clause-ports c = good_pass_nowhere

pub returns-clause-rings : goal.returns-clause-rings
returns-clause-rings c = good_have_room

pub returns-clause-alike : goal.returns-clause-alike
returns-clause-alike c = settled_alike
