use Rattle.pre_history.proofs.Making.{ends_one, ends_none, arrives_one, arrives_none}
use Rattle.pre_history.proofs.laws.turns_are_kept.Goals as goal

pub returns-clause-ends : goal.returns-clause-ends
returns-clause-ends c = ends_one

pub returns-clause-no_end : goal.returns-clause-no_end
returns-clause-no_end c = ends_none

pub returns-clause-arrives : goal.returns-clause-arrives
returns-clause-arrives c = arrives_one

pub returns-clause-no_arrival : goal.returns-clause-no_arrival
returns-clause-no_arrival c = arrives_none
