use Rattle.pre_bound.proofs.Placed.{at_least_from_good}
use Rattle.pre_bound.proofs.laws.good_law.Goals as goal

pub returns : goal.returns
returns c = at_least_from_good
