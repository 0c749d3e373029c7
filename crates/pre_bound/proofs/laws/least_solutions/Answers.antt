use Rattle.pre_bound.proofs.Solved.{IsLeast-delay, IsLeast-growth, IsLeast-size}
use Rattle.pre_bound.proofs.laws.least_solutions.Goals as goal

pub returns-clause-delay : goal.returns-clause-delay
returns-clause-delay c = IsLeast-delay

pub returns-clause-growth : goal.returns-clause-growth
returns-clause-growth c = IsLeast-growth

pub returns-clause-size : goal.returns-clause-size
returns-clause-size c = IsLeast-size
