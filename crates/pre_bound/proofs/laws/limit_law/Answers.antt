use Rattle.pre_bound.proofs.Ordered.{bursts_within, bounds_within}
use Rattle.pre_bound.proofs.laws.limit_law.Goals as goal

pub returns-clause-bursts : goal.returns-clause-bursts
returns-clause-bursts c = bursts_within

pub returns-clause-bounds : goal.returns-clause-bounds
returns-clause-bounds c = bounds_within
