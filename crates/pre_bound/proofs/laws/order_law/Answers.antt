use Rattle.pre_bound.proofs.Ordered.{numbers_same, rise-from_ranks, follows_within}
use Rattle.pre_bound.proofs.laws.order_law.Goals as goal

pub returns-clause-same : goal.returns-clause-same
returns-clause-same c = λ net rows rank delays other arc prio prios rise same. numbers_same net rows rank prios rise delays other arc same prio

pub returns-clause-rise : goal.returns-clause-rise
returns-clause-rise c = rise-from_ranks

pub returns-clause-within : goal.returns-clause-within
returns-clause-within c = follows_within
