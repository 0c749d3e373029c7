use Rattle.pre_incoming.proofs.Goings.{elsewhere, at_arrivals}
use Rattle.pre_incoming.proofs.laws.no_alias_so_far.Goals as goal

pub returns-clause-elsewhere : goal.returns-clause-elsewhere
returns-clause-elsewhere c = λ w h es t k p k_lt phase other legal happens. elsewhere w h es t k p k_lt phase legal happens other

pub returns-clause-arrivals : goal.returns-clause-arrivals
returns-clause-arrivals c = at_arrivals
