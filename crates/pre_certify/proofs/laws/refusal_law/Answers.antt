use Rattle.pre_certify.proofs.Refusing.{good_refuses_none, one_at_most, ranks_leave_no_cycle}
use Rattle.pre_certify.proofs.laws.refusal_law.Goals as goal

pub returns-clause-none : goal.returns-clause-none
returns-clause-none c = good_refuses_none c.order_law.ensures.rise c.completeness_law.ensures.ports c.completeness_law.ensures.rings

pub returns-clause-one : goal.returns-clause-one
returns-clause-one c = one_at_most c.order_law.ensures.rise c.completeness_law.ensures.alike

pub returns-clause-ranks : goal.returns-clause-ranks
returns-clause-ranks c = ranks_leave_no_cycle
