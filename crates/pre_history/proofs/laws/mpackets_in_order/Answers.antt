use Rattle.pre_history.proofs.InOrder.{steady}
use Rattle.pre_history.proofs.laws.mpackets_in_order.Goals as goal

pub returns-clause-order : goal.returns-clause-order
returns-clause-order c = λ w n h a lt legal. (steady w n h a lt legal).ordered

pub returns-clause-sizes : goal.returns-clause-sizes
returns-clause-sizes c = λ w n h a lt legal. (steady w n h a lt legal).sizes

pub returns-clause-arrived : goal.returns-clause-arrived
returns-clause-arrived c = λ w n h a lt legal. (steady w n h a lt legal).arrived

pub returns-clause-checks : goal.returns-clause-checks
returns-clause-checks c = λ w n h a lt legal. (steady w n h a lt legal).checks
