use Rattle.pre_history.proofs.Places.{later_read}
use Rattle.pre_history.proofs.StartsStay.{there_stays, rule_stays}
use Rattle.pre_history.proofs.laws.starts_stay.Goals as goal

pub returns-clause-items : goal.returns-clause-items
returns-clause-items c = λ w n h g a t a_lt legal later. there_stays w n h g legal t (later_read w t g later) a a_lt

pub returns-clause-rule : goal.returns-clause-rule
returns-clause-rule c = λ w n h g a t a_lt legal later. rule_stays w n h g legal t (later_read w t g later) a a_lt
