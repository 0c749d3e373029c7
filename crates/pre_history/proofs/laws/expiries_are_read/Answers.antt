use Rattle.pre_history.proofs.ExpiriesRead.{rises_read, falls_read, quiet_read}
use Rattle.pre_history.proofs.laws.expiries_are_read.Goals as goal

pub returns-clause-rises : goal.returns-clause-rises
returns-clause-rises c = λ w n h a t a_lt talks legal lt. rises_read w n h a t a_lt legal lt talks

pub returns-clause-falls : goal.returns-clause-falls
returns-clause-falls c = λ w n h a t a_lt talks legal lt. falls_read w n h a t a_lt legal lt talks

pub returns-clause-quiet : goal.returns-clause-quiet
returns-clause-quiet c = λ w n h a t a_lt off legal lt. quiet_read w n h a t a_lt legal lt off
