use Rattle.pre_history.proofs.StartsRead.{starts_read, idle_read}
use Rattle.pre_history.proofs.laws.starts_are_read.Goals as goal

pub returns-clause-rule : goal.returns-clause-rule
returns-clause-rule c = λ w n h a t a_lt legal lt. starts_read w n h a t a_lt legal lt

pub returns-clause-idle : goal.returns-clause-idle
returns-clause-idle c = λ w n h a t a_lt legal lt. idle_read w n h a t a_lt legal lt
