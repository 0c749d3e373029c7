use Rattle.pre_history.proofs.EndsRead.{ends_read}
use Rattle.pre_history.proofs.laws.ends_are_read.Goals as goal

pub returns : goal.returns
returns c = λ w n h a i b size a_lt legal at lt. ends_read w n h a a_lt legal i b at size lt
