use Rattle.pre_history.proofs.ToldActive.{told_active}
use Rattle.pre_history.proofs.laws.active_is_told.Goals as goal

pub returns : goal.returns
returns c = λ w n h a t lt talks legal. told_active c.later_arrivals.ensures w a lt talks n h legal t
