use Rattle.pre_history.proofs.Placing.{placed}
use Rattle.pre_history.proofs.laws.events_before_their_end.Goals as goal

pub returns : goal.returns
returns c = placed
