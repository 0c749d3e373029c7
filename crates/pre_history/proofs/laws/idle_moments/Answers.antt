use Rattle.pre_history.proofs.Moments.{legal_idle}
use Rattle.pre_history.proofs.laws.idle_moments.Goals as goal

pub returns : goal.returns
returns c = legal_idle
