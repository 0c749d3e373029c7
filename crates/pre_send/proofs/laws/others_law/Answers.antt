use Rattle.pre_send.proofs.Framed.{lent}
use Rattle.pre_send.proofs.laws.others_law.Goals as goal

pub returns : goal.returns
returns c = lent
