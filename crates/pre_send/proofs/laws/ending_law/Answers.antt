use Rattle.pre_send.proofs.OneSending.{one_ending}
use Rattle.pre_send.proofs.laws.ending_law.Goals as goal

pub returns : goal.returns
returns c = λ cost add_frag t. one_ending cost add_frag t
