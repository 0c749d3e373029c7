use Rattle.pre_delay.proofs.Shares.{grown}
use Rattle.pre_delay.proofs.laws.bursts_grow.Goals as goal

pub returns : goal.returns
returns c = λ burst rate delay least next passed l covers. grown burst rate delay least next passed covers l
