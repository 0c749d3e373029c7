use Rattle.pre_bridge.proofs.Takes.{each, left}
use Rattle.pre_bridge.proofs.laws.takes_law.Goals as goal

pub returns : goal.returns
returns c = record { each = each; left = left }
