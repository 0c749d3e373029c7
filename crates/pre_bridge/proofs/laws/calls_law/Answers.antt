use Rattle.pre_bridge.proofs.Standing.{space_is, few_is}
use Rattle.pre_bridge.proofs.laws.calls_law.Goals as goal

pub returns : goal.returns
returns c = record {
  latest = λ relay net streams calls s. s.latest;
  space = space_is;
  few = few_is;
}
