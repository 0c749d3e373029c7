use Rattle.pre_bridge.proofs.NextArcs.{found_arc, missing_arc, only_arc}
use Rattle.pre_bridge.proofs.laws.next_arc_law.Goals as goal

pub returns : goal.returns
returns c = record {
  found = found_arc;
  missing = missing_arc;
  only = λ net streams node vid arc fits. only_arc streams (λ n v next is. c.routes_law.ensures.follows net streams n v next fits is) node vid arc;
}
