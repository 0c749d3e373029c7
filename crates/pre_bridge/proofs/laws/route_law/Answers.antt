use Rattle.pre_bridge.proofs.NextArcs.{along}
use Rattle.pre_bridge.proofs.laws.route_law.Goals as goal

pub returns : goal.returns
returns c = record { along = λ net streams fits. along net streams fits (λ node vid next is. c.routes_law.ensures.follows net streams node vid next fits is) }
