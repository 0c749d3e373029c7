use Rattle.pre_streams.proofs.NextArcs.{follows, none, leads}
use Rattle.pre_streams.proofs.laws.routes_law.Goals as goal

pub returns : goal.returns
returns c = record {
  follows = λ net streams node vid next fits is. follows net streams fits node vid next is;
  none = λ net streams node vid next fits is. none net streams fits node vid next is;
  leads = λ net streams node vid next fits is. leads net streams fits node vid next is;
}
