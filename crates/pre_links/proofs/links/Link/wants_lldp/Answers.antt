use Rattle.pre_links.proofs.Asked.{lldp_wanted}
use Rattle.pre_links.proofs.links.Link.wants_lldp.Goals as goal

pub returns : goal.returns
returns c = λ w h a t a_lt legal s. lldp_wanted w t h a a_lt legal c.args.self.now s
