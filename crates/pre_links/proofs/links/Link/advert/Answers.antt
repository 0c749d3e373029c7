use Rattle.std.proofs.Common.{refl}
use Rattle.pre_links.proofs.Asked.{says}
use Rattle.pre_links.proofs.links.Link.advert.Goals as goal

pub returns-clause-says : goal.returns-clause-says
returns-clause-says c = λ w h a t a_lt talks legal s frag lasts.
    says w t h a a_lt legal c.args.self.now s talks c.is_on.result c.args.add_frag c.ttl_under.result c.is_on.ensures (c.ttl_under.ensures w lasts) frag _ refl refl refl refl
