use Rattle.std.proofs.Common.{refl}
use Rattle.pre_links.proofs.Arriving.{hears_verify}
use Rattle.pre_links.proofs.partners.Partner.verify.Goals as goal

pub returns : goal.returns
returns c = λ w h b b_lt legal s. hears_verify w c.args.now.0 h b b_lt legal c.args.self.now _ refl refl refl s
