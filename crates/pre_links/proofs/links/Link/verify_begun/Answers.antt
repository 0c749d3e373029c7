use Rattle.std.proofs.Common.{refl}
use Rattle.pre_mpacket.specs.declared.packets.Kind.TheVariants as kind
use Rattle.pre_history.specs.Starts.{without_octets}
use Rattle.pre_links.proofs.Begun.{verify_begins}
use Rattle.pre_links.proofs.links.Link.verify_begun.Goals as goal

pub returns-clause-stands : goal.returns-clause-stands
returns-clause-stands c = λ w h a a_lt legal s.
    verify_begins w h a c.args.now.0 (without_octets kind.Verify) a_lt legal c.args.self.now _ s refl (λ e. absurd (cc e)) (λ e. absurd (cc e))
    (c.begun.ensures.stands w.net.timing.verify s.calls s.stands) refl refl refl refl
