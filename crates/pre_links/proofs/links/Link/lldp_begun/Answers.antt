use Rattle.std.proofs.Common.{refl}
use Rattle.pre_history.specs.Starts.{lldp_begins}
use Rattle.pre_links.proofs.Begun.{lldp_begins_now}
use Rattle.pre_links.proofs.links.Link.lldp_begun.Goals as goal

pub returns-clause-stands : goal.returns-clause-stands
returns-clause-stands c = λ w h a t a_lt legal s.
    lldp_begins_now w h a t lldp_begins a_lt legal c.args.self.now _ s refl (λ e. absurd (cc e)) refl refl refl refl refl refl
