use Rattle.std.proofs.Common.{◌<◌, ◌≡◌, length, sym, subst, ap, ◌∙◌, refl}
use Rattle.std.specs.Prelude.{IsSome}
use Rattle.pre_lldp.specs.LldpLayout.{advert_of, is_lldp_frame}
use Rattle.pre_history.specs.History.{Begin}
use Rattle.pre_history.specs.Queries.{Begins}
use Rattle.pre_history.proofs.Lists.{every_at}
use Rattle.pre_history.proofs.Placing.{begins_arc}
use Rattle.pre_links.proofs.steps.adverts_are_read.Goals as goal

pub returns : goal.returns
returns c = λ w h a i octets a_lt lldp (b, e, at_b, at_e, some, is, full).
    let on = every_at (λ (b : Begin). b.arc ≡ a) (Begins h a) i b (begins_arc h a) at_b in
    let says = c.adverts_are_sent.ensures w h b (subst (λ x. x < length w.net.arcs) (sym on) a_lt) (ap is_lldp_frame (sym is) ∙ lldp) in
    subst IsSome (sym (ap advert_of is ∙ says)) refl
