use Rattle.std.proofs.Common.{refl, sym, ◌∙◌}
use Rattle.pre_links.proofs.Ending.{verify_ends, other_ends}
use Rattle.pre_links.proofs.links.Link.mpacket_ended.Goals as goal

pub returns-then-is_under_way-clause-stands : goal.returns-then-is_under_way-clause-stands
returns-then-is_under_way-clause-stands c = λ w h a e a_lt legal s arc_is tick ord open'.
    verify_ends w h a c.args.now.0 e a_lt legal arc_is tick ord open' c.args.self.now _ s (sym (c.is_under_way.ensures.exact w.net.timing.verify s.calls s.stands) ∙ c.if-is_under_way.true)
    (c.verify_ended.ensures.stands w.net.timing.verify s.calls s.stands) refl refl refl refl

pub returns-else-is_under_way-clause-stands : goal.returns-else-is_under_way-clause-stands
returns-else-is_under_way-clause-stands c = λ w h a e a_lt legal s arc_is tick ord open'.
    other_ends w h a c.args.now.0 e a_lt legal arc_is tick ord open' c.args.self.now s (sym (c.is_under_way.ensures.exact w.net.timing.verify s.calls s.stands) ∙ c.if-is_under_way.false)
