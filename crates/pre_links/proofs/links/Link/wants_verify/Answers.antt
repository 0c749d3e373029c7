use Rattle.std.proofs.Common.{not, sym, subst, ap, ◌∙◌}
use Rattle.std.specs.Bool.{Decides}
use Rattle.pre_history.specs.LinkState.{VerifyWanted}
use Rattle.pre_links.proofs.Asked.{rests, verify_wanted}
use Rattle.pre_links.proofs.links.Link.wants_verify.Goals as goal

pub returns-then-wanted-clause-wanted : goal.returns-then-wanted-clause-wanted
returns-then-wanted-clause-wanted c = λ w h a a_lt legal s free.
    let decides = verify_wanted w c.args.now.0 h a a_lt legal c.args.self.now s in
    let due = c.wanted.ensures.due w.net.timing.verify s.calls s.stands in
    let calm = ap not (c.is_under_way.ensures.exact w.net.timing.verify s.calls s.stands ∙ rests w c.args.now.0 h a a_lt legal c.args.self.now s free) in
    subst (λ b. Decides b (VerifyWanted w h a c.args.now.0)) (sym due ∙ c.if-wanted.true ∙ sym calm) decides

pub returns-else-wanted-clause-wanted : goal.returns-else-wanted-clause-wanted
returns-else-wanted-clause-wanted c = λ w h a a_lt legal s free.
    subst (λ b. Decides b (VerifyWanted w h a c.args.now.0)) (sym (c.wanted.ensures.due w.net.timing.verify s.calls s.stands)) (verify_wanted w c.args.now.0 h a a_lt legal c.args.self.now s)
