use Rattle.std.proofs.Common.{sym, ◌∙◌}
use Rattle.pre_outgoing.proofs.Asking.{rest_agrees}
use Rattle.pre_outgoing.proofs.outgoing.Outgoing.is_interrupted.Goals as goal

pub returns-clause-exact : goal.returns-clause-exact
returns-clause-exact c = λ w past t a n settled a_lt legal sends free.
    let k = rest_agrees w past t a n settled c.args.self.now a_lt legal sends free in
    (λ x. k.0 (sym c.interrupted.ensures.some ∙ (sym c.is_some.ensures ∙ x)), λ x. c.is_some.ensures ∙ (c.interrupted.ensures.some ∙ k.1 x))
