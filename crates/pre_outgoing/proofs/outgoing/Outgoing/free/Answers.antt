use Rattle.std.proofs.Common.{sym, ◌∙◌}
use Rattle.pre_outgoing.proofs.Asking.{free_agrees}
use Rattle.pre_outgoing.proofs.outgoing.Outgoing.free.Goals as goal

pub returns-clause-exact : goal.returns-clause-exact
returns-clause-exact c = λ w past a n settled a_lt legal sends.
    let k = free_agrees w past c.args.now.0 a n settled c.args.self.now a_lt legal sends in
    (λ x. k.0 (sym c.free.ensures.free ∙ x), λ x. c.free.ensures.free ∙ k.1 x)
