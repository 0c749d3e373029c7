use Rattle.std.proofs.Common.{[], ◌∷◌, ◌++◌, ◌∙◌, arith}
use Rattle.std.proofs.lemmas.Result.{MatchResult-weaker}
use Rattle.pre_rings.proofs.PortLemmas.{port_of-changed}
use Rattle.pre_rings.proofs.rings.PortRings.enter.Goals as goal

pub returns-clause-entered : goal.returns-clause-entered
returns-clause-entered c =
    MatchResult-weaker c.try_push_back.result c.try_push_back.ensures.ok
    (λ x e. port_of-changed c.self.inside.rings.items c.args.prio c.from.result c.index_mut.result.now c.try_push_back.new.self c.args.self.now (λ frames. frames ++ c.args.frame ∷ []) c.self.view_is c.self.invariant
    (omega (arith, c.number.ensures.value)) (c.from.ensures ∙ c.number.ensures.value) c.index_mut.ensures.value e)
    (λ y h. h)
