use Rattle.std.proofs.Common.{◌∙◌, drop, arith}
use Rattle.pre_rings.proofs.PortLemmas.{port_of-changed}
use Rattle.pre_rings.proofs.rings.PortRings.leave.Goals as goal

pub returns-clause-rest : goal.returns-clause-rest
returns-clause-rest c =
    port_of-changed c.self.inside.rings.items c.args.prio c.from.result c.index_mut.result.now c.pop_front.new.self c.args.self.now (λ frames. drop 1 frames) c.self.view_is c.self.invariant
    (omega (arith, c.number.ensures.value)) (c.from.ensures ∙ c.number.ensures.value) c.index_mut.ensures.value c.pop_front.ensures.items
