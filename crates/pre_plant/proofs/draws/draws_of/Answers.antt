use Rattle.std.proofs.Common.{◌≡◌, ◌+◌, ◌-◌, ◌++◌, List, ℕ, ap, ◌∙◌, sym, arith, subst}
use Rattle.std.proofs.lemmas.List.{append-nil}
use Rattle.pre_plant.specs.Draws.{drawn, draws_of}
use Rattle.pre_plant.proofs.Drawing.{draws_are, drawn_more, drawn_none}
use Rattle.pre_plant.proofs.draws.draws_of.Goals as goal

pub loop-count-init : goal.loop-count-init
loop-count-init c = ap (λ (l : List ℕ). l ++ drawn 360 c.args.number) c.new-draws.ensures.items ∙ draws_are c.args.number

pub loop-count-preserved : goal.loop-count-preserved
loop-count-preserved c =
    let on : 360 - c.loop-count._count ≡ 360 - (c.loop-count._count + 1) + 1 = omega (arith, c.loop-count-test.true) in
    drawn_more (draws_of c.args.number) c.loop-count.draws.items c.push.new.self.items (360 - (c.loop-count._count + 1)) c.loop-count.state c.next_state-state.result
    (subst (λ k. c.loop-count.draws.items ++ drawn k c.loop-count.state ≡ draws_of c.args.number) on c.loop-count.invariant)
    c.next_state-state.ensures
    c.in_ok-push.ensures.items

pub returns : goal.returns
returns c =
    let none : 360 - c.loop-count._count ≡ 0 = omega (arith, c.loop-count-test.false) in
    sym (append-nil c.loop-count.draws.items)
    ∙ ap (λ (l : List ℕ). c.loop-count.draws.items ++ l) (sym (ap (λ k. drawn k c.loop-count.state) none ∙ drawn_none c.loop-count.state))
    ∙ c.loop-count.invariant
