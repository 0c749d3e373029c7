use Rattle.std.proofs.Common.{◌≡◌, ◌+◌, ◌-◌, ◌++◌, ◌∷◌, [], ℕ, List, Bool, cond, filter, sym, ap, subst, ◌∙◌, arith, rules}
use Rattle.std.proofs.lemmas.List.{append-nil}
use Rattle.std.specs.List.{range_with_len}
use Rattle.pre_picture.specs.Runs.{carries, carrying}
use Rattle.pre_picture.proofs.Drawn.{range_more, filter_step, few_more}
use Rattle.pre_picture.proofs.runs.carrying.Goals as goal

pub loop-arc-init : goal.loop-arc-init
unfolding carrying
loop-arc-init c = search rules

pub loop-arc-preserved : goal.loop-arc-preserved
loop-arc-preserved c =
    let p = carries c.args.scale.now c.args.bars.now in
    let i = c.loop-arc.arc in
    let found : List ℕ = c.loop-arc.arcs in
    let next : List ℕ = c.add_where.new.arcs in
    let is : next ≡ cond (p i) (found ++ i ∷ []) found = c.in_ok-add_where.ensures ∙ ap (λ (b : Bool). cond b (found ++ i ∷ []) found) c.carries.ensures in
    record {
      rest = filter_step (p i) found next (filter p (range_with_len (i + 1) (256 - (i + 1)))) i is
          ∙ (ap (λ (l : List ℕ). found ++ filter p l) (sym (range_more i 256 c.loop-arc-test.true)) ∙ c.loop-arc.invariant.rest);
      few = few_more (p i) found next i is c.loop-arc.invariant.few;
    }

pub returns-clause-arcs : goal.returns-clause-arcs
returns-clause-arcs c =
    let p = carries c.args.scale.now c.args.bars.now in
    let found : List ℕ = c.loop-arc.arcs in
    let all : c.loop-arc.arc ≡ 256 = omega (arith, c.loop-arc-test.false) in
    sym (append-nil found)
    ∙ subst (λ (n : ℕ). found ++ filter p (range_with_len n (256 - n)) ≡ carrying c.args.scale.now c.args.bars.now) all c.loop-arc.invariant.rest
