use Rattle.std.proofs.Common.{◌≡◌, ◌+◌, ◌<◌, [], ◌∷◌, ◌++◌, length, All, ◌∙◌, sym, ap, subst, arith, length-append}
use Rattle.std.proofs.lemmas.List.Elements.{All-push}
use Rattle.pre_rings.specs.Slots.{times}
use Rattle.pre_rings.proofs.KeptLemmas.{times-passed, times-ahead}
use Rattle.pre_rings.proofs.store.free_list.Goals as goal

pub loop-place-preserved : goal.loop-place-preserved
loop-place-preserved c =
    let places = c.loop-place.free.items in
    let place = c.loop-place.place in
    let now : c.push.new.self.items ≡ places ++ place ∷ [] = c.in_ok-push.ensures.items ∙ ap (λ p. places ++ p ∷ []) c.at.ensures in
    record {
      passed = λ p h. ap (λ l. times l p) now ∙ times-passed places place c.loop-place.invariant.passed c.loop-place.invariant.ahead p h;
      ahead = λ p h. ap (λ l. times l p) now ∙ times-ahead places place c.loop-place.invariant.ahead p h;
      within = subst (λ l. All (λ q. q < c.args.slots) l) (sym now) (All-push (λ q. q < c.args.slots) places place c.loop-place.invariant.within c.loop-place-test.true);
      all = ap length now ∙ length-append places (place ∷ []) ∙ ap (λ n. n + 1) c.loop-place.invariant.all;
      capacity = omega (arith, c.in_ok-push.ensures.capacity, c.loop-place.invariant.capacity);
    }
