-- How far apart mPackets arrive by one arc, and so how many of them within some ticks.
use Rattle.std.proofs.Common.{ℕ, zero, suc, ◌≡◌, ◌<◌, ◌≤◌, ◌+◌, ◌-◌, ◌*◌, ◌/◌, inl, inr, List, [], ◌∷◌}
use Rattle.std.proofs.Common.{length, drop, ◌∙◌, ap, refl, arith, Some, All, subst}
use Rattle.std.specs.Prelude.{slice_get}
use Rattle.std.proofs.Math.Nat.{mul-le-mul_left}
use Rattle.std.proofs.lemmas.Bool.{cases_lt}
use Rattle.std.proofs.lemmas.List.{length-drop}
use Rattle.std.proofs.lemmas.List.Elements.{recursion_from_All}
use Rattle.std.proofs.lemmas.Nat.{le-div}
use Rattle.pre_history.specs.History.{Begin, Ended, Arrive}
use Rattle.pre_history.specs.Ordered.{AreOrdered}
use Rattle.pre_history.proofs.Lists.{there, within, one_at, every_at}

at_drop : {X : Type 0} (n : ℕ) (xs : List X) → slice_get (drop n xs) 0 ≡ slice_get xs n
at_drop zero xs = refl
at_drop (suc n) [] = refl
at_drop (suc n) (x ∷ xs) = at_drop n xs

module _ (cost delay : ℕ) (begins : List Begin) (ends : List Ended) (arrivals : List Arrive) (is : AreOrdered cost delay begins ends arrivals) (long : All (λ e. 64 ≤ e.size) ends) where
  -- one after another: the gap, the eight octets of the preamble, and 64
  follows : (i : ℕ) (d e : Ended) → slice_get ends i ≡ Some d → slice_get ends (suc i) ≡ Some e → d.tick + 84 * cost ≤ e.tick
  follows i d e at next =
      let b = there begins (suc i) (omega (arith, within ends (suc i) e next, is.ends_begun)) in
      let size : 64 ≤ e.size = every_at (λ (x : Ended). 64 ≤ x.size) ends (suc i) e (recursion_from_All (λ (x : Ended). 64 ≤ x.size) ends long) next in
      let head : 72 ≤ e.size + 8 = omega (arith, size) in
      let spent : cost * 72 ≤ cost * (e.size + 8) = mul-le-mul_left cost head in
      omega (arith, is.spans (suc i) b.0 e b.1 next, is.apart i d b.0 at b.1, spent)

  -- and so with others between them
  pub far : (k i j : ℕ) (d e : Ended) → j ≡ k + i → slice_get ends i ≡ Some d → slice_get ends j ≡ Some e → d.tick + 84 * cost * k ≤ e.tick
  far zero i j d e place at to =
      let here : j ≡ i = omega (arith, place) in
      let same = one_at ends i d e at (subst (λ n. slice_get ends n ≡ Some e) here to) in
      omega (arith, ap (λ (x : Ended). x.tick) same)
  far (suc k) i j d e place at to =
      let m = there ends (k + i) (omega (arith, within ends j e to, place)) in
      let here : j ≡ suc (k + i) = omega (arith, place) in
      omega (arith, far k i (k + i) d m.0 refl at m.1, follows (k + i) m.0 e m.1 (subst (λ n. slice_get ends n ≡ Some e) here to))

  module _ (latency gone : ℕ) (e : Ended) (pos : 1 ≤ cost) (next : slice_get ends (length arrivals) ≡ Some e) (late : All (λ x. e.tick + delay ≤ x.tick + latency) (drop gone arrivals)) where
    -- the first of those that came so late
    some_late : gone < length arrivals → 84 * cost * (length arrivals - gone) ≤ latency
    some_late lt =
        let x = there arrivals gone lt in
        let d = there ends gone (omega (arith, lt, is.arrivals_ended)) in
        let came = is.travels gone d.0 x.0 d.1 x.1 in
        let its : e.tick + delay ≤ x.0.tick + latency =
        every_at (λ (y : Arrive). e.tick + delay ≤ y.tick + latency) (drop gone arrivals) 0 x.0
        (recursion_from_All (λ (y : Arrive). e.tick + delay ≤ y.tick + latency) (drop gone arrivals) late) (at_drop gone arrivals ∙ x.1) in
        let place : length arrivals ≡ (length arrivals - gone) + gone = omega (arith, lt) in
        let ahead = far (length arrivals - gone) gone (length arrivals) d.0 e place d.1 next in
        omega (arith, came, its, ahead)

    pub few_late : length (drop gone arrivals) ≤ latency / (84 * cost)
    few_late = elim (cases_lt gone (length arrivals)) [
      | inl lt ↦
          let some = some_late lt in
          le-div (length (drop gone arrivals)) latency (84 * cost) (omega (arith, pos)) (omega (arith, some, ap (λ n. 84 * cost * n) (length-drop gone arrivals)))
      | inr ge ↦ omega (arith, length-drop gone arrivals, ge)
    ]
