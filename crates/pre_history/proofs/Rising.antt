-- Ticks strictly rise along the mPackets of an arc, and along their ends.
use Rattle.std.proofs.Common.{ℕ, zero, suc, ◌≡◌, ◌⊎◌, ◌<◌, ◌≤◌, length, sym, ◌∙◌, ap, inl, inr, arith, Some}
use Rattle.std.specs.Prelude.{slice_get}
use Rattle.pre_history.specs.Scenario.{Scenario}
use Rattle.pre_history.specs.History.{History, Begin, Ended}
use Rattle.pre_history.specs.Queries.{Begins, Ends}
use Rattle.pre_history.specs.Legal.{LegalUpTo}
use Rattle.pre_history.proofs.Lists.{there, within, one_at}
use Rattle.pre_history.proofs.Steady.{costs}
use Rattle.pre_history.proofs.InOrder.{steady}

module _ (w : Scenario) (n : ℕ) (h : History) (legal : LegalUpTo w n h) (a : ℕ) (a_lt : a < length w.net.arcs) where
  next_rises : (i : ℕ) (b d : Begin) → slice_get (Begins h a) i ≡ Some b → slice_get (Begins h a) (suc i) ≡ Some d → b.tick < d.tick
  next_rises i b d at at' =
      let o = (steady w n h a a_lt legal).ordered in
      let e = there (Ends h a) i (omega (arith, within (Begins h a) (suc i) d at', o.few_open)) in
      let span = o.spans i b e.0 at e.1 in
      let gap = o.apart i e.0 d e.1 at' in
      let cost = costs w a a_lt in
      omega (arith, span, gap, cost)

  pub rises : (i j : ℕ) (b d : Begin) → i < j → slice_get (Begins h a) i ≡ Some b → slice_get (Begins h a) j ≡ Some d → b.tick < d.tick
  rises i zero b d lt at at' = absurd (omega (arith, lt))
  rises i (suc j) b d lt at at' =
      let c = there (Begins h a) j (omega (arith, within (Begins h a) (suc j) d at')) in
      let last' = next_rises j c.0 d c.1 at' in
      go (order i j (omega (arith, lt))) c.0 c.1 last' (λ c more at_c. rises i j b c more at at_c)
    where
      order : (i j : ℕ) → i ≤ j → (i ≡ j) ⊎ (i < j)
      order i j le = grind arith

      go : (i ≡ j) ⊎ (i < j) → (c : Begin) → slice_get (Begins h a) j ≡ Some c → c.tick < d.tick → ((c : Begin) → i < j → slice_get (Begins h a) j ≡ Some c → b.tick < c.tick) → b.tick < d.tick
      go (inl same) c at_c less rest = let is : b ≡ c = one_at (Begins h a) j b c (ap (slice_get (Begins h a)) (sym same) ∙ at) at_c in let tick_is = ap (λ (x : Begin). x.tick) is in omega (arith, tick_is, less)
      go (inr more) c at_c less rest = let early = rest c more at_c in omega (arith, early, less)

  -- so do those of their ends
  pub ends_rise : (i j : ℕ) (d e : Ended) → i < j → slice_get (Ends h a) i ≡ Some d → slice_get (Ends h a) j ≡ Some e → d.tick < e.tick
  ends_rise i j d e lt at at' =
      let o = (steady w n h a a_lt legal).ordered in
      let j_lt = within (Ends h a) j e at' in
      let b = there (Begins h a) (suc i) (omega (arith, lt, j_lt, o.ends_begun)) in
      let c = there (Begins h a) j (omega (arith, j_lt, o.ends_begun)) in
      let gap = o.apart i d b.0 at b.1 in
      let span = o.spans j c.0 e c.1 at' in
      let cost = costs w a a_lt in
      let first : b.0.tick ≤ c.0.tick = not_after b c in
      omega (arith, gap, span, cost, first)
    where
      order : (i j : ℕ) → i ≤ j → (i ≡ j) ⊎ (i < j)
      order i j le = grind arith

      not_after : (b : (b : Begin) × (slice_get (Begins h a) (suc i) ≡ Some b)) (c : (c : Begin) × (slice_get (Begins h a) j ≡ Some c)) → b.0.tick ≤ c.0.tick
      not_after b c = elim (order (suc i) j lt) [
        | inl same ↦ let is : b.0 ≡ c.0 = one_at (Begins h a) j b.0 c.0 (ap (slice_get (Begins h a)) (sym same) ∙ b.1) c.1 in let tick_is = ap (λ (x : Begin). x.tick) is in omega (arith, tick_is)
        | inr more ↦ let less = rises (suc i) j b.0 c.0 more b.1 c.1 in omega (arith, less)
      ]

  -- so no place is above its tick
  pub place_le_tick : (i : ℕ) (b : Begin) → slice_get (Begins h a) i ≡ Some b → i ≤ b.tick
  place_le_tick zero b at = omega arith
  place_le_tick (suc i) b at =
      let c = there (Begins h a) i (let lt = within (Begins h a) (suc i) b at in omega (arith, lt)) in
      let less = rises i (suc i) c.0 b (omega arith) c.1 at in
      let before = place_le_tick i c.0 c.1 in
      omega (arith, less, before)
