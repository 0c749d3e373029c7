-- mPackets stay ordered where one begins, ends or arrives in its turn.
use Rattle.std.proofs.Common.{ℕ, zero, suc, ◌≡◌, ◌⊎◌, ◌≤◌, ◌<◌, ◌+◌, ◌*◌, List, [], ◌∷◌, ◌++◌, length}
use Rattle.std.proofs.Common.{sym, ◌∙◌, ap, inl, inr, arith, subst, Some, length-append}
use Rattle.std.specs.Prelude.{slice_get}
use Rattle.pre_history.specs.History.{Begin, Ended, Arrive}
use Rattle.pre_history.specs.Ordered.{AreOrdered}
use Rattle.pre_history.proofs.Lists.{at_end, within, one_at, there}

length_push : {X : Type 0} (xs : List X) (x : X) → length (xs ++ x ∷ []) ≡ suc (length xs)
length_push xs x = omega (arith, length-append xs (x ∷ []))

past_end : {X : Type 0} (xs : List X) (x : X) → slice_get xs (length xs) ≡ Some x → ⊥
past_end xs x at = let lt : length xs < length xs = within xs (length xs) x at in omega (arith, lt)

less_or_same : (i j : ℕ) → i < suc j → (i < j) ⊎ (i ≡ j)
less_or_same i j lt = grind arith

module _ (cost delay : ℕ) (bs : List Begin) (es : List Ended) (xs : List Arrive) (o : AreOrdered cost delay bs es xs) where
  pub push_begin : (b : Begin) → b.ord ≡ length bs → length es ≡ length bs → ((i : ℕ) (e : Ended) → slice_get es i ≡ Some e → suc i ≡ length bs → e.tick + 12 * cost ≤ b.tick)
      → AreOrdered cost delay (bs ++ b ∷ []) es xs
  push_begin b ord all gap = record {
    begin_places = λ i c at. elim (at_end bs b c i at) [ inl here ↦ o.begin_places i c here | inr end ↦ ap (λ (x : Begin). x.ord) (sym end.1) ∙ (ord ∙ sym end.0) ];
    end_places = o.end_places;
    arrival_places = o.arrival_places;
    few_open = omega (arith, length_push bs b, all);
    ends_begun = omega (arith, length_push bs b, o.ends_begun);
    arrivals_ended = o.arrivals_ended;
    spans = λ i c e at at'. elim (at_end bs b c i at) [
      | inl here ↦ o.spans i c e here at'
      | inr end ↦ absurd (let lt : i < length es = within es i e at' in omega (arith, lt, all, end.0))
    ];
    travels = o.travels;
    apart = λ i e c at at'. elim (at_end bs b c (suc i) at') [
      | inl here ↦ o.apart i e c at here
      | inr end ↦ subst (λ (x : Begin). e.tick + 12 * cost ≤ x.tick) end.1 (gap i e at end.0)
    ];
  }

  pub push_end : (b : Begin) (e : Ended) → length bs ≡ suc (length es) → slice_get bs (length es) ≡ Some b → e.ord ≡ b.ord → e.tick ≡ b.tick + cost * (e.size + 8)
      → AreOrdered cost delay bs (es ++ e ∷ []) xs
  push_end b e one at ord span = record {
    begin_places = o.begin_places;
    end_places = λ i d here. elim (at_end es e d i here) [ inl old ↦ o.end_places i d old | inr end ↦ ap (λ (x : Ended). x.ord) (sym end.1) ∙ (ord ∙ (o.begin_places (length es) b at ∙ sym end.0)) ];
    arrival_places = o.arrival_places;
    few_open = omega (arith, length_push es e, one);
    ends_begun = omega (arith, length_push es e, one);
    arrivals_ended = omega (arith, length_push es e, o.arrivals_ended);
    spans = λ i c d here here'. elim (at_end es e d i here') [
      | inl old ↦ o.spans i c d here old
      | inr end ↦ let same : b ≡ c = one_at bs i b c (ap (slice_get bs) end.0 ∙ at) here in cc (span, same, end.1)
    ];
    travels = λ i d x here here'. elim (at_end es e d i here) [
      | inl old ↦ o.travels i d x old here'
      | inr end ↦ absurd (let lt : i < length xs = within xs i x here' in omega (arith, lt, o.arrivals_ended, end.0))
    ];
    apart = λ i d c here here'. elim (at_end es e d i here) [
      | inl old ↦ o.apart i d c old here'
      | inr end ↦ absurd (let lt : suc i < length bs = within bs (suc i) c here' in omega (arith, lt, one, end.0))
    ];
  }

  pub push_arrival : (e : Ended) (x : Arrive) → slice_get es (length xs) ≡ Some e → x.ord ≡ e.ord → x.tick ≡ e.tick + delay
      → AreOrdered cost delay bs es (xs ++ x ∷ [])
  push_arrival e x at ord tick = record {
    begin_places = o.begin_places;
    end_places = o.end_places;
    arrival_places = λ i y here. elim (at_end xs x y i here) [ inl old ↦ o.arrival_places i y old | inr end ↦ ap (λ (z : Arrive). z.ord) (sym end.1) ∙ (ord ∙ (o.end_places (length xs) e at ∙ sym end.0)) ];
    few_open = o.few_open;
    ends_begun = o.ends_begun;
    arrivals_ended = let lt : length xs < length es = within es (length xs) e at in omega (arith, length_push xs x, lt);
    spans = o.spans;
    travels = λ i d y here here'. elim (at_end xs x y i here') [
      | inl old ↦ o.travels i d y here old
      | inr end ↦ let same : e ≡ d = one_at es i e d (ap (slice_get es) end.0 ∙ at) here in cc (tick, same, end.1)
    ];
    apart = o.apart;
  }

  next_end : 1 ≤ cost → (j : ℕ) (c e : Ended) → slice_get es j ≡ Some c → slice_get es (suc j) ≡ Some e → c.tick < e.tick
  next_end some j c e here at =
      let lt : suc j < length es = within es (suc j) e at in
      let b = there bs (suc j) (omega (arith, lt, o.ends_begun)) in
      let gap : c.tick + 12 * cost ≤ b.0.tick = o.apart j c b.0 here b.1 in
      let span : e.tick ≡ b.0.tick + cost * (e.size + 8) = o.spans (suc j) b.0 e b.1 at in
      omega (arith, gap, span, some)

  -- ends stand in order
  pub ends_rise : 1 ≤ cost → (i j : ℕ) (d e : Ended) → i < j → slice_get es i ≡ Some d → slice_get es j ≡ Some e → d.tick < e.tick
  ends_rise some i zero d e lt at at' = absurd (omega (arith, lt))
  ends_rise some i (suc j) d e lt at at' =
      let c = there es j (omega (arith, within es (suc j) e at')) in
      let step : c.0.tick < e.tick = next_end some j c.0 e c.1 at' in
      elim (less_or_same i j lt) [
        | inl less ↦ let before : d.tick < c.0.tick = ends_rise some i j d c.0 less at c.1 in omega (arith, before, step)
        | inr same ↦ let is : d ≡ c.0 = cc (at, c.1, same) in subst (λ (x : Ended). x.tick < e.tick) (sym is) step
      ]
