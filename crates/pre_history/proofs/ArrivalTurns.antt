-- An mPacket arrives in its turn.
use Rattle.std.proofs.Common.{ℕ, suc, ◌≡◌, ◌≢◌, ◌⊎◌, ◌+◌, ◌<◌, List, [], ◌∷◌, ◌++◌, length, refl, sym}
use Rattle.std.proofs.Common.{◌∙◌, ap, inl, inr, arith, subst, Option, Some, None, length-append, Bool, true, false}
use Rattle.std.specs.Prelude.{slice_get}
use Rattle.std.proofs.lemmas.Bool.{cases_lt}
use Rattle.std.proofs.lemmas.List.Elements.{filter_map-append}
use Rattle.pre_history.specs.declared.events.Outcome.{Outcome}
use Rattle.pre_history.specs.Scenario.{Scenario, arc}
use Rattle.pre_history.specs.Moments.{Phase, moments}
use Rattle.pre_history.specs.History.{PlainEvent, History, Ended, Arrive}
use Rattle.pre_history.specs.Selected.{arrive_on, is_frame_result}
use Rattle.pre_history.specs.Queries.{Begins, Ends, Arrivals}
use Rattle.pre_history.specs.Comings.{next_arc}
use Rattle.pre_history.specs.Rules.{Arriving, EventsOf, WithDelivery, delivered, arrival, HappensIn}
use Rattle.pre_history.specs.Octets.{Air}
use Rattle.pre_history.specs.ArrivalResults.{Result}
use Rattle.pre_history.specs.Placed.{number, AllAt, AllBefore}
use Rattle.pre_history.specs.Ordered.{AreOrdered}
use Rattle.pre_history.proofs.Lists.{there, within, one_at, every_at}
use Rattle.pre_history.proofs.Placing.{same_tick}
use Rattle.pre_history.proofs.Pushes.{push_arrival, ends_rise}
use Rattle.pre_history.proofs.Turns.{tick_lt, same_begins, same_ends, each_none, each_only}
use Rattle.pre_history.proofs.Free.{arrivals_before}
use Rattle.pre_history.proofs.Steady.{Steady, costs, less_or_equal, parted, number_lt, old_size, old_check, no_events}
use Rattle.pre_history.proofs.NatTests.{is_eq}

module _ (w : Scenario) (past es : History) (t a : ℕ) (a_lt : a < length w.net.arcs) where
  -- an arrival has one `arrive` event
  pub one_arrival : (i : ℕ) (r : Outcome) (fs : List PlainEvent) → WithDelivery w past t a i r fs → Arrivals fs a ≡ record { tick = t; arc = a; ord = i; result = r } ∷ []
  one_arrival i r fs with' = by_test (is_frame_result r) with'
    where
      both : (f : ℕ) (octets : List ℕ) (next : Option ℕ) → Arrivals (arrival t a i r ∷ delivered t (arc w a).to.0 f octets next) a ≡ record { tick = t; arc = a; ord = i; result = r } ∷ []
      both f octets None = rw (is_eq a a refl) refl
      both f octets (Some b) = rw (is_eq a a refl) refl

      by_test : (is_user : Bool) → EventsOf w past t is_user a i r fs → Arrivals fs a ≡ record { tick = t; arc = a; ord = i; result = r } ∷ []
      by_test true (f, octets, frame, gives, is) = ap (λ x. Arrivals x a) is ∙ both f octets (next_arc w a f)
      by_test false is = ap (λ x. Arrivals x a) is ∙ rw (is_eq a a refl) refl

  module _ (k_lt : 1 + length w.net.arcs + a < moments (length w.net.arcs))
      (before : AllBefore (length w.net.arcs) (number (length w.net.arcs) t (1 + length w.net.arcs + a)) past) (at : AllAt (length w.net.arcs) (number (length w.net.arcs) t (1 + length w.net.arcs + a)) es)
      (s : Steady w (number (length w.net.arcs) t (1 + length w.net.arcs + a)) past a) where
    -- what isn't the next to arrive isn't due
    pub not_due : (i : ℕ) (e : Ended) → i ≢ length (Arrivals past a) → slice_get (Ends past a) i ≡ Some e → e.tick + (arc w a).delay ≢ t
    not_due i e other here now = elim (parted i (length (Arrivals past a)) other) [
      | inl less ↦
          let x = there (Arrivals past a) i less in
          let travel : x.0.tick ≡ e.tick + (arc w a).delay = s.ordered.travels i e x.0 here x.1 in
          let y = every_at (λ (x : Arrive). (x.arc ≡ a) × (number (length w.net.arcs) x.tick (1 + length w.net.arcs + a) < number (length w.net.arcs) t (1 + length w.net.arcs + a))) (Arrivals past a) i x.0 (arrivals_before (length w.net.arcs) (number (length w.net.arcs) t (1 + length w.net.arcs + a)) a past before) x.1 in
          let early : x.0.tick < t = tick_lt (moments (length w.net.arcs)) x.0.tick t (1 + length w.net.arcs + a) y.1 in
          absurd (omega (arith, early, travel, now))
      | inr more ↦
          let d = there (Ends past a) (length (Arrivals past a)) (omega (arith, more, within (Ends past a) i e here)) in
          let rise : d.0.tick < e.tick = ends_rise (arc w a).cost (arc w a).delay (Begins past a) (Ends past a) (Arrivals past a) s.ordered (costs w a a_lt) (length (Arrivals past a)) i d.0 e more d.1 here in
          let early : number (length w.net.arcs) (d.0.tick + (arc w a).delay) (1 + length w.net.arcs + a) < number (length w.net.arcs) t (1 + length w.net.arcs + a)
          = number_lt (moments (length w.net.arcs)) (d.0.tick + (arc w a).delay) t (1 + length w.net.arcs + a) (omega arith) (omega (arith, rise, now)) in
          let lt = s.arrived (length (Arrivals past a)) d.0 d.1 early in
          absurd (omega (arith, lt))
    ]

    -- what else is due by now has arrived
    others_arrived : (i : ℕ) (e : Ended) → i ≢ length (Arrivals past a) → slice_get (Ends past a) i ≡ Some e
        → number (length w.net.arcs) (e.tick + (arc w a).delay) (1 + length w.net.arcs + a) < suc (number (length w.net.arcs) t (1 + length w.net.arcs + a)) → i < length (Arrivals past a)
    others_arrived i e other here lt = elim (less_or_equal (number (length w.net.arcs) (e.tick + (arc w a).delay) (1 + length w.net.arcs + a)) (number (length w.net.arcs) t (1 + length w.net.arcs + a)) lt) [
      | inl less ↦ s.arrived i e here less
      | inr same ↦ absurd (not_due i e other here (same_tick (length w.net.arcs) (e.tick + (arc w a).delay) t (1 + length w.net.arcs + a) (1 + length w.net.arcs + a) k_lt k_lt same))
    ]

    -- the mPacket that arrives
    arrives : (e : Ended) → slice_get (Ends past a) (length (Arrivals past a)) ≡ Some e → Arriving w past t a e es → Steady w (suc (number (length w.net.arcs) t (1 + length w.net.arcs + a))) (past ++ es) a
    arrives e here (inr (later, is)) = no_events w past es t (1 + length w.net.arcs + a) a k_lt a_lt before at s is (λ i d at_d lt. elim (cases_eq i (length (Arrivals past a))) [
      | inl same ↦ absurd (later (ap (λ (x : Ended). x.tick + (arc w a).delay) (one_at (Ends past a) i e d (ap (slice_get (Ends past a)) same ∙ here) at_d)
          ∙ elim (less_or_equal (number (length w.net.arcs) (d.tick + (arc w a).delay) (1 + length w.net.arcs + a)) (number (length w.net.arcs) t (1 + length w.net.arcs + a)) lt) [
            | inl less ↦ absurd (let lt' = s.arrived i d at_d less in omega (arith, lt', same))
            | inr now ↦ same_tick (length w.net.arcs) (d.tick + (arc w a).delay) t (1 + length w.net.arcs + a) (1 + length w.net.arcs + a) k_lt k_lt now
          ]))
      | inr other ↦ others_arrived i d other at_d lt
    ])
      where
        cases_eq : (m n : ℕ) → (m ≡ n) ⊎ (m ≢ n)
        cases_eq m n = grind arith
    arrives e here (inl (due, (r, result, delivers))) =
        let x : Arrive = record { tick = t; arc = a; ord = e.ord; result = r } in
        let bs_same : Begins (past ++ es) a ≡ Begins past a = same_begins (length w.net.arcs) t (1 + length w.net.arcs + a) a k_lt a_lt past es (λ e. absurd (omega (arith, e))) at in
        let es_same : Ends (past ++ es) a ≡ Ends past a = same_ends (length w.net.arcs) t (1 + length w.net.arcs + a) a k_lt a_lt past es (λ e. absurd (omega (arith, e, a_lt))) at in
        let xs_more : Arrivals (past ++ es) a ≡ Arrivals past a ++ x ∷ [] = filter_map-append (arrive_on a) past es ∙ ap (λ xs. Arrivals past a ++ xs) (one_arrival e.ord r es delivers) in
        let pushed = push_arrival (arc w a).cost (arc w a).delay (Begins past a) (Ends past a) (Arrivals past a) s.ordered e x here refl (sym due) in
        record {
          ordered =
              let first = subst (λ xs. AreOrdered (arc w a).cost (arc w a).delay xs (Ends past a) (Arrivals past a ++ x ∷ [])) (sym bs_same) pushed in
              let second = subst (λ xs. AreOrdered (arc w a).cost (arc w a).delay (Begins (past ++ es) a) xs (Arrivals past a ++ x ∷ [])) (sym es_same) first in
              subst (λ xs. AreOrdered (arc w a).cost (arc w a).delay (Begins (past ++ es) a) (Ends (past ++ es) a) xs) (sym xs_more) second;
          sizes = λ i c d at_c at_d.
              old_size w past es t (1 + length w.net.arcs + a) a k_lt a_lt before at s i c d (ap (λ xs. slice_get xs i) (sym bs_same) ∙ at_c) (ap (λ xs. slice_get xs i) (sym es_same) ∙ at_d);
          checks = λ i c d at_c at_d.
              old_check w past es t (1 + length w.net.arcs + a) a k_lt a_lt before at s i c d (ap (λ xs. slice_get xs i) (sym bs_same) ∙ at_c) (ap (λ xs. slice_get xs i) (sym es_same) ∙ at_d);
          arrived = λ i d at_d lt. subst (λ (xs : List Arrive). i < length xs) (sym xs_more) (subst (λ n. i < n) (sym (length-push (Arrivals past a) x)) (elim (cases_lt i (suc (length (Arrivals past a)))) [
            | inl done ↦ done
            | inr more ↦
                let old = others_arrived i d (λ e. absurd (omega (arith, e, more))) (ap (λ xs. slice_get xs i) (sym es_same) ∙ at_d) lt in
                absurd (omega (arith, old, more))
          ]));
        }
      where
        length-push : {X : Type 0} (xs : List X) (x : X) → length (xs ++ x ∷ []) ≡ suc (length xs)
        length-push xs x = omega (arith, length-append xs (x ∷ []))

    none_due : (i : ℕ) (d : Ended) (fs : List PlainEvent) → i ≢ length (Arrivals past a) → slice_get (Ends past a) i ≡ Some d → Arriving w past t a d fs → fs ≡ []
    none_due i d fs other here (inr (later, is)) = is
    none_due i d fs other here (inl (due, some)) = absurd (not_due i d other here due)

    -- nothing arrives, or the next one does
    pub what_arrives : HappensIn w past t (Phase.arrivals a) es
        → (es ≡ []) ⊎ ((e : Ended) × (slice_get (Ends past a) (length (Arrivals past a)) ≡ Some e) × (e.tick + (arc w a).delay ≡ t) × ((r : Outcome) × Result (Air w past a) e.ord r × WithDelivery w past t a e.ord r es))
    unfolding HappensIn
    what_arrives each = elim (cases_lt (length (Arrivals past a)) (length (Ends past a))) [
      | inl open_one ↦
          let e = there (Ends past a) (length (Arrivals past a)) open_one in
          elim (each_only (Arriving w past t a) (Ends past a) es (length (Arrivals past a)) e.0 e.1 (λ i d fs other here one. none_due i d fs other here one) each) [
            | inl arriving ↦ inr (e.0, e.1, arriving.0, arriving.1)
            | inr later ↦ inl later.1
          ]
      | inr all ↦ inl (each_none (Arriving w past t a) (Ends past a) es (λ i d fs here one. none_due i d fs (λ e. absurd (omega (arith, e, all, within (Ends past a) i d here))) here one) each)
    ]

    pub arrivals_step : HappensIn w past t (Phase.arrivals a) es → Steady w (suc (number (length w.net.arcs) t (1 + length w.net.arcs + a))) (past ++ es) a
    unfolding HappensIn
    arrivals_step each = elim (cases_lt (length (Arrivals past a)) (length (Ends past a))) [
      | inl open_one ↦
          let e = there (Ends past a) (length (Arrivals past a)) open_one in
          arrives e.0 e.1 (each_only (Arriving w past t a) (Ends past a) es (length (Arrivals past a)) e.0 e.1 (λ i d fs other here one. none_due i d fs other here one) each)
      | inr all ↦
          let none : es ≡ [] = each_none (Arriving w past t a) (Ends past a) es (λ i d fs here one. none_due i d fs (λ e. absurd (omega (arith, e, all, within (Ends past a) i d here))) here one) each in
          no_events w past es t (1 + length w.net.arcs + a) a k_lt a_lt before at s none (λ i d at_d lt. omega (arith, all, within (Ends past a) i d at_d))
    ]
