-- An mPacket ends in its turn.
use Rattle.std.proofs.Common.{ℕ, suc, ◌≡◌, ◌==◌, ◌+◌, ◌*◌, ◌<◌, ◌≤◌, true, List, [], ◌∷◌, ◌++◌, length, refl, sym, ◌∙◌, ap, inl, inr, arith, subst, Some}
use Rattle.std.specs.Prelude.{slice_get}
use Rattle.std.proofs.Math.Nat.{mul-le-mul_right, mul-le-mul_left}
use Rattle.std.proofs.lemmas.Bool.{cases_lt}
use Rattle.std.proofs.lemmas.List.Elements.{filter_map-append}
use Rattle.pre_history.specs.Scenario.{Scenario, arc}
use Rattle.pre_history.specs.Moments.{Phase, moments}
use Rattle.pre_history.specs.History.{PlainEvent, History, Begin, Ended, Arrive}
use Rattle.pre_history.specs.Selected.{ended_on}
use Rattle.pre_history.specs.Queries.{Begins, Ends, Arrivals}
use Rattle.pre_history.specs.Starts.{SizeOf}
use Rattle.pre_history.specs.Rules.{OneOrNone, EndDue, CheckOf, HappensIn}
use Rattle.pre_history.specs.Placed.{number, AllAt, AllBefore}
use Rattle.pre_history.specs.Ordered.{AreOrdered}
use Rattle.pre_history.proofs.Lists.{at_end, there, within, one_at, every_at}
use Rattle.pre_history.proofs.Sizes.{size_one}
use Rattle.pre_history.proofs.Stays.{size_later, check_later}
use Rattle.pre_history.proofs.Pushes.{push_end}
use Rattle.pre_history.proofs.Turns.{tick_lt, same_begins, same_arrivals, all_later, each_none, each_only}
use Rattle.pre_history.proofs.Free.{ends_before}
use Rattle.pre_history.proofs.Steady.{Steady, costs, begin_arc, old_size, old_check, no_events, still_arrived}
use Rattle.pre_history.proofs.NatTests.{is_eq}

-- a moment at a later place of no earlier tick isn't reached
not_early : (size s t delay j k : ℕ) → s ≡ t → k < j → (s + delay) * size + j < suc (t * size + k) → ⊥
not_early size s t delay j k same kj lt = let reach : t * size ≤ (s + delay) * size = mul-le-mul_right size (omega (arith, same)) in absurd (omega (arith, reach, lt, kj))

module _ (w : Scenario) (past es : History) (t a : ℕ) (a_lt : a < length w.net.arcs) where
  -- ---- an end

  module _ (k_lt : 1 + a < moments (length w.net.arcs))
      (before : AllBefore (length w.net.arcs) (number (length w.net.arcs) t (1 + a)) past) (at : AllAt (length w.net.arcs) (number (length w.net.arcs) t (1 + a)) es)
      (s : Steady w (number (length w.net.arcs) t (1 + a)) past a) where
    -- what has ended isn't due again
    pub not_again : (i : ℕ) (b : Begin) (fs : List PlainEvent) → i < length (Ends past a) → slice_get (Begins past a) i ≡ Some b → OneOrNone (EndDue w past t b) fs → fs ≡ []
    not_again i b fs lt here (inr (none, is)) = is
    not_again i b fs lt here (inl (e, (size, sized, due, is_end), is)) =
        let d = there (Ends past a) i lt in
        let same : size ≡ d.0.size = size_one w past b.kind b size d.0.size sized (s.sizes i b d.0 here d.1) in
        let span : d.0.tick ≡ b.tick + (arc w a).cost * (d.0.size + 8) = s.ordered.spans i b d.0 here d.1 in
        let on : b.arc ≡ a = begin_arc w past es t (1 + a) a k_lt a_lt before at s i b here in
        let due' : b.tick + (arc w a).cost * (d.0.size + 8) ≡ t = subst (λ x. b.tick + (arc w x).cost * (d.0.size + 8) ≡ t) on (subst (λ x. b.tick + (arc w b.arc).cost * (x + 8) ≡ t) same due) in
        let x = every_at (λ (e : Ended). (e.arc ≡ a) × (number (length w.net.arcs) e.tick (1 + a) < number (length w.net.arcs) t (1 + a))) (Ends past a) i d.0 (ends_before (length w.net.arcs) (number (length w.net.arcs) t (1 + a)) a past before) d.1 in
        let early : d.0.tick < t = tick_lt (moments (length w.net.arcs)) d.0.tick t (1 + a) x.1 in
        absurd (omega (arith, early, span, due'))

    -- the mPacket that ends
    ended : (b : Begin) → slice_get (Begins past a) (length (Ends past a)) ≡ Some b → length (Begins past a) ≡ suc (length (Ends past a)) → OneOrNone (EndDue w past t b) es
        → Steady w (suc (number (length w.net.arcs) t (1 + a))) (past ++ es) a
    ended b here one (inr (none, is)) = no_events w past es t (1 + a) a k_lt a_lt before at s is (still_arrived w past es t (1 + a) a k_lt a_lt before at s (λ e. absurd (omega (arith, e, a_lt))))
    ended b here one (inl (e, (size, sized, due, is_end), is)) =
        let on : b.arc ≡ a = begin_arc w past es t (1 + a) a k_lt a_lt before at s (length (Ends past a)) b here in
        let r : Ended = record { tick = t; arc = b.arc; ord = b.ord; size = size; check = CheckOf w past b size } in
        let es_is : es ≡ PlainEvent.ended r ∷ [] = is ∙ ap (λ x. x ∷ []) is_end in
        let test : (b.arc == a) ≡ true = is_eq b.arc a on in
        let bs_same : Begins (past ++ es) a ≡ Begins past a = same_begins (length w.net.arcs) t (1 + a) a k_lt a_lt past es (λ e. absurd (omega (arith, e))) at in
        let xs_same : Arrivals (past ++ es) a ≡ Arrivals past a = same_arrivals (length w.net.arcs) t (1 + a) a k_lt a_lt past es (λ e. absurd (omega (arith, e, a_lt))) at in
        let one_end : Ends (PlainEvent.ended r ∷ []) a ≡ r ∷ [] = rw test refl in
        let es_more : Ends (past ++ es) a ≡ Ends past a ++ r ∷ [] = filter_map-append (ended_on a) past es ∙ ap (λ xs. Ends past a ++ xs) (ap (λ x. Ends x a) es_is ∙ one_end) in
        let span : t ≡ b.tick + (arc w a).cost * (size + 8) = sym (subst (λ x. b.tick + (arc w x).cost * (size + 8) ≡ t) on due) in
        let pushed = push_end (arc w a).cost (arc w a).delay (Begins past a) (Ends past a) (Arrivals past a) s.ordered b r one here refl span in
        record {
          ordered =
              let first = subst (λ xs. AreOrdered (arc w a).cost (arc w a).delay xs (Ends past a ++ r ∷ []) (Arrivals past a)) (sym bs_same) pushed in
              let second = subst (λ xs. AreOrdered (arc w a).cost (arc w a).delay (Begins (past ++ es) a) xs (Arrivals past a)) (sym es_more) first in
              subst (λ xs. AreOrdered (arc w a).cost (arc w a).delay (Begins (past ++ es) a) (Ends (past ++ es) a) xs) (sym xs_same) second;
          sizes = λ i c d at_c at_d.
              let old_c : slice_get (Begins past a) i ≡ Some c = ap (λ xs. slice_get xs i) (sym bs_same) ∙ at_c in
              elim (at_end (Ends past a) r d i (ap (λ xs. slice_get xs i) (sym es_more) ∙ at_d)) [
                | inl old ↦ old_size w past es t (1 + a) a k_lt a_lt before at s i c d old_c old
                | inr end ↦
                    let same : b ≡ c = one_at (Begins past a) i b c (ap (slice_get (Begins past a)) end.0 ∙ here) old_c in
                    subst (λ (x : Begin). SizeOf w (past ++ es) x.kind x d.size) same (subst (λ (x : Ended). SizeOf w (past ++ es) b.kind b x.size) end.1
                    (size_later w past es b.kind b size (subst (λ x. 1 ≤ (arc w x).cost) (sym on) (costs w a a_lt))
                    (λ u lt. all_later (length w.net.arcs) t (1 + a) u k_lt (omega (arith, lt, due)) es at) sized))
              ];
          checks = λ i c d at_c at_d.
              let old_c : slice_get (Begins past a) i ≡ Some c = ap (λ xs. slice_get xs i) (sym bs_same) ∙ at_c in
              elim (at_end (Ends past a) r d i (ap (λ xs. slice_get xs i) (sym es_more) ∙ at_d)) [
                | inl old ↦ old_check w past es t (1 + a) a k_lt a_lt before at s i c d old_c old
                | inr end ↦
                    let same : b ≡ c = one_at (Begins past a) i b c (ap (slice_get (Begins past a)) end.0 ∙ here) old_c in
                    let reach : (arc w b.arc).cost * 8 ≤ (arc w b.arc).cost * (size + 8) = mul-le-mul_left (arc w b.arc).cost (omega arith) in
                    let some : 1 ≤ (arc w b.arc).cost = subst (λ x. 1 ≤ (arc w x).cost) (sym on) (costs w a a_lt) in
                    subst (λ (x : Begin). d.check ≡ CheckOf w (past ++ es) x d.size) same (subst (λ (x : Ended). x.check ≡ CheckOf w (past ++ es) b x.size) end.1
                    (sym (check_later w past es b size (all_later (length w.net.arcs) t (1 + a) (suc b.tick) k_lt (omega (arith, reach, some, due)) es at))))
              ];
          arrived = λ i d at_d lt. subst (λ (xs : List Arrive). i < length xs) (sym xs_same) (elim (at_end (Ends past a) r d i (ap (λ xs. slice_get xs i) (sym es_more) ∙ at_d)) [
            | inl old ↦ still_arrived w past es t (1 + a) a k_lt a_lt before at s (λ e. absurd (omega (arith, e, a_lt))) i d old lt
            | inr end ↦ absurd (not_yet d (ap (λ (x : Ended). x.tick) (sym end.1)) lt)
          ]);
        }
      where
        not_yet : (d : Ended) → d.tick ≡ t → number (length w.net.arcs) (d.tick + (arc w a).delay) (1 + length w.net.arcs + a) < suc (number (length w.net.arcs) t (1 + a)) → ⊥
        not_yet d now lt = not_early (moments (length w.net.arcs)) d.tick t (arc w a).delay (1 + length w.net.arcs + a) (1 + a) now (omega (arith, a_lt)) lt

    pub ends_step : HappensIn w past t (Phase.ends a) es → Steady w (suc (number (length w.net.arcs) t (1 + a))) (past ++ es) a
    unfolding HappensIn
    ends_step each = elim (cases_lt (length (Ends past a)) (length (Begins past a))) [
      | inl open_one ↦
          let b = there (Begins past a) (length (Ends past a)) open_one in
          ended b.0 b.1 (omega (arith, open_one, s.ordered.few_open)) (each_only (λ b fs. OneOrNone (EndDue w past t b) fs) (Begins past a) es (length (Ends past a)) b.0 b.1
          (λ i c fs other here one. not_again i c fs (omega (arith, within (Begins past a) i c here, s.ordered.few_open, other)) here one) each)
      | inr all ↦
          let none : es ≡ [] = each_none (λ b fs. OneOrNone (EndDue w past t b) fs) (Begins past a) es (λ i c fs here one. not_again i c fs (omega (arith, within (Begins past a) i c here, all)) here one) each in
          no_events w past es t (1 + a) a k_lt a_lt before at s none (still_arrived w past es t (1 + a) a k_lt a_lt before at s (λ e. absurd (omega (arith, e, a_lt))))
    ]
