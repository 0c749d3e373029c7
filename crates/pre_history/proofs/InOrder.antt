-- An mPacket begins in its turn, and so in a legal history the mPackets of each arc follow one another in order.
use Rattle.std.proofs.Common.{ℕ, zero, suc, ◌≡◌, ◌==◌, ◌+◌, ◌*◌, ◌/◌, ◌%◌, ◌<◌, ◌≤◌, true, List, []}
use Rattle.std.proofs.Common.{◌∷◌, ◌++◌, length, refl, sym, ◌∙◌, ap, inl, inr, arith, subst, Some}
use Rattle.std.specs.Prelude.{slice_get}
use Rattle.std.proofs.lemmas.Bool.{cases_lt}
use Rattle.std.proofs.lemmas.List.Elements.{filter_map-append}
use Rattle.pre_history.specs.Scenario.{Scenario, arc}
use Rattle.pre_history.specs.Moments.{Phase, moments, phase_at}
use Rattle.pre_history.specs.History.{PlainEvent, History, Begin, Ended, Arrive}
use Rattle.pre_history.specs.Selected.{begin_on}
use Rattle.pre_history.specs.Queries.{Begins, Ends, Arrivals}
use Rattle.pre_history.specs.Starts.{StartRule}
use Rattle.pre_history.specs.Rules.{HappensIn}
use Rattle.pre_history.specs.Placed.{HasPlace, number, AllAt, AllBefore}
use Rattle.pre_history.specs.Ordered.{AreOrdered}
use Rattle.pre_history.specs.Legal.{LegalUpTo}
use Rattle.pre_history.proofs.Lists.{at_end, there, within, one_at, every_at}
use Rattle.pre_history.proofs.Placing.{placed, moment_events, place_at, place_below, numbered}
use Rattle.pre_history.proofs.Pushes.{push_begin}
use Rattle.pre_history.proofs.Turns.{tick_lt, same_ends, same_arrivals}
use Rattle.pre_history.proofs.Free.{free_end, begins_before}
use Rattle.pre_history.proofs.Steady.{Steady, old_size, old_check, quiet, no_events, still_arrived}
use Rattle.pre_history.proofs.EndTurns.{ends_step}
use Rattle.pre_history.proofs.ArrivalTurns.{arrivals_step}
use Rattle.pre_history.proofs.NatTests.{cases_eq, is_eq}

module _ (w : Scenario) (past es : History) (t a : ℕ) (a_lt : a < length w.net.arcs) (k_lt : 2 + 3 * length w.net.arcs + a < moments (length w.net.arcs))
    (before : AllBefore (length w.net.arcs) (number (length w.net.arcs) t (2 + 3 * length w.net.arcs + a)) past) (at : AllAt (length w.net.arcs) (number (length w.net.arcs) t (2 + 3 * length w.net.arcs + a)) es)
    (s : Steady w (number (length w.net.arcs) t (2 + 3 * length w.net.arcs + a)) past a) where
  begun_early : (i : ℕ) (b : Begin) → slice_get (Begins past a) i ≡ Some b → b.tick < t
  begun_early i b here =
      let y = every_at (λ (b : Begin). (b.arc ≡ a) × (number (length w.net.arcs) b.tick (2 + 3 * length w.net.arcs + a) < number (length w.net.arcs) t (2 + 3 * length w.net.arcs + a))) (Begins past a) i b (begins_before (length w.net.arcs) (number (length w.net.arcs) t (2 + 3 * length w.net.arcs + a)) a past before) here in
      tick_lt (moments (length w.net.arcs)) b.tick t (2 + 3 * length w.net.arcs + a) y.1

  starts_step : HappensIn w past t (Phase.starts a) es → Steady w (suc (number (length w.net.arcs) t (2 + 3 * length w.net.arcs + a))) (past ++ es) a
  unfolding HappensIn StartRule
  starts_step (inr (none, is)) = no_events w past es t (2 + 3 * length w.net.arcs + a) a k_lt a_lt before at s is (still_arrived w past es t (2 + 3 * length w.net.arcs + a) a k_lt a_lt before at s (λ e. absurd (omega (arith, e))))
  starts_step (inl (e, (c, (free, rule), is_begin), is)) =
      let r : Begin = record { tick = t; arc = a; ord = length (Begins past a); kind = c.kind; what = c.what; from = c.from } in
      let es_is : es ≡ PlainEvent.begin r ∷ [] = is ∙ ap (λ x. x ∷ []) is_begin in
      let test : (a == a) ≡ true = is_eq a a refl in
      let one_begin : Begins (PlainEvent.begin r ∷ []) a ≡ r ∷ [] = rw test refl in
      let bs_more : Begins (past ++ es) a ≡ Begins past a ++ r ∷ [] = filter_map-append (begin_on a) past es ∙ ap (λ xs. Begins past a ++ xs) (ap (λ x. Begins x a) es_is ∙ one_begin) in
      let es_same : Ends (past ++ es) a ≡ Ends past a = same_ends (length w.net.arcs) t (2 + 3 * length w.net.arcs + a) a k_lt a_lt past es (λ e. absurd (omega (arith, e))) at in
      let xs_same : Arrivals (past ++ es) a ≡ Arrivals past a = same_arrivals (length w.net.arcs) t (2 + 3 * length w.net.arcs + a) a k_lt a_lt past es (λ e. absurd (omega (arith, e))) at in
      let pushed = push_begin (arc w a).cost (arc w a).delay (Begins past a) (Ends past a) (Arrivals past a) s.ordered r refl all gap in
      record {
        ordered =
            let first = subst (λ xs. AreOrdered (arc w a).cost (arc w a).delay xs (Ends past a) (Arrivals past a)) (sym bs_more) pushed in
            let second = subst (λ xs. AreOrdered (arc w a).cost (arc w a).delay (Begins (past ++ es) a) xs (Arrivals past a)) (sym es_same) first in
            subst (λ xs. AreOrdered (arc w a).cost (arc w a).delay (Begins (past ++ es) a) (Ends (past ++ es) a) xs) (sym xs_same) second;
        sizes = λ i b d at_b at_d.
            let old_d : slice_get (Ends past a) i ≡ Some d = ap (λ xs. slice_get xs i) (sym es_same) ∙ at_d in
            elim (at_end (Begins past a) r b i (ap (λ xs. slice_get xs i) (sym bs_more) ∙ at_b)) [
              | inl old ↦ old_size w past es t (2 + 3 * length w.net.arcs + a) a k_lt a_lt before at s i b d old old_d
              | inr end ↦ absurd (omega (arith, end.0, within (Ends past a) i d old_d, s.ordered.ends_begun))
            ];
        checks = λ i b d at_b at_d.
            let old_d : slice_get (Ends past a) i ≡ Some d = ap (λ xs. slice_get xs i) (sym es_same) ∙ at_d in
            elim (at_end (Begins past a) r b i (ap (λ xs. slice_get xs i) (sym bs_more) ∙ at_b)) [
              | inl old ↦ old_check w past es t (2 + 3 * length w.net.arcs + a) a k_lt a_lt before at s i b d old old_d
              | inr end ↦ absurd (omega (arith, end.0, within (Ends past a) i d old_d, s.ordered.ends_begun))
            ];
        arrived = λ i d at_d lt.
            subst (λ (xs : List Arrive). i < length xs) (sym xs_same)
            (still_arrived w past es t (2 + 3 * length w.net.arcs + a) a k_lt a_lt before at s (λ e. absurd (omega (arith, e))) i d (ap (λ xs. slice_get xs i) (sym es_same) ∙ at_d) lt);
      }
    where
      free_at : (i : ℕ) (b : Begin) → slice_get (Begins past a) i ≡ Some b → (e : Ended) × (slice_get (Ends past a) i ≡ Some e) × (e.tick + 12 * (arc w a).cost ≤ t)
      free_at i b here = free_end w past a t i b s.ordered.end_places (s.ordered.begin_places i b here) here (begun_early i b here) free

      all : length (Ends past a) ≡ length (Begins past a)
      all = elim (cases_lt (length (Ends past a)) (length (Begins past a))) [
        | inr done ↦ omega (arith, done, s.ordered.ends_begun)
        | inl open_one ↦
            let b = there (Begins past a) (length (Ends past a)) open_one in
            let e = free_at (length (Ends past a)) b.0 b.1 in
            absurd (omega (arith, within (Ends past a) (length (Ends past a)) e.0 e.1))
      ]

      gap : (i : ℕ) (e : Ended) → slice_get (Ends past a) i ≡ Some e → suc i ≡ length (Begins past a) → e.tick + 12 * (arc w a).cost ≤ t
      gap i e here last' =
          let b = there (Begins past a) i (omega (arith, last')) in
          let d = free_at i b.0 b.1 in
          subst (λ (x : Ended). x.tick + 12 * (arc w a).cost ≤ t) (one_at (Ends past a) i d.0 e d.1 here) d.2

module _ (w : Scenario) (past es : History) (t k a : ℕ) (k_lt : k < moments (length w.net.arcs)) (a_lt : a < length w.net.arcs)
    (before : AllBefore (length w.net.arcs) (number (length w.net.arcs) t k) past) (at : AllAt (length w.net.arcs) (number (length w.net.arcs) t k) es)
    (s : Steady w (number (length w.net.arcs) t k) past a) where
  step : (p : Phase) → HasPlace (length w.net.arcs) k p → HappensIn w past t p es → Steady w (suc (number (length w.net.arcs) t k)) (past ++ es) a
  step Phase.sets place happens = quiet w past es t k a k_lt a_lt before at s (λ e. absurd (omega (arith, e, place))) (λ e. absurd (omega (arith, e, place))) (λ e. absurd (omega (arith, e, place)))
  step Phase.entries place happens =
      quiet w past es t k a k_lt a_lt before at s (λ e. absurd (omega (arith, e, place))) (λ e. absurd (omega (arith, e, place, a_lt))) (λ e. absurd (omega (arith, e, place, a_lt)))
  step (Phase.expiries b) (b_lt, place) happens =
      quiet w past es t k a k_lt a_lt before at s (λ e. absurd (omega (arith, e, place, b_lt))) (λ e. absurd (omega (arith, e, place, a_lt))) (λ e. absurd (omega (arith, e, place, a_lt)))
  step (Phase.ends b) (b_lt, place) happens = elim (cases_eq b a) [
    | inl same ↦
        let is : k ≡ 1 + a = omega (arith, place, same) in
        subst (λ k. Steady w (suc (number (length w.net.arcs) t k)) (past ++ es) a) (sym is)
        (ends_step w past es t a a_lt (subst (λ k. k < moments (length w.net.arcs)) is k_lt) (subst (λ k. AllBefore (length w.net.arcs) (number (length w.net.arcs) t k) past) is before)
        (subst (λ k. AllAt (length w.net.arcs) (number (length w.net.arcs) t k) es) is at) (subst (λ k. Steady w (number (length w.net.arcs) t k) past a) is s) (subst (λ x. HappensIn w past t (Phase.ends x) es) same happens))
    | inr other ↦
        quiet w past es t k a k_lt a_lt before at s (λ e. absurd (omega (arith, e, place, b_lt))) (λ e. other (omega (arith, e, place))) (λ e. absurd (omega (arith, e, place, b_lt)))
  ]
  step (Phase.arrivals b) (b_lt, place) happens = elim (cases_eq b a) [
    | inl same ↦
        let is : k ≡ 1 + length w.net.arcs + a = omega (arith, place, same) in
        subst (λ k. Steady w (suc (number (length w.net.arcs) t k)) (past ++ es) a) (sym is)
        (arrivals_step w past es t a a_lt (subst (λ k. k < moments (length w.net.arcs)) is k_lt) (subst (λ k. AllBefore (length w.net.arcs) (number (length w.net.arcs) t k) past) is before)
        (subst (λ k. AllAt (length w.net.arcs) (number (length w.net.arcs) t k) es) is at) (subst (λ k. Steady w (number (length w.net.arcs) t k) past a) is s) (subst (λ x. HappensIn w past t (Phase.arrivals x) es) same happens))
    | inr other ↦
        quiet w past es t k a k_lt a_lt before at s (λ e. absurd (omega (arith, e, place, b_lt))) (λ e. absurd (omega (arith, e, place, a_lt))) (λ e. other (omega (arith, e, place)))
  ]
  step (Phase.starts b) (b_lt, place) happens = elim (cases_eq b a) [
    | inl same ↦
        let is : k ≡ 2 + 3 * length w.net.arcs + a = omega (arith, place, same) in
        subst (λ k. Steady w (suc (number (length w.net.arcs) t k)) (past ++ es) a) (sym is)
        (starts_step w past es t a a_lt (subst (λ k. k < moments (length w.net.arcs)) is k_lt) (subst (λ k. AllBefore (length w.net.arcs) (number (length w.net.arcs) t k) past) is before)
        (subst (λ k. AllAt (length w.net.arcs) (number (length w.net.arcs) t k) es) is at) (subst (λ k. Steady w (number (length w.net.arcs) t k) past a) is s) (subst (λ x. HappensIn w past t (Phase.starts x) es) same happens))
    | inr other ↦
        quiet w past es t k a k_lt a_lt before at s (λ e. other (omega (arith, e, place))) (λ e. absurd (omega (arith, e, place, a_lt))) (λ e. absurd (omega (arith, e, place, a_lt)))
  ]

nothing_yet : (w : Scenario) (a : ℕ) → Steady w 0 [] a
nothing_yet w a = record {
  ordered = record {
    begin_places = λ i b at. absurd (cc at);
    end_places = λ i b at. absurd (cc at);
    arrival_places = λ i b at. absurd (cc at);
    few_open = omega arith;
    ends_begun = omega arith;
    arrivals_ended = omega arith;
    spans = λ i b e at at'. absurd (cc at);
    travels = λ i e x at at'. absurd (cc at);
    apart = λ i e b at at'. absurd (cc at);
  };
  sizes = λ i b e at at'. absurd (cc at);
  checks = λ i b e at at'. absurd (cc at);
  arrived = λ i e at lt. absurd (cc at);
}

-- the mPackets of each arc of a legal history are in order
pub steady : (w : Scenario) (n : ℕ) (h : History) (a : ℕ) → a < length w.net.arcs → LegalUpTo w n h → Steady w n h a
steady w zero h a a_lt is = subst (λ x. Steady w 0 x a) (sym is) (nothing_yet w a)
steady w (suc n) h a a_lt (past, es, is, legal, happens) =
    let t = n / moments (length w.net.arcs) in
    let k = n % moments (length w.net.arcs) in
    let n_is : n ≡ number (length w.net.arcs) t k = numbered (length w.net.arcs) n in
    let before = placed w n past legal in
    let at = moment_events w past n es happens in
    let s = steady w n past a a_lt legal in
    let next : Steady w (suc (number (length w.net.arcs) t k)) (past ++ es) a
    = step w past es t k a (place_below (length w.net.arcs) n) a_lt (subst (λ m. AllBefore (length w.net.arcs) m past) n_is before) (subst (λ m. AllAt (length w.net.arcs) m es) n_is at)
    (subst (λ m. Steady w m past a) n_is s) (phase_at (length w.net.arcs) k) (place_at (length w.net.arcs) n) happens in
    subst (λ x. Steady w (suc n) x a) (sym is) (subst (λ m. Steady w (suc m) (past ++ es) a) (sym n_is) next)
