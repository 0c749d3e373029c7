-- The mPackets of an arc stay in order over a moment that adds none.
use Rattle.std.proofs.Common.{ℕ, suc, ◌≡◌, ◌≢◌, ◌⊎◌, ◌+◌, ◌*◌, ◌<◌, ◌≤◌, List, [], ◌++◌, length, sym, ◌∙◌, ap, inl, inr, arith, subst, Some}
use Rattle.std.specs.Prelude.{slice_get}
use Rattle.std.proofs.Math.Nat.{mul-le-mul_right, mul-le-mul_left}
use Rattle.std.proofs.lemmas.List.{append-nil}
use Rattle.pre_history.specs.Scenario.{Scenario, arc}
use Rattle.pre_history.specs.Moments.{moments}
use Rattle.pre_history.specs.History.{History, Begin, Ended, Arrive}
use Rattle.pre_history.specs.Queries.{Begins, Ends, Arrivals}
use Rattle.pre_history.specs.Starts.{SizeOf}
use Rattle.pre_history.specs.Rules.{CheckOf}
use Rattle.pre_history.specs.Placed.{number, AllAt, AllBefore}
use Rattle.pre_history.specs.Ordered.{AreOrdered, IsOrdered, HaveSizes, HaveChecks, HaveArrived}
use Rattle.pre_history.proofs.Lists.{every_at}
use Rattle.pre_history.proofs.Stays.{size_later, check_later}
use Rattle.pre_history.proofs.Placing.{begins_arc, same_place}
use Rattle.pre_history.proofs.Turns.{tick_le, same_begins, same_ends, same_arrivals, all_later}
use Rattle.pre_history.proofs.Free.{ends_before}

pub record Steady (w : Scenario) (n : ℕ) (h : History) (a : ℕ) : Type 0 where
  pub ordered : IsOrdered w h a
  pub sizes : HaveSizes w h a
  pub checks : HaveChecks w h a
  pub arrived : HaveArrived w h a n

pub costs : (w : Scenario) (a : ℕ) → a < length w.net.arcs → 1 ≤ (arc w a).cost
costs w a lt = let rules = w.net.rules.each_arc a _ lt in rules.cost.0

pub less_or_equal : (m n : ℕ) → m < suc n → (m < n) ⊎ (m ≡ n)
less_or_equal m n lt = grind arith

pub parted : (m n : ℕ) → m ≢ n → (m < n) ⊎ (n < m)
parted m n other = grind arith

pub number_lt : (size s t k : ℕ) → 0 < size → s < t → s * size + k < t * size + k
number_lt size s t k some lt = let reach : (s + 1) * size ≤ t * size = mul-le-mul_right size (omega (arith, lt)) in omega (arith, reach, some)

module _ (w : Scenario) (past es : History) (t k a : ℕ) (k_lt : k < moments (length w.net.arcs)) (a_lt : a < length w.net.arcs)
    (before : AllBefore (length w.net.arcs) (number (length w.net.arcs) t k) past) (at : AllAt (length w.net.arcs) (number (length w.net.arcs) t k) es)
    (s : Steady w (number (length w.net.arcs) t k) past a) where
  some_cost : 1 ≤ (arc w a).cost
  some_cost = costs w a a_lt

  -- each that ended did so by the tick
  pub ended_by : (i : ℕ) (e : Ended) → slice_get (Ends past a) i ≡ Some e → e.tick ≤ t
  ended_by i e here =
      let x = every_at (λ (e : Ended). (e.arc ≡ a) × (number (length w.net.arcs) e.tick (1 + a) < number (length w.net.arcs) t k)) (Ends past a) i e (ends_before (length w.net.arcs) (number (length w.net.arcs) t k) a past before) here in
      tick_le (moments (length w.net.arcs)) e.tick t (1 + a) k k_lt (omega (arith, x.1))

  pub begin_arc : (i : ℕ) (b : Begin) → slice_get (Begins past a) i ≡ Some b → b.arc ≡ a
  begin_arc i b here = every_at (λ (b : Begin). b.arc ≡ a) (Begins past a) i b (begins_arc past a) here

  -- sizes found so far stay
  pub old_size : (i : ℕ) (b : Begin) (e : Ended) → slice_get (Begins past a) i ≡ Some b → slice_get (Ends past a) i ≡ Some e → SizeOf w (past ++ es) b.kind b e.size
  old_size i b e here here' =
      let on = begin_arc i b here in
      let span : e.tick ≡ b.tick + (arc w a).cost * (e.size + 8) = s.ordered.spans i b e here here' in
      let by : e.tick ≤ t = ended_by i e here' in
      size_later w past es b.kind b e.size (subst (λ x. 1 ≤ (arc w x).cost) (sym on) some_cost)
      (λ u lt. all_later (length w.net.arcs) t k u k_lt (omega (arith, subst (λ x. u < b.tick + (arc w x).cost * (e.size + 8)) on lt, span, by)) es at)
      (s.sizes i b e here here')

  -- and so do checks
  pub old_check : (i : ℕ) (b : Begin) (e : Ended) → slice_get (Begins past a) i ≡ Some b → slice_get (Ends past a) i ≡ Some e → e.check ≡ CheckOf w (past ++ es) b e.size
  old_check i b e here here' =
      let span : e.tick ≡ b.tick + (arc w a).cost * (e.size + 8) = s.ordered.spans i b e here here' in
      let by : e.tick ≤ t = ended_by i e here' in
      let reach : (arc w a).cost * 8 ≤ (arc w a).cost * (e.size + 8) = mul-le-mul_left (arc w a).cost (omega arith) in
      s.checks i b e here here' ∙ sym (check_later w past es b e.size (all_later (length w.net.arcs) t k (suc b.tick) k_lt (omega (arith, span, by, reach, some_cost)) es at))

  pub same_lists : Begins (past ++ es) a ≡ Begins past a → Ends (past ++ es) a ≡ Ends past a → Arrivals (past ++ es) a ≡ Arrivals past a
      → HaveArrived w past a (suc (number (length w.net.arcs) t k)) → Steady w (suc (number (length w.net.arcs) t k)) (past ++ es) a
  same_lists bs_same es_same xs_same arrived = record {
    ordered =
        let one = subst (λ xs. AreOrdered (arc w a).cost (arc w a).delay xs (Ends past a) (Arrivals past a)) (sym bs_same) s.ordered in
        let two = subst (λ xs. AreOrdered (arc w a).cost (arc w a).delay (Begins (past ++ es) a) xs (Arrivals past a)) (sym es_same) one in
        subst (λ xs. AreOrdered (arc w a).cost (arc w a).delay (Begins (past ++ es) a) (Ends (past ++ es) a) xs) (sym xs_same) two;
    sizes = λ i b e here here'. old_size i b e (ap (λ xs. slice_get xs i) (sym bs_same) ∙ here) (ap (λ xs. slice_get xs i) (sym es_same) ∙ here');
    checks = λ i b e here here'. old_check i b e (ap (λ xs. slice_get xs i) (sym bs_same) ∙ here) (ap (λ xs. slice_get xs i) (sym es_same) ∙ here');
    arrived = λ i e here lt. subst (λ (xs : List Arrive). i < length xs) (sym xs_same) (arrived i e (ap (λ xs. slice_get xs i) (sym es_same) ∙ here) lt);
  }

  -- at another place no arrival is due
  pub still_arrived : k ≢ 1 + length w.net.arcs + a → HaveArrived w past a (suc (number (length w.net.arcs) t k))
  still_arrived other i e here lt = elim (less_or_equal (number (length w.net.arcs) (e.tick + (arc w a).delay) (1 + length w.net.arcs + a)) (number (length w.net.arcs) t k) lt) [
    | inl less ↦ s.arrived i e here less
    | inr same ↦ absurd (other (sym (same_place (length w.net.arcs) (e.tick + (arc w a).delay) t (1 + length w.net.arcs + a) k (omega (arith, a_lt)) k_lt same)))
  ]

  pub quiet : k ≢ 2 + 3 * length w.net.arcs + a → k ≢ 1 + a → k ≢ 1 + length w.net.arcs + a → Steady w (suc (number (length w.net.arcs) t k)) (past ++ es) a
  quiet no_begin no_end no_arrival =
      same_lists (same_begins (length w.net.arcs) t k a k_lt a_lt past es no_begin at) (same_ends (length w.net.arcs) t k a k_lt a_lt past es no_end at)
      (same_arrivals (length w.net.arcs) t k a k_lt a_lt past es no_arrival at) (still_arrived no_arrival)

  -- where there is no event, nothing changes
  pub no_events : es ≡ [] → HaveArrived w past a (suc (number (length w.net.arcs) t k)) → Steady w (suc (number (length w.net.arcs) t k)) (past ++ es) a
  no_events none arrived =
      let same : past ++ es ≡ past = ap (λ xs. past ++ xs) none ∙ append-nil past in
      same_lists (ap (λ x. Begins x a) same) (ap (λ x. Ends x a) same) (ap (λ x. Arrivals x a) same) arrived
