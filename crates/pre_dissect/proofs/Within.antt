-- Histories that are told up to the last tick.
use Rattle.std.proofs.Common.{ℕ, ◌≡◌, ◌+◌, ◌*◌, ◌<◌, ◌≤◌, true, [], ◌∷◌, ◌++◌, length, refl, sym, ◌∙◌, inl, inr, arith, subst, append_assoc}
use Rattle.std.specs.List.{AllByRecursion as Every}
use Rattle.std.proofs.Math.Nat.{mul-le-mul_right}
use Rattle.std.proofs.lemmas.List.{append-nil}
use Rattle.pre_trace.specs.Figures.{is_closing}
use Rattle.pre_history.specs.Scenario.{Scenario}
use Rattle.pre_history.specs.History.{Ended, PlainEvent, History}
use Rattle.pre_history.specs.Moments.{moments}
use Rattle.pre_history.specs.Placed.{IsBefore}
use Rattle.pre_history.specs.Legal.{Legal, LegalUpTo, FirstAliasAt, closing, last_moment}
use Rattle.pre_history.proofs.Lists.{every-append, every_weaker}
use Rattle.pre_history.proofs.Placing.{placed}
use Rattle.pre_history.proofs.Turns.{tick_lt}
use Rattle.pre_dissect.specs.Fronts.{IsUpTo, IsLegalFront, IsFront}
use Rattle.pre_dissect.proofs.Turning.{lines_closing, end_alone}

early : (size s t k n : ℕ) → n ≤ (t + 1) * size → s * size + k < n → s ≤ t
early size s t k n le lt = let sooner : s < t + 1 = tick_lt size s (t + 1) 0 (omega (arith, le, lt)) in omega (arith, sooner)

-- what stands at a moment before the first one after the tick is at the tick or before it
up_to : (arcs t n : ℕ) → n ≤ (t + 1) * moments arcs → (e : PlainEvent) → IsBefore arcs n e → IsUpTo t e
up_to arcs t n le (PlainEvent.set s a v) (m, lt, at) = early (moments arcs) s t 0 n le (omega (arith, lt, at))
up_to arcs t n le (PlainEvent.begin b) (m, lt, (known, at)) = early (moments arcs) b.tick t (2 + 3 * arcs + b.arc) n le (omega (arith, lt, at))
up_to arcs t n le (PlainEvent.ended e) (m, lt, (known, at)) = early (moments arcs) e.tick t (1 + e.arc) n le (omega (arith, lt, at))
up_to arcs t n le (PlainEvent.arrive x) (m, lt, (known, at)) = early (moments arcs) x.tick t (1 + arcs + x.arc) n le (omega (arith, lt, at))
up_to arcs t n le (PlainEvent.deliver d) (m, lt, (a, known, at)) = early (moments arcs) d.tick t (1 + arcs + a) n le (omega (arith, lt, at))
up_to arcs t n le (PlainEvent.active s a v) (m, lt, (known, at)) = early (moments arcs) s t (1 + 2 * arcs + a) n le (omega (arith, lt, at))
up_to arcs t n le (PlainEvent.enter e) (m, lt, at) = early (moments arcs) e.tick t (1 + 3 * arcs) n le (omega (arith, lt, at))
up_to arcs t n le (PlainEvent.dropped e) (m, lt, at) = early (moments arcs) e.tick t (1 + 3 * arcs) n le (omega (arith, lt, at))
up_to arcs t n le (PlainEvent.count a c) before = tt
up_to arcs t n le (PlainEvent.end e) before = tt

closing_up_to : (t : ℕ) (e : PlainEvent) → is_closing e ≡ true → IsUpTo t e
closing_up_to t (PlainEvent.count a c) is = tt
closing_up_to t (PlainEvent.end e) is = tt
closing_up_to t (PlainEvent.set s a v) is = absurd (cc is)
closing_up_to t (PlainEvent.begin b) is = absurd (cc is)
closing_up_to t (PlainEvent.ended e) is = absurd (cc is)
closing_up_to t (PlainEvent.arrive x) is = absurd (cc is)
closing_up_to t (PlainEvent.deliver d) is = absurd (cc is)
closing_up_to t (PlainEvent.active s a v) is = absurd (cc is)
closing_up_to t (PlainEvent.enter e) is = absurd (cc is)
closing_up_to t (PlainEvent.dropped e) is = absurd (cc is)

module _ (w : Scenario) where
  pub all_up_to : (t n : ℕ) (h : History) → n ≤ (t + 1) * moments (length w.net.arcs) → LegalUpTo w n h → Every (IsUpTo t) h
  all_up_to t n h le legal = every_weaker (IsBefore (length w.net.arcs) n) (IsUpTo t) (up_to (length w.net.arcs) t n le) h (placed w n h legal)

  -- a legal history is a front of itself
  pub legal_front : (h : History) → Legal w h → IsFront w h
  legal_front h (body, counts, legal, lines, is) = record {
    legal_front = record { whole = h; rest = []; joined = sym (append-nil h); legal = inl (body, counts, legal, lines, is) };
    within =
        let until = w.script.until.0 in
        let ends = every-append (λ e. is_closing e ≡ true) counts (PlainEvent.end (closing w body) ∷ []) (lines_closing w body (length w.net.arcs) counts lines) (refl, tt) in
        let early_ones = all_up_to until (last_moment w) body (omega arith) legal.0 in
        let all = every-append (IsUpTo until) body (counts ++ PlainEvent.end (closing w body) ∷ []) early_ones
        (every_weaker (λ e. is_closing e ≡ true) (IsUpTo until) (closing_up_to until) (counts ++ PlainEvent.end (closing w body) ∷ []) ends) in
        subst (Every (IsUpTo until)) (sym (is ∙ append_assoc body counts (PlainEvent.end (closing w body) ∷ []))) all;
  }

  -- so is one up to the first alias
  pub alias_front : (h : History) (t a i : ℕ) → FirstAliasAt w h t a i → IsFront w h
  alias_front h t a i (le, known, legal, alias) = record {
    legal_front = record { whole = h; rest = []; joined = sym (append-nil h); legal = inr (_, legal) };
    within =
        let reach : t * moments (length w.net.arcs) ≤ w.script.until.0 * moments (length w.net.arcs) = mul-le-mul_right (moments (length w.net.arcs)) le in
        all_up_to w.script.until.0 _ h (omega (arith, reach, known)) legal.0;
  }

  -- nothing is told yet
  pub empty_front : IsFront w []
  empty_front = record { legal_front = record { whole = []; rest = []; joined = refl; legal = inr (0, (refl, λ a i lt alias. absurd (omega (arith, lt)))) }; within = tt }

  -- nothing before an end is later than it
  pub end_front : (h : History) (e : Ended) → IsLegalFront w (h ++ PlainEvent.ended e ∷ []) → e.tick ≤ w.script.until.0 → IsFront w (h ++ PlainEvent.ended e ∷ [])
  end_front h e front le = record {
    legal_front = front;
    within =
        let until = w.script.until.0 in
        let o = end_alone w h e front in
        let reach : e.tick * moments (length w.net.arcs) ≤ until * moments (length w.net.arcs) = mul-le-mul_right (moments (length w.net.arcs)) le in
        every-append (IsUpTo until) h (PlainEvent.ended e ∷ []) (all_up_to until o.moment h (omega (arith, reach, o.at.0, o.at.1)) o.legal) (le, tt);
  }
