-- Histories of two arcs grow by the events of a moment, and stay legal over moments at which nothing happens.
use Rattle.std.proofs.Common.{ℕ, zero, suc, ◌≡◌, ◌==◌, ◌+◌, ◌-◌, ◌*◌, ◌/◌, ◌%◌, ◌<◌, ◌≤◌, List, []}
use Rattle.std.proofs.Common.{◌∷◌, ◌++◌, length, refl, sym, ap, inl, inr, arith, subst, Option, Some, None, map, filter}
use Rattle.std.specs.Prelude.{slice_get}
use Rattle.std.proofs.lemmas.List.{append-nil}
use Rattle.std.proofs.lemmas.Bool.{cases_lt}
use Rattle.pre_script.specs.declared.scripts.SetLine.{SetLine}
use Rattle.pre_history.specs.Scenario.{Scenario}
use Rattle.pre_history.specs.Moments.{Phase, phase_at, moment_at}
use Rattle.pre_history.specs.History.{PlainEvent, History, Begin, Ended}
use Rattle.pre_history.specs.Placed.{number}
use Rattle.pre_history.specs.Queries.{Begins, Ends, Arrivals}
use Rattle.pre_history.specs.Comings.{Comings, EntriesOf}
use Rattle.pre_history.specs.Rules.{EndDue, Arriving, StartDue, Expiry, HappensIn, Happens}
use Rattle.pre_history.specs.Legal.{LegalUpTo}
use Rattle.pre_history.proofs.Lists.{there}
use Rattle.pre_history.proofs.Making.{ends_one, ends_none, arrives_one, arrives_none}

none_le : {X : Type 0} (xs : List X) (i : ℕ) → slice_get xs i ≡ None → length xs ≤ i
none_le xs i none = elim (cases_lt i (length xs)) [
  | inl lt ↦ absurd (let o = there xs i lt in cc (sym none, o.1))
  | inr le ↦ le
]

-- place k of tick r is a moment from n up to m
abbrev pub Within : (n m r k : ℕ) → Type 0
Within n m r k = (n ≤ r * 10 + k) × (r * 10 + k < m)

-- the mPacket, if there is one, isn't due to end at the tick
abbrev pub IsNotDue : Scenario → History → ℕ → Option Begin → Type 0
IsNotDue w h t None = Unit {0}
IsNotDue w h t (Some b) = (e : PlainEvent) → ¬ EndDue w h t b e

-- of an arc's mPackets the one whose turn it is to end
abbrev pub turn : History → ℕ → Option Begin
turn h a = slice_get (Begins h a) (length (Ends h a))

module _ (w : Scenario) (two : length w.net.arcs ≡ 2) where
  -- one more moment
  pub step : (n : ℕ) (past es : History) → LegalUpTo w n past → Happens w past (moment_at 2 n) es → LegalUpTo w (suc n) (past ++ es)
  step n past es legal happens = (past, es, refl, legal, subst (λ arcs. Happens w past (moment_at arcs n) es) (sym two) happens)

  -- moments at which nothing happens
  stretch : (h : History) (n m : ℕ) → LegalUpTo w n h → ((j : ℕ) → j < m → LegalUpTo w (n + j) h → Happens w h (moment_at 2 (n + j)) []) → LegalUpTo w (n + m) h
  stretch h n zero legal quiet = let same : n ≡ n + 0 = omega arith in subst (λ x. LegalUpTo w x h) same legal
  stretch h n (suc m) legal quiet =
      let before : LegalUpTo w (n + m) h = stretch h n m legal (λ j lt. quiet j (omega (arith, lt))) in
      let next : suc (n + m) ≡ n + suc m = omega arith in
      let more : LegalUpTo w (suc (n + m)) (h ++ []) = step (n + m) h [] before (quiet m (omega arith) before) in
      subst (λ x. LegalUpTo w x h) next (subst (LegalUpTo w (suc (n + m))) (append-nil h) more)

  known : (a : ℕ) → a < 2 → a < length w.net.arcs
  known a lt = omega (arith, lt, two)

  -- ---- the mPacket whose turn it is

  module _ (h : History) (t a : ℕ) (a_lt : a < 2) where
    placed_ends : LegalUpTo w (t * 10 + (1 + a)) h → LegalUpTo w (number (length w.net.arcs) t (1 + a)) h
    placed_ends legal = subst (λ arcs. LegalUpTo w (number arcs t (1 + a)) h) (sym two) legal

    placed_arrivals : LegalUpTo w (t * 10 + (3 + a)) h → LegalUpTo w (number (length w.net.arcs) t (1 + length w.net.arcs + a)) h
    placed_arrivals legal = subst (λ arcs. LegalUpTo w (number arcs t (1 + arcs + a)) h) (sym two) legal

    -- it ends
    pub ends_now : LegalUpTo w (t * 10 + (1 + a)) h → (b : Begin) (e : PlainEvent) → turn h a ≡ Some b → EndDue w h t b e → HappensIn w h t (Phase.ends a) (e ∷ [])
    ends_now legal b e at due = ends_one w h t a (known a a_lt) (placed_ends legal) (e ∷ []) b at (inl (e, due, refl))

    -- there is none, or it isn't due
    pub none_ends : LegalUpTo w (t * 10 + (1 + a)) h → IsNotDue w h t (turn h a) → HappensIn w h t (Phase.ends a) []
    none_ends legal none = go (turn h a) refl
      where
        go : (o : Option Begin) → turn h a ≡ o → HappensIn w h t (Phase.ends a) []
        go None at = ends_none w h t a (known a a_lt) (placed_ends legal) (none_le (Begins h a) (length (Ends h a)) at)
        go (Some b) at = ends_one w h t a (known a a_lt) (placed_ends legal) [] b at (inr (subst (IsNotDue w h t) at none, refl))

    -- it arrives
    pub arrives_now : LegalUpTo w (t * 10 + (3 + a)) h → (es : History) (e : Ended) → slice_get (Ends h a) (length (Arrivals h a)) ≡ Some e → Arriving w h t a e es
        → HappensIn w h t (Phase.arrivals a) es
    arrives_now legal es e at arriving = arrives_one w h t a (known a a_lt) (placed_arrivals legal) es e at arriving

    pub none_arrives : LegalUpTo w (t * 10 + (3 + a)) h → length (Ends h a) ≤ length (Arrivals h a) → HappensIn w h t (Phase.arrivals a) []
    none_arrives legal all = arrives_none w h t a (known a a_lt) (placed_arrivals legal) all

  -- ---- nothing happens from moment n up to moment m

  pub record IsQuiet (h : History) (n m : ℕ) : Type 0 where
    pub settled : (a : ℕ) → a < 2 → length (Ends h a) ≤ length (Arrivals h a)
    pub no_end : (a r : ℕ) → a < 2 → Within n m r (1 + a) → IsNotDue w h r (turn h a)
    pub no_change : (a r : ℕ) → a < 2 → Within n m r (5 + a) → LegalUpTo w (r * 10 + (5 + a)) h → Expiry w h r a []
    pub no_entry : (r : ℕ) → Within n m r 7 → EntriesOf w r h (Comings w h r) ≡ []
    pub no_start : (a r : ℕ) → a < 2 → Within n m r (8 + a) → (e : PlainEvent) → ¬ StartDue w h r a e

  module _ (none_set : w.script.sets ≡ []) (h : History) (n m : ℕ) (q : IsQuiet h n m) where
    quiet_phase : (r k : ℕ) → k < 10 → Within n m r k → LegalUpTo w (r * 10 + k) h → HappensIn w h r (phase_at 2 k) []
    unfolding HappensIn
    quiet_phase r zero lt within legal = ap (λ (xs : List SetLine). map (λ x. PlainEvent.set x.tick.0 x.arc.0 x.value) (filter (λ x. x.tick.0 == r) xs)) (sym none_set)
    quiet_phase r (suc zero) lt within legal = none_ends h r 0 (omega arith) legal (q.no_end 0 r (omega arith) within)
    quiet_phase r (suc (suc zero)) lt within legal = none_ends h r 1 (omega arith) legal (q.no_end 1 r (omega arith) within)
    quiet_phase r (suc (suc (suc zero))) lt within legal = none_arrives h r 0 (omega arith) legal (q.settled 0 (omega arith))
    quiet_phase r (suc (suc (suc (suc zero)))) lt within legal = none_arrives h r 1 (omega arith) legal (q.settled 1 (omega arith))
    quiet_phase r (suc (suc (suc (suc (suc zero))))) lt within legal = q.no_change 0 r (omega arith) within legal
    quiet_phase r (suc (suc (suc (suc (suc (suc zero)))))) lt within legal = q.no_change 1 r (omega arith) within legal
    quiet_phase r (suc (suc (suc (suc (suc (suc (suc zero))))))) lt within legal = sym (q.no_entry r within)
    quiet_phase r (suc (suc (suc (suc (suc (suc (suc (suc zero)))))))) lt within legal = inr (q.no_start 0 r (omega arith) within, refl)
    quiet_phase r (suc (suc (suc (suc (suc (suc (suc (suc (suc zero))))))))) lt within legal = inr (q.no_start 1 r (omega arith) within, refl)
    quiet_phase r (suc (suc (suc (suc (suc (suc (suc (suc (suc (suc k)))))))))) lt within legal = absurd (omega (arith, lt))

    pub quiet : n ≤ m → LegalUpTo w n h → LegalUpTo w m h
    quiet le legal =
        let whole : n + (m - n) ≡ m = omega (arith, le) in
        subst (λ x. LegalUpTo w x h) whole (stretch h n (m - n) legal (λ j lt before.
        let at : (n + j) / 10 * 10 + (n + j) % 10 ≡ n + j = omega arith in
        quiet_phase ((n + j) / 10) ((n + j) % 10) (omega arith) (omega (arith, at), omega (arith, at, lt, le)) (subst (λ x. LegalUpTo w x h) (sym at) before)))
