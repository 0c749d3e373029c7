-- A legal history around a moment that is named by its tick and phase, and where selected events stand.
use Rattle.std.proofs.Common.{ℕ, suc, ◌≡◌, ◌⊎◌, ◌==◌, ◌+◌, ◌*◌, ◌<◌, ◌≤◌, Bool, true, false, List, []}
use Rattle.std.proofs.Common.{◌∷◌, ◌++◌, length, refl, sym, ◌∙◌, ap, inl, inr, arith, subst, append_assoc, Option, Some, None}
use Rattle.std.proofs.Common.{filter_map}
use Rattle.std.specs.Prelude.{if◌then◌else◌, slice_get}
use Rattle.std.proofs.lemmas.Bool.Decides.{nat_tests}
use Rattle.std.proofs.lemmas.List.Elements.{filter_map-append}
use Rattle.pre_history.specs.Scenario.{Scenario}
use Rattle.pre_history.specs.Moments.{Phase, Moment, moments, moment_at, phase_at}
use Rattle.pre_history.specs.History.{PlainEvent, History, Begin, Arrive}
use Rattle.pre_history.specs.Selected.{begin_on, arrive_on}
use Rattle.pre_history.specs.Queries.{Begins, Arrivals}
use Rattle.pre_history.specs.Placed.{number, IsAt, AllAt}
use Rattle.pre_history.specs.Rules.{Each, HappensIn, Happens}
use Rattle.pre_history.specs.Legal.{LegalUpTo}
use Rattle.pre_history.proofs.Lists.{every_at, every_selected}
use Rattle.pre_history.proofs.LaterEnds.{split_at}
use Rattle.pre_history.proofs.Moments.{moment_in}
use Rattle.pre_history.proofs.Placing.{moment_events}
use Rattle.pre_history.specs.Placed.{IsWithin, AllWithin}
use Rattle.pre_history.proofs.Cut.{cut_at, following}

pub record Around (w : Scenario) (n : ℕ) (h : History) (t k : ℕ) (p : Phase) : Type 0 where
  pub front : History
  pub events : List PlainEvent
  pub rest : History
  pub joined : h ≡ front ++ (events ++ rest)
  pub legal : LegalUpTo w (number (length w.net.arcs) t k) front
  pub happens : HappensIn w front t p events
  pub at : AllAt (length w.net.arcs) (number (length w.net.arcs) t k) events
  pub later : AllWithin (length w.net.arcs) (suc (number (length w.net.arcs) t k)) n rest
  pub follows : AllWithin (length w.net.arcs) (number (length w.net.arcs) t k) n (events ++ rest)

pub around : (w : Scenario) (n : ℕ) (h : History) (t k : ℕ) (p : Phase) → k < moments (length w.net.arcs) → phase_at (length w.net.arcs) k ≡ p → number (length w.net.arcs) t k < n → LegalUpTo w n h → Around w n h t k p
around w n h t k p k_lt is lt legal =
    let m = number (length w.net.arcs) t k in
    let c = cut_at w n h m lt legal in
    let here : moment_at (length w.net.arcs) m ≡ record { tick = t; phase = p } = moment_in (length w.net.arcs) t k k_lt ∙ ap (λ (p : Phase). record { tick = t; phase = p }) is in
    record {
      front = c.0;
      events = c.1;
      rest = c.2;
      joined = c.3.joined ∙ append_assoc c.0 c.1 c.2;
      legal = c.3.legal;
      happens = subst (λ (m : Moment). Happens w c.0 m c.1) here c.3.happens;
      at = moment_events w c.0 m c.1 c.3.happens;
      later = c.3.later;
      follows = (following w m n h c.0 c.1 c.2 lt c.3).later;
    }

-- ---- what is selected on an arc stands at its moment

module _ (arcs k a : ℕ) where
  pub begin_at : (e : PlainEvent) (b : Begin) → IsAt arcs k e → begin_on a e ≡ Some b → (b.arc ≡ a) × (k ≡ number arcs b.tick (2 + 3 * arcs + a))
  begin_at (PlainEvent.begin c) b (c_lt, at) is = go (c.arc == a) refl is
    where
      go : (same : Bool) → (c.arc == a) ≡ same → (if same then Some c else None) ≡ Some b → (b.arc ≡ a) × (k ≡ number arcs b.tick (2 + 3 * arcs + a))
      go false off is = absurd (cc is)
      go true on is =
          let arc_is : c.arc ≡ a = grind (arith, nat_tests) in
          let same : c ≡ b = cc is in
          subst (λ (x : Begin). (x.arc ≡ a) × (k ≡ number arcs x.tick (2 + 3 * arcs + a))) same (arc_is, omega (arith, at, arc_is))
  begin_at (PlainEvent.set s c v) b at is = absurd (cc is)
  begin_at (PlainEvent.ended c) b at is = absurd (cc is)
  begin_at (PlainEvent.arrive c) b at is = absurd (cc is)
  begin_at (PlainEvent.deliver c) b at is = absurd (cc is)
  begin_at (PlainEvent.active s c v) b at is = absurd (cc is)
  begin_at (PlainEvent.enter c) b at is = absurd (cc is)
  begin_at (PlainEvent.dropped c) b at is = absurd (cc is)
  begin_at (PlainEvent.count s c) b at is = absurd (cc is)
  begin_at (PlainEvent.end c) b at is = absurd (cc is)

  pub arrive_at : (e : PlainEvent) (b : Arrive) → IsAt arcs k e → arrive_on a e ≡ Some b → (b.arc ≡ a) × (k ≡ number arcs b.tick (1 + arcs + a))
  arrive_at (PlainEvent.arrive c) b (c_lt, at) is = go (c.arc == a) refl is
    where
      go : (same : Bool) → (c.arc == a) ≡ same → (if same then Some c else None) ≡ Some b → (b.arc ≡ a) × (k ≡ number arcs b.tick (1 + arcs + a))
      go false off is = absurd (cc is)
      go true on is =
          let arc_is : c.arc ≡ a = grind (arith, nat_tests) in
          let same : c ≡ b = cc is in
          subst (λ (x : Arrive). (x.arc ≡ a) × (k ≡ number arcs x.tick (1 + arcs + a))) same (arc_is, omega (arith, at, arc_is))
  arrive_at (PlainEvent.set s c v) b at is = absurd (cc is)
  arrive_at (PlainEvent.ended c) b at is = absurd (cc is)
  arrive_at (PlainEvent.begin c) b at is = absurd (cc is)
  arrive_at (PlainEvent.deliver c) b at is = absurd (cc is)
  arrive_at (PlainEvent.active s c v) b at is = absurd (cc is)
  arrive_at (PlainEvent.enter c) b at is = absurd (cc is)
  arrive_at (PlainEvent.dropped c) b at is = absurd (cc is)
  arrive_at (PlainEvent.count s c) b at is = absurd (cc is)
  arrive_at (PlainEvent.end c) b at is = absurd (cc is)

-- selected from events within moments
module _ (arcs m n a : ℕ) (es : History) (within : AllWithin arcs m n es) where
  pub begins_within : (i : ℕ) (b : Begin) → slice_get (Begins es a) i ≡ Some b → m ≤ number arcs b.tick (2 + 3 * arcs + a)
  begins_within i b at =
      every_at (λ (b : Begin). m ≤ number arcs b.tick (2 + 3 * arcs + a)) (Begins es a) i b
      (every_selected (begin_on a) (IsWithin arcs m n) (λ b. m ≤ number arcs b.tick (2 + 3 * arcs + a)) (λ e b here is. let o = begin_at arcs here.0 a e b here.3 is in omega (arith, o.1, here.1)) es within) at

  pub arrivals_within : (i : ℕ) (x : Arrive) → slice_get (Arrivals es a) i ≡ Some x → m ≤ number arcs x.tick (1 + arcs + a)
  arrivals_within i x at =
      every_at (λ (x : Arrive). m ≤ number arcs x.tick (1 + arcs + a)) (Arrivals es a) i x
      (every_selected (arrive_on a) (IsWithin arcs m n) (λ x. m ≤ number arcs x.tick (1 + arcs + a)) (λ e x here is. let o = arrive_at arcs here.0 a e x here.3 is in omega (arith, o.1, here.1)) es within) at

-- selected from three parts of a history
pub split_three : {Y : Type 0} (sel : PlainEvent → Option Y) (h front events rest : History) → h ≡ front ++ (events ++ rest) → (i : ℕ) (y : Y) → slice_get (filter_map sel h) i ≡ Some y
    → (slice_get (filter_map sel front) i ≡ Some y) ⊎ (((j : ℕ) × (slice_get (filter_map sel events) j ≡ Some y)) ⊎ ((j : ℕ) × (slice_get (filter_map sel rest) j ≡ Some y)))
split_three sel h front events rest is i y at = elim (split_at (filter_map sel front) (filter_map sel (events ++ rest)) i y (ap (λ l. slice_get l i) (sym (ap (filter_map sel) is ∙ filter_map-append sel front (events ++ rest))) ∙ at)) [
  | inl old ↦ inl old
  | inr new ↦ elim (split_at (filter_map sel events) (filter_map sel rest) new.0 y (ap (λ l. slice_get l new.0) (sym (filter_map-append sel events rest)) ∙ new.1)) [
    | inl now ↦ inr (inl (new.0, now))
    | inr after ↦ inr (inr after)
  ]
]

-- where an event of a list made of parts comes from
pub each_source : {X Y : Type 0} (sel : PlainEvent → Option Y) (R : X → List PlainEvent → Type 0) (xs : List X) (es : List PlainEvent) → Each R xs es → (j : ℕ) (y : Y) → slice_get (filter_map sel es) j ≡ Some y
    → (i : ℕ) × (x : X) × (fs : List PlainEvent) × (k : ℕ) × (slice_get xs i ≡ Some x) × R x fs × (slice_get (filter_map sel fs) k ≡ Some y)
each_source {X} {Y} sel R [] es is j y at = absurd (let none : slice_get (filter_map sel []) j ≡ Some y = subst (λ (l : List PlainEvent). slice_get (filter_map sel l) j ≡ Some y) is at in cc none)
each_source {X} {Y} sel R (x ∷ xs) es (front, rest, here, more, is) j y at =
    elim (split_at (filter_map sel front) (filter_map sel rest) j y (ap (λ l. slice_get l j) (sym (ap (filter_map sel) is ∙ filter_map-append sel front rest)) ∙ at)) [
      | inl now ↦ (0, x, front, j, refl, here, now)
      | inr after ↦ let o = each_source sel R xs rest more after.0 y after.1 in (suc o.0, o.1, o.2, o.3, o.4, o.5, o.6)
    ]
