-- A legal history is cut before each moment.
use Rattle.std.proofs.Common.{ℕ, zero, suc, ◌≡◌, ◌<◌, ◌≤◌, [], ◌++◌, length, sym, ◌∙◌, ap, inl, inr, arith, subst, append_assoc}
use Rattle.std.specs.Prelude.{Any, slice_get}
use Rattle.std.proofs.lemmas.Bool.{cases_lt}
use Rattle.std.proofs.lemmas.List.{append-nil}
use Rattle.pre_history.specs.Scenario.{Scenario}
use Rattle.pre_history.specs.History.{PlainEvent, History}
use Rattle.pre_history.specs.Placed.{IsAt, AllAt}
use Rattle.pre_history.specs.Legal.{LegalUpTo}
use Rattle.pre_history.proofs.Lists.{any_at, found_at, every-append, every_weaker}
use Rattle.pre_history.proofs.LaterEnds.{split_at}
use Rattle.pre_history.proofs.Placing.{moment_events}
use Rattle.pre_history.specs.Placed.{IsWithin, AllWithin}
use Rattle.pre_history.specs.Cuts.{IsCut, IsCutAt}

-- events of moment m stand from m on
pub at_within : (arcs m n : ℕ) (es : History) → m < n → AllAt arcs m es → AllWithin arcs m n es
at_within arcs m n es lt at = every_weaker (IsAt arcs m) (IsWithin arcs m n) (λ e here. (m, omega arith, lt, here)) es at

pub within_wider : (arcs l m n o : ℕ) (es : History) → l ≤ m → n ≤ o → AllWithin arcs m n es → AllWithin arcs l o es
within_wider arcs l m n o es le le' within =
    every_weaker (IsWithin arcs m n) (IsWithin arcs l o) (λ e here. (here.0, omega (arith, le, here.1), omega (arith, le', here.2), here.3)) es within

pub cut : (w : Scenario) (n : ℕ) (h : History) (m : ℕ) → m ≤ n → LegalUpTo w n h → (front : History) × (rest : History) × IsCut w m n h front rest
cut w zero h m le is =
    let none : m ≡ zero = omega (arith, le) in
    (h, [], record { joined = sym (append-nil h); legal = subst (λ k. LegalUpTo w k h) (sym none) is; later = tt })
cut w (suc n) h m le (past, es, is, legal, happens) = elim (cases_lt n m) [
  | inl all ↦
      let same : m ≡ suc n = omega (arith, all, le) in
      let whole : LegalUpTo w (suc n) h = (past, es, is, legal, happens) in
      (h, [], record { joined = sym (append-nil h); legal = subst (λ k. LegalUpTo w k h) (sym same) whole; later = tt })
  | inr less ↦
      let o = cut w n past m less legal in
      let old = within_wider (length w.net.arcs) m m n (suc n) o.1 (omega arith) (omega arith) o.2.later in
      let new = within_wider (length w.net.arcs) m n (suc n) (suc n) es less (omega arith) (at_within (length w.net.arcs) n (suc n) es (omega arith) (moment_events w past n es happens)) in (
        o.0,
        o.1 ++ es,
        record {
          joined = is ∙ (ap (λ x. x ++ es) o.2.joined ∙ append_assoc o.0 o.1 es);
          legal = o.2.legal;
          later = every-append (IsWithin (length w.net.arcs) m (suc n)) o.1 es old new;
        },
      )
]

pub cut_at : (w : Scenario) (n : ℕ) (h : History) (m : ℕ) → m < n → LegalUpTo w n h
    → (front : History) × (events : History) × (rest : History) × IsCutAt w m n h front events rest
cut_at w n h m lt legal =
    let o = cut w n h (suc m) lt legal in
    let parts = o.2.legal in (
      parts.0,
      parts.1,
      o.1,
      record {
        joined = o.2.joined ∙ ap (λ x. x ++ o.1) parts.2;
        legal = parts.3;
        happens = parts.4;
        later = o.2.later;
      },
    )

-- what follows the front of such a cut
pub following : (w : Scenario) (m n : ℕ) (h front events rest : History) → m < n → IsCutAt w m n h front events rest → IsCut w m n h front (events ++ rest)
following w m n h front events rest lt c = record {
  joined = c.joined ∙ append_assoc front events rest;
  legal = c.legal;
  later = every-append (IsWithin (length w.net.arcs) m n) events rest
      (at_within (length w.net.arcs) m n events lt (moment_events w front m events c.happens))
      (within_wider (length w.net.arcs) m (suc m) n n rest (omega arith) (omega arith) c.later);
}

-- each event of a legal history stands among those of a moment
pub event_moment : (w : Scenario) (P : PlainEvent → Type 0) (n : ℕ) (h : History) → LegalUpTo w n h → Any P h
    → (m : ℕ) × (front : History) × (events : History) × (rest : History) × (m < n) × IsCutAt w m n h front events rest × Any P events
event_moment w P zero h is (k, e, lt, at, p) = absurd (let none : length h ≡ 0 = ap length is in omega (arith, lt, none))
event_moment w P (suc n) h (past, es, is, legal, happens) (k, e, lt, at, p) =
    elim (split_at past es k e (ap (λ l. slice_get l k) (sym is) ∙ found_at h k e lt at)) [
      | inr new ↦ (n, past, es, [], omega arith, record { joined = is ∙ sym (append-nil (past ++ es)); legal = legal; happens = happens; later = tt }, any_at P es new.0 e new.1 p)
      | inl old ↦
          let o = event_moment w P n past legal (any_at P past k e old p) in (
            o.0,
            o.1,
            o.2,
            o.3 ++ es,
            omega (arith, o.4),
            record {
              joined = is ∙ (ap (λ x. x ++ es) o.5.joined ∙ append_assoc (o.1 ++ o.2) o.3 es);
              legal = o.5.legal;
              happens = o.5.happens;
              later = every-append (IsWithin (length w.net.arcs) (suc o.0) (suc n)) o.3 es (within_wider (length w.net.arcs) (suc o.0) (suc o.0) n (suc n) o.3 (omega arith) (omega arith) o.5.later)
                  (within_wider (length w.net.arcs) (suc o.0) n (suc n) (suc n) es (omega (arith, o.4)) (omega arith) (at_within (length w.net.arcs) n (suc n) es (omega arith) (moment_events w past n es happens)));
            },
            o.6,
          )
    ]
