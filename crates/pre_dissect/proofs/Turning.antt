-- The moment at which a history goes on with an event.
use Rattle.std.proofs.Common.{ℕ, zero, suc, ◌≡◌, ◌+◌, ◌*◌, ◌<◌, Bool, true, false, List, [], ◌∷◌, ◌++◌, length, refl}
use Rattle.std.proofs.Common.{sym, ◌∙◌, ap, inl, inr, arith, subst, append_assoc}
use Rattle.std.specs.Prelude.{◌⊎◌, if◌then◌else◌}
use Rattle.std.specs.List.{AllByRecursion as Every}
use Rattle.std.proofs.lemmas.Bool.{cases_lt}
use Rattle.std.proofs.lemmas.List.{append-nil}
use Rattle.pre_trace.specs.Figures.{is_closing}
use Rattle.pre_history.specs.Scenario.{Scenario}
use Rattle.pre_history.specs.History.{Begin, Ended, Counts, PlainEvent, History}
use Rattle.pre_history.specs.Moments.{Phase, Moment, moments, moment_at}
use Rattle.pre_history.specs.Placed.{number, IsAt, AllAt}
use Rattle.pre_history.specs.Queries.{Begins, Ends}
use Rattle.pre_history.specs.Rules.{Each, OneOrNone, EndDue, Happens, HappensIn, change}
use Rattle.pre_history.specs.Legal.{Legal, LegalUpTo, LegalBefore, CountLines, count_line, closing}
use Rattle.pre_history.proofs.Lists.{every-append, there, within}
use Rattle.pre_history.proofs.Moments.{moment_in, ends_place, expiries_place, starts_place}
use Rattle.pre_history.proofs.Placing.{placed, moment_events}
use Rattle.pre_history.proofs.Turns.{each_none, each_only}
use Rattle.pre_history.proofs.EndTurns.{not_again}
use Rattle.pre_history.proofs.InOrder.{steady}
use Rattle.pre_dissect.specs.Fronts.{IsLegalFront, IsFront, IsUpTo}

-- ---- lists with an element in the middle

not_nil : {X : Type 0} (b rest : List X) (e : X) → [] ≡ b ++ e ∷ rest → ⊥
not_nil [] rest e is = absurd (cc is)
not_nil (x ∷ b) rest e is = absurd (cc is)

split : {X : Type 0} (xs ys h rest : List X) (e : X) → xs ++ ys ≡ h ++ e ∷ rest
    → ((r : List X) × (xs ≡ h ++ e ∷ r)) ⊎ ((b : List X) × (h ≡ xs ++ b) × (ys ≡ b ++ e ∷ rest))
split [] ys h rest e is = inr (h, refl, is)
split (x ∷ xs) ys [] rest e is = let same : x ≡ e = cc is in inl (xs, ap (λ y. y ∷ xs) same)
split (x ∷ xs) ys (y ∷ h) rest e is =
    let same : x ≡ y = cc is in
    let more : xs ++ ys ≡ h ++ e ∷ rest = cc is in
    elim (split xs ys h rest e more) [
      | inl o ↦ inl (o.0, (λ i. same i ∷ o.1 i))
      | inr o ↦ inr (o.0, (λ i. sym same i ∷ o.1 i), o.2)
    ]

pub every_mid : {X : Type 0} (P : X → Type 0) (b rest : List X) (e : X) → Every P (b ++ e ∷ rest) → P e
every_mid P [] rest e all = all.0
every_mid P (x ∷ b) rest e all = every_mid P b rest e all.1

every_before : {X : Type 0} (P : X → Type 0) (b rest : List X) → Every P (b ++ rest) → Every P b
every_before P [] rest all = tt
every_before P (x ∷ b) rest all = (all.0, every_before P b rest all.1)

none_around : {X : Type 0} (b rest : List X) (e x : X) → b ++ e ∷ rest ≡ x ∷ [] → (b ≡ []) × (rest ≡ [])
none_around [] rest e x is = (refl, cc is)
none_around (y ∷ b) rest e x is = let more : [] ≡ b ++ e ∷ rest = cc is in absurd (not_nil b rest e more)

-- ---- fronts

legal_before : (w : Scenario) (h : History) (e : PlainEvent) → IsLegalFront w (h ++ e ∷ []) → IsLegalFront w h
legal_before w h e front = record {
  whole = front.whole;
  rest = e ∷ front.rest;
  joined = front.joined ∙ append_assoc h (e ∷ []) front.rest;
  legal = front.legal;
}

pub front_before : (w : Scenario) (h : History) (e : PlainEvent) → IsFront w (h ++ e ∷ []) → IsFront w h
front_before w h e front = record { legal_front = legal_before w h e front.legal_front; within = every_before (IsUpTo w.script.until.0) h (e ∷ []) front.within }

line_closing : (a : ℕ) (c : Counts) → Every (λ e. is_closing e ≡ true) (count_line a c)
line_closing a c = go _
  where
    go : (b : Bool) → Every (λ e. is_closing e ≡ true) (if b then [] else PlainEvent.count a c ∷ [])
    go true = tt
    go false = (refl, tt)

pub lines_closing : (w : Scenario) (h : History) (n : ℕ) (es : List PlainEvent) → CountLines w h n es → Every (λ e. is_closing e ≡ true) es
lines_closing w h zero es is = subst (Every (λ e. is_closing e ≡ true)) (sym is) tt
lines_closing w h (suc a) es (before, c, lines, counts, is) =
    subst (Every (λ e. is_closing e ≡ true)) (sym is) (every-append (λ e. is_closing e ≡ true) before (count_line a c) (lines_closing w h a before lines) (line_closing a c))

-- ---- the moment of an event

record Turn (w : Scenario) (h : History) (e : PlainEvent) : Type 0 where
  moment : ℕ
  past : History
  before : History
  after : History
  joined : h ≡ past ++ before
  legal : LegalUpTo w moment past
  happens : Happens w past (moment_at (length w.net.arcs) moment) (before ++ e ∷ after)

turn : (w : Scenario) (n : ℕ) (whole h rest : History) (e : PlainEvent) → LegalUpTo w n whole → whole ≡ h ++ e ∷ rest → Turn w h e
turn w zero whole h rest e is same = absurd (not_nil h rest e (sym is ∙ same))
turn w (suc n) whole h rest e (past, es, is, legal, happens) same = elim (split past es h rest e (sym is ∙ same)) [
  | inl o ↦ turn w n past h o.0 e legal o.1
  | inr o ↦ record {
    moment = n;
    past = past;
    before = o.0;
    after = rest;
    joined = o.1;
    legal = legal;
    happens = subst (λ x. Happens w past (moment_at (length w.net.arcs) n) x) o.2 happens;
  }
]

turn_of : (w : Scenario) (h : History) (e : PlainEvent) → is_closing e ≡ false → IsLegalFront w (h ++ e ∷ []) → Turn w h e
turn_of w h e stays front = go front.legal
  where
    joined : front.whole ≡ h ++ e ∷ front.rest
    joined = front.joined ∙ append_assoc h (e ∷ []) front.rest

    go : Legal w front.whole ⊎ ((n : ℕ) × LegalBefore w front.whole n) → Turn w h e
    go (inr (n, legal)) = turn w n front.whole h front.rest e legal.0 joined
    go (inl (body, counts, legal, lines, is)) = elim (split body (counts ++ PlainEvent.end (closing w body) ∷ []) h front.rest e (sym (is ∙ append_assoc body counts (PlainEvent.end (closing w body) ∷ [])) ∙ joined)) [
      | inl o ↦ turn w _ body h o.0 e legal.0 o.1
      | inr o ↦
          let all = every-append (λ e. is_closing e ≡ true) counts (PlainEvent.end (closing w body) ∷ []) (lines_closing w body (length w.net.arcs) counts lines) (refl, tt) in
          let closes : is_closing e ≡ true = every_mid (λ e. is_closing e ≡ true) o.0 front.rest e (subst (Every (λ e. is_closing e ≡ true)) o.2 all) in
          absurd (cc (sym stays ∙ closes))
    ]

-- The event is the only one of its moment.
pub record Alone (w : Scenario) (h : History) (e : PlainEvent) : Type 0 where
  pub moment : ℕ
  pub at : IsAt (length w.net.arcs) moment e
  pub legal : LegalUpTo w moment h
  pub more : LegalUpTo w (suc moment) (h ++ e ∷ [])

module _ (w : Scenario) (h : History) (e : PlainEvent) (o : Turn w h e) where
  its_place : IsAt (length w.net.arcs) o.moment e
  its_place = every_mid (IsAt (length w.net.arcs) o.moment) o.before o.after e (moment_events w o.past o.moment (o.before ++ e ∷ o.after) o.happens)

  alone : (o.before ≡ []) × (o.after ≡ []) → Alone w h e
  alone (none, rest) =
      let same : h ≡ o.past = o.joined ∙ (ap (λ x. o.past ++ x) none ∙ append-nil o.past) in
      let events : o.before ++ e ∷ o.after ≡ e ∷ [] = λ i. none i ++ e ∷ rest i in
      record {
        moment = o.moment;
        at = its_place;
        legal = subst (LegalUpTo w o.moment) (sym same) o.legal;
        more = (o.past, o.before ++ e ∷ o.after, (λ i. same i ++ sym events i), o.legal, o.happens);
      }

  -- what happens, by the place of the moment
  happens_at : (t k : ℕ) (p : Phase) → k < moments (length w.net.arcs) → o.moment ≡ number (length w.net.arcs) t k → (moment_at (length w.net.arcs) (number (length w.net.arcs) t k)).phase ≡ p
      → HappensIn w o.past t p (o.before ++ e ∷ o.after)
  happens_at t k p lt is phase =
      let here : moment_at (length w.net.arcs) o.moment ≡ record { tick = t; phase = p }
      = ap (moment_at (length w.net.arcs)) is ∙ (λ i. record { tick = (ap (λ (m : Moment). m.tick) (moment_in (length w.net.arcs) t k lt)) i; phase = phase i }) in
      subst (λ (m : Moment). Happens w o.past m (o.before ++ e ∷ o.after)) here o.happens

one_alone : (Due : PlainEvent → Type 0) (b rest : History) (e : PlainEvent) → OneOrNone Due (b ++ e ∷ rest) → (b ≡ []) × (rest ≡ [])
one_alone Due b rest e (inl (x, due, is)) = none_around b rest e x is
one_alone Due b rest e (inr (none, is)) = absurd (not_nil b rest e (sym is))

change_alone : (t a : ℕ) (now before : Bool) (b rest : History) (e : PlainEvent) → b ++ e ∷ rest ≡ change t a now before → (b ≡ []) × (rest ≡ [])
change_alone t a true true b rest e is = absurd (not_nil b rest e (sym is))
change_alone t a false false b rest e is = absurd (not_nil b rest e (sym is))
change_alone t a true false b rest e is = none_around b rest e _ is
change_alone t a false true b rest e is = none_around b rest e _ is

pub begin_alone : (w : Scenario) (h : History) (b : Begin) → IsLegalFront w (h ++ PlainEvent.begin b ∷ []) → Alone w h (PlainEvent.begin b)
unfolding HappensIn
begin_alone w h b front =
    let o = turn_of w h (PlainEvent.begin b) refl front in
    let at = its_place w h (PlainEvent.begin b) o in
    let lt : 2 + 3 * length w.net.arcs + b.arc < moments (length w.net.arcs) = omega (arith, at.0) in
    let phase = ap (λ (m : Moment). m.phase) (moment_in (length w.net.arcs) b.tick (2 + 3 * length w.net.arcs + b.arc) lt) ∙ starts_place (length w.net.arcs) b.arc in
    let happens = happens_at w h (PlainEvent.begin b) o b.tick (2 + 3 * length w.net.arcs + b.arc) (Phase.starts b.arc) lt at.1 phase in
    alone w h (PlainEvent.begin b) o (one_alone _ o.before o.after (PlainEvent.begin b) happens)

pub active_alone : (w : Scenario) (h : History) (t a : ℕ) (v : Bool) → IsLegalFront w (h ++ PlainEvent.active t a v ∷ []) → Alone w h (PlainEvent.active t a v)
unfolding HappensIn
active_alone w h t a v front =
    let o = turn_of w h (PlainEvent.active t a v) refl front in
    let at = its_place w h (PlainEvent.active t a v) o in
    let lt : 1 + 2 * length w.net.arcs + a < moments (length w.net.arcs) = omega (arith, at.0) in
    let phase = ap (λ (m : Moment). m.phase) (moment_in (length w.net.arcs) t (1 + 2 * length w.net.arcs + a) lt) ∙ expiries_place (length w.net.arcs) a at.0 in
    let happens = happens_at w h (PlainEvent.active t a v) o t (1 + 2 * length w.net.arcs + a) (Phase.expiries a) lt at.1 phase in
    alone w h (PlainEvent.active t a v) o (elim happens [
      | inl (on, (now, before, is_now, is_before, is)) ↦ change_alone t a now before o.before o.after (PlainEvent.active t a v) is
      | inr (off, is) ↦ absurd (not_nil o.before o.after (PlainEvent.active t a v) (sym is))
    ])

pub end_alone : (w : Scenario) (h : History) (e : Ended) → IsLegalFront w (h ++ PlainEvent.ended e ∷ []) → Alone w h (PlainEvent.ended e)
unfolding HappensIn
end_alone w h e front = alone w h (PlainEvent.ended e) o around
  where
    o : Turn w h (PlainEvent.ended e)
    o = turn_of w h (PlainEvent.ended e) refl front

    at : (e.arc < length w.net.arcs) × (o.moment ≡ number (length w.net.arcs) e.tick (1 + e.arc))
    at = its_place w h (PlainEvent.ended e) o

    lt : 1 + e.arc < moments (length w.net.arcs)
    lt = omega (arith, at.0)

    events : History
    events = o.before ++ PlainEvent.ended e ∷ o.after

    legal : LegalUpTo w (number (length w.net.arcs) e.tick (1 + e.arc)) o.past
    legal = subst (λ n. LegalUpTo w n o.past) at.1 o.legal

    all_at : AllAt (length w.net.arcs) (number (length w.net.arcs) e.tick (1 + e.arc)) events
    all_at = subst (λ n. AllAt (length w.net.arcs) n events) at.1 (moment_events w o.past o.moment events o.happens)

    happens : Each (λ b fs. OneOrNone (EndDue w o.past e.tick b) fs) (Begins o.past e.arc) events
    happens = happens_at w h (PlainEvent.ended e) o e.tick (1 + e.arc) (Phase.ends e.arc) lt at.1
        (ap (λ (m : Moment). m.phase) (moment_in (length w.net.arcs) e.tick (1 + e.arc) lt) ∙ ends_place (length w.net.arcs) e.arc at.0)

    around : (o.before ≡ []) × (o.after ≡ [])
    around =
        let s = steady w (number (length w.net.arcs) e.tick (1 + e.arc)) o.past e.arc at.0 legal in
        let before = placed w (number (length w.net.arcs) e.tick (1 + e.arc)) o.past legal in
        elim (cases_lt (length (Ends o.past e.arc)) (length (Begins o.past e.arc))) [
          | inl open_one ↦
              let b = there (Begins o.past e.arc) (length (Ends o.past e.arc)) open_one in
              one_alone _ o.before o.after (PlainEvent.ended e) (each_only (λ b fs. OneOrNone (EndDue w o.past e.tick b) fs) (Begins o.past e.arc) events (length (Ends o.past e.arc)) b.0 b.1
              (λ i c fs other here one. not_again w o.past events e.tick e.arc at.0 lt before all_at s i c fs (omega (arith, within (Begins o.past e.arc) i c here, s.ordered.few_open, other)) here one) happens)
          | inr all ↦
              let none : events ≡ [] = each_none (λ b fs. OneOrNone (EndDue w o.past e.tick b) fs) (Begins o.past e.arc) events
              (λ i c fs here one. not_again w o.past events e.tick e.arc at.0 lt before all_at s i c fs (omega (arith, within (Begins o.past e.arc) i c here, all)) here one) happens in
              absurd (not_nil o.before o.after (PlainEvent.ended e) (sym none))
        ]
