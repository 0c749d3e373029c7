-- Each event of a legal history stands at a moment before its end.
use Rattle.std.proofs.Common.{ℕ, zero, suc, ◌≡◌, ◌==◌, ◌+◌, ◌*◌, ◌/◌, ◌%◌, ◌<◌, Bool, true, false, List, []}
use Rattle.std.proofs.Common.{◌∷◌, ◌++◌, length, refl, sym, ◌∙◌, ap, inl, inr, arith, subst, Option, Some, None, map, filter}
use Rattle.std.specs.Prelude.{if◌then◌else◌}
use Rattle.std.specs.List.{AllByRecursion as Every}
use Rattle.std.proofs.lemmas.Nat.{div-mul-add}
use Rattle.std.proofs.Math.Arith.{digits_mod}
use Rattle.std.proofs.lemmas.Bool.Decides.{nat_tests}
use Rattle.pre_script.specs.declared.scripts.SetLine.{SetLine}
use Rattle.pre_history.specs.declared.events.Outcome.{Outcome}
use Rattle.pre_history.specs.Scenario.{Scenario, arc, row, capacity}
use Rattle.pre_history.specs.History.{PlainEvent, History, Begin, Entry, Ended}
use Rattle.pre_history.specs.Moments.{Phase, moments, phase_at}
use Rattle.pre_history.specs.Placed.{HasPlace, number, IsAt, AllAt, IsBefore, AllBefore}
use Rattle.pre_history.specs.Selected.{begin_on, is_frame_result}
use Rattle.pre_history.specs.Queries.{Begins, Ends, Waiting}
use Rattle.pre_history.specs.Comings.{Coming, Comings, EntriesOf, entry_event, entry_for, next_arc}
use Rattle.pre_history.specs.Rules.{Each, OneOrNone, EndDue, Arriving, EventsOf, WithDelivery, change, delivered, HappensIn}
use Rattle.pre_history.specs.Legal.{LegalUpTo}
use Rattle.pre_history.proofs.Lists.{every-append, every_weaker, every_selected}
use Rattle.pre_history.proofs.Moments.{place_of_phase}

-- ---- numbers of moments

pub number_tick : (arcs t k : ℕ) → k < moments arcs → number arcs t k / moments arcs ≡ t
number_tick arcs t k lt = div-mul-add t (moments arcs) k lt

pub same_tick : (arcs s t j k : ℕ) → j < moments arcs → k < moments arcs → number arcs s j ≡ number arcs t k → s ≡ t
same_tick arcs s t j k lt lt' e = sym (number_tick arcs s j lt) ∙ (ap (λ n. n / moments arcs) e ∙ number_tick arcs t k lt')

pub same_place : (arcs s t j k : ℕ) → j < moments arcs → k < moments arcs → number arcs s j ≡ number arcs t k → j ≡ k
same_place arcs s t j k lt lt' e = sym (digits_mod s lt) ∙ (ap (λ n. n % moments arcs) e ∙ digits_mod t lt')

-- moment n is a place of a tick
pub numbered : (arcs n : ℕ) → n ≡ number arcs (n / moments arcs) (n % moments arcs)
numbered arcs n = omega arith

pub place_below : (arcs n : ℕ) → n % moments arcs < moments arcs
place_below arcs n = omega arith

pub place_at : (arcs n : ℕ) → HasPlace arcs (n % moments arcs) (phase_at arcs (n % moments arcs))
place_at arcs n = place_of_phase arcs (n % moments arcs) (place_below arcs n)

-- ---- the arc of what is selected on an arc

begin_arc : (a : ℕ) (e : PlainEvent) (b : Begin) → Unit {0} → begin_on a e ≡ Some b → b.arc ≡ a
begin_arc a (PlainEvent.begin c) b u is = go (c.arc == a) refl is
  where
    go : (same : Bool) → (c.arc == a) ≡ same → (if same then Some c else None) ≡ Some b → b.arc ≡ a
    go true on at = let e : c ≡ b = cc at in let on' : c.arc ≡ a = grind (arith, nat_tests) in ap (λ (x : Begin). x.arc) (sym e) ∙ on'
    go false on at = absurd (cc at)
begin_arc a (PlainEvent.set t c v) b u is = absurd (cc is)
begin_arc a (PlainEvent.ended c) b u is = absurd (cc is)
begin_arc a (PlainEvent.arrive c) b u is = absurd (cc is)
begin_arc a (PlainEvent.deliver c) b u is = absurd (cc is)
begin_arc a (PlainEvent.active t c v) b u is = absurd (cc is)
begin_arc a (PlainEvent.enter c) b u is = absurd (cc is)
begin_arc a (PlainEvent.dropped c) b u is = absurd (cc is)
begin_arc a (PlainEvent.count t c) b u is = absurd (cc is)
begin_arc a (PlainEvent.end c) b u is = absurd (cc is)

all_units : {X : Type 0} (xs : List X) → Every (λ x. Unit {0}) xs
all_units [] = tt
all_units (x ∷ xs) = (tt, all_units xs)

pub begins_arc : (h : History) (a : ℕ) → Every (λ (b : Begin). b.arc ≡ a) (Begins h a)
begins_arc h a = every_selected (begin_on a) (λ e. Unit {0}) (λ b. b.arc ≡ a) (begin_arc a) h (all_units h)

-- ---- the events of each phase

each_all : {X : Type 0} (R : X → List PlainEvent → Type 0) (Q : X → Type 0) (P : PlainEvent → Type 0) → ((x : X) (es : List PlainEvent) → Q x → R x es → Every P es) → (xs : List X) (es : List PlainEvent) → Every Q xs → Each R xs es → Every P es
each_all R Q P says [] es q is = subst (Every P) (sym is) tt
each_all R Q P says (x ∷ xs) es (here, more) (front, rest, r, rs, is) =
    subst (Every P) (sym is) (every-append P front rest (says x front here r) (each_all R Q P says xs rest more rs))

one_all : (Due : PlainEvent → Type 0) (P : PlainEvent → Type 0) → ((e : PlainEvent) → Due e → P e) → (es : List PlainEvent) → OneOrNone Due es → Every P es
one_all Due P says es (inl (e, due, is)) = subst (Every P) (sym is) (says e due, tt)
one_all Due P says es (inr (none, is)) = subst (Every P) (sym is) tt

module _ (w : Scenario) (past : History) (t k : ℕ) where
  set_at : (b : Bool) (x : SetLine) (rest : List SetLine) → (x.tick.0 == t) ≡ b → k ≡ 0
      → AllAt (length w.net.arcs) (number (length w.net.arcs) t k) (map (λ x. PlainEvent.set x.tick.0 x.arc.0 x.value) rest)
      → AllAt (length w.net.arcs) (number (length w.net.arcs) t k) (map (λ x. PlainEvent.set x.tick.0 x.arc.0 x.value) (if b then x ∷ rest else rest))
  set_at true x rest is first more = let same : x.tick.0 ≡ t = grind (arith, nat_tests) in (ap (number (length w.net.arcs) t) first ∙ ap (λ s. number (length w.net.arcs) s 0) (sym same), more)
  set_at false x rest is first more = more

  sets_at : (xs : List SetLine) → k ≡ 0 → AllAt (length w.net.arcs) (number (length w.net.arcs) t k) (map (λ x. PlainEvent.set x.tick.0 x.arc.0 x.value) (filter (λ x. x.tick.0 == t) xs))
  sets_at [] first = tt
  sets_at (x ∷ xs) first = set_at (x.tick.0 == t) x (filter (λ x. x.tick.0 == t) xs) refl first (sets_at xs first)

  ends_at : (a : ℕ) (b : Begin) → HasPlace (length w.net.arcs) k (Phase.ends a) → b.arc ≡ a → (e : PlainEvent) → EndDue w past t b e → IsAt (length w.net.arcs) (number (length w.net.arcs) t k) e
  ends_at a b (within, is_place) on e (size, is_size, due, is) =
      subst (IsAt (length w.net.arcs) (number (length w.net.arcs) t k)) (sym is) (subst (λ x. x < length w.net.arcs) (sym on) within, ap (number (length w.net.arcs) t) (is_place ∙ ap (λ x. 1 + x) (sym on)))

  delivered_at : (a node f : ℕ) (octets : List ℕ) (next : Option ℕ) → HasPlace (length w.net.arcs) k (Phase.arrivals a) → AllAt (length w.net.arcs) (number (length w.net.arcs) t k) (delivered t node f octets next)
  delivered_at a node f octets None (within, is_place) = ((a, within, ap (number (length w.net.arcs) t) is_place), tt)
  delivered_at a node f octets (Some b) (within, is_place) = tt

  arrival_at : (a i : ℕ) (r : Outcome) (es : List PlainEvent) → HasPlace (length w.net.arcs) k (Phase.arrivals a) → WithDelivery w past t a i r es → AllAt (length w.net.arcs) (number (length w.net.arcs) t k) es
  arrival_at a i r es (within, is_place) with' = by_test (is_frame_result r) with'
    where
      by_test : (is_user : Bool) → EventsOf w past t is_user a i r es → AllAt (length w.net.arcs) (number (length w.net.arcs) t k) es
      by_test true (f, octets, frame, gives, is) =
          subst (AllAt (length w.net.arcs) (number (length w.net.arcs) t k)) (sym is) ((within, ap (number (length w.net.arcs) t) is_place), delivered_at a (arc w a).to.0 f octets (next_arc w a f) (within, is_place))
      by_test false is = subst (AllAt (length w.net.arcs) (number (length w.net.arcs) t k)) (sym is) ((within, ap (number (length w.net.arcs) t) is_place), tt)

  arriving_at : (a : ℕ) (e : Ended) (es : List PlainEvent) → HasPlace (length w.net.arcs) k (Phase.arrivals a) → Arriving w past t a e es → AllAt (length w.net.arcs) (number (length w.net.arcs) t k) es
  arriving_at a e es place (inl (due, (r, result, delivers))) = arrival_at a e.ord r es place delivers
  arriving_at a e es place (inr (not_due, is)) = subst (AllAt (length w.net.arcs) (number (length w.net.arcs) t k)) (sym is) tt

  change_at : (a : ℕ) (now before : Bool) → HasPlace (length w.net.arcs) k (Phase.expiries a) → AllAt (length w.net.arcs) (number (length w.net.arcs) t k) (change t a now before)
  change_at a true true place = tt
  change_at a false false place = tt
  change_at a true false (within, is_place) = ((within, ap (number (length w.net.arcs) t) is_place), tt)
  change_at a false true (within, is_place) = ((within, ap (number (length w.net.arcs) t) is_place), tt)

  entry_at : (b : Bool) (e : Entry) → e.tick ≡ t → k ≡ 1 + 3 * length w.net.arcs → IsAt (length w.net.arcs) (number (length w.net.arcs) t k) (if b then PlainEvent.dropped e else PlainEvent.enter e)
  entry_at true e now is_place = ap (number (length w.net.arcs) t) is_place ∙ ap (λ s. number (length w.net.arcs) s (1 + 3 * length w.net.arcs)) (sym now)
  entry_at false e now is_place = ap (number (length w.net.arcs) t) is_place ∙ ap (λ s. number (length w.net.arcs) s (1 + 3 * length w.net.arcs)) (sym now)

  entries_at : (h : History) (cs : List Coming) → k ≡ 1 + 3 * length w.net.arcs → AllAt (length w.net.arcs) (number (length w.net.arcs) t k) (EntriesOf w t h cs)
  entries_at h [] is_place = tt
  entries_at h (c ∷ cs) is_place =
      (entry_at (length (Waiting h c.arc (row w c.frame).prio t) == capacity w c.arc (row w c.frame).prio) (entry_for w t c) refl is_place, entries_at (h ++ entry_event w t h c ∷ []) cs is_place)

  pub phase_events : (p : Phase) (es : List PlainEvent) → HasPlace (length w.net.arcs) k p → HappensIn w past t p es → AllAt (length w.net.arcs) (number (length w.net.arcs) t k) es
  unfolding HappensIn
  phase_events Phase.sets es place is = subst (AllAt (length w.net.arcs) (number (length w.net.arcs) t k)) (sym is) (sets_at w.script.sets place)
  phase_events (Phase.ends a) es place is =
      each_all (λ b fs. OneOrNone (EndDue w past t b) fs) (λ b. b.arc ≡ a) (IsAt (length w.net.arcs) (number (length w.net.arcs) t k))
      (λ b fs on one. one_all (EndDue w past t b) (IsAt (length w.net.arcs) (number (length w.net.arcs) t k)) (ends_at a b place on) fs one) (Begins past a) es (begins_arc past a) is
  phase_events (Phase.arrivals a) es place is =
      each_all (Arriving w past t a) (λ e. Unit {0}) (IsAt (length w.net.arcs) (number (length w.net.arcs) t k)) (λ e fs u arriving. arriving_at a e fs place arriving) (Ends past a) es (all_units (Ends past a)) is
  phase_events (Phase.expiries a) es place (inl (on, (now, before, is_now, is_before, is))) = subst (AllAt (length w.net.arcs) (number (length w.net.arcs) t k)) (sym is) (change_at a now before place)
  phase_events (Phase.expiries a) es place (inr (off, is)) = subst (AllAt (length w.net.arcs) (number (length w.net.arcs) t k)) (sym is) tt
  phase_events Phase.entries es place is = subst (AllAt (length w.net.arcs) (number (length w.net.arcs) t k)) (sym is) (entries_at past (Comings w past t) place)
  phase_events (Phase.starts a) es (within, is_place) (inl (e, (c, rule, is_begin), is)) =
      subst (AllAt (length w.net.arcs) (number (length w.net.arcs) t k)) (sym is) (subst (IsAt (length w.net.arcs) (number (length w.net.arcs) t k)) (sym is_begin) (within, ap (number (length w.net.arcs) t) is_place), tt)
  phase_events (Phase.starts a) es place (inr (none, is)) = subst (AllAt (length w.net.arcs) (number (length w.net.arcs) t k)) (sym is) tt

-- the events of moment n
pub moment_events : (w : Scenario) (past : History) (n : ℕ) (es : List PlainEvent)
    → HappensIn w past (n / moments (length w.net.arcs)) (phase_at (length w.net.arcs) (n % moments (length w.net.arcs))) es → AllAt (length w.net.arcs) n es
moment_events w past n es happens =
    let A = length w.net.arcs in
    subst (λ x. AllAt A x es) (sym (numbered A n)) (phase_events w past (n / moments A) (n % moments A) (phase_at A (n % moments A)) es (place_at A n) happens)

pub placed : (w : Scenario) (n : ℕ) (h : History) → LegalUpTo w n h → AllBefore (length w.net.arcs) n h
placed w zero h is = subst (AllBefore (length w.net.arcs) 0) (sym is) tt
placed w (suc n) h (past, es, is, legal, happens) =
    let A = length w.net.arcs in
    let old : AllBefore A (suc n) past = every_weaker (IsBefore A n) (IsBefore A (suc n)) (λ e x. (x.0, omega (arith, x.1), x.2)) past (placed w n past legal) in
    let new : AllBefore A (suc n) es = every_weaker (IsAt A n) (IsBefore A (suc n)) (λ e x. (n, omega arith, x)) es (moment_events w past n es happens) in
    subst (AllBefore A (suc n)) (sym is) (every-append (IsBefore A (suc n)) past es old new)
