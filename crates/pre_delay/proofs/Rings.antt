-- What stands in a ring: in order of its ticks, of the ring's priority, and the first of it that waits at the front.
use Rattle.std.proofs.Common.{inl, inr, ◌⊎◌, ℕ, zero, suc, ◌≡◌, ◌≢◌, ◌==◌, ◌&&◌, not, nat_le, ◌+◌, ◌*◌}
use Rattle.std.proofs.Common.{◌<◌, ◌≤◌, Bool, true, false, List, [], ◌∷◌, length, refl, sym, ◌∙◌, ap, arith, subst, Some}
use Rattle.std.proofs.Common.{None, map, filter}
use Rattle.std.specs.Prelude.{if◌then◌else◌, slice_get}
use Rattle.std.specs.List.{AllByRecursion as Every}
use Rattle.std.proofs.lemmas.Bool.{and_parts, and_from, le-leb}
use Rattle.std.proofs.lemmas.Bool.Decides.{nat_tests}
use Rattle.std.proofs.lemmas.List.Elements.{filter_map-append}
use Rattle.pre_history.specs.Scenario.{Scenario, row}
use Rattle.pre_history.specs.History.{Entry, PlainEvent, History}
use Rattle.pre_history.specs.Moments.{moments}
use Rattle.pre_history.specs.Placed.{number, IsAt, IsBefore}
use Rattle.pre_history.specs.Selected.{RingEntry, entry_on}
use Rattle.pre_history.specs.Queries.{Entries, begun_before, Waiting}
use Rattle.pre_history.specs.Comings.{Comings}
use Rattle.pre_history.specs.Legal.{LegalUpTo}
use Rattle.pre_history.proofs.Lists.{any_at, every_at, every_placed, every_weaker, every_selected}
use Rattle.pre_history.proofs.Pairs.{Pairs, pairs-append}
use Rattle.pre_history.proofs.Placing.{moment_events, placed}
use Rattle.pre_history.proofs.Turns.{tick_le}
use Rattle.pre_history.proofs.EntryMoments.{entries_before}
use Rattle.pre_history.proofs.EntriesRead.{entries_come}
use Rattle.pre_history.proofs.Relays.{ComesBy, comings_by}
use Rattle.pre_history.specs.Read.{IsTold}
use Rattle.pre_laws.proofs.Once.{coming_to}

-- ---- what stands in a ring

-- the entry or drop that an event of the ring tells
record IsOf (a p : ℕ) (x : PlainEvent) (r : RingEntry) : Type 0 where
  entry : Entry
  event : (x ≡ PlainEvent.enter entry) ⊎ (x ≡ PlainEvent.dropped entry)
  arc : entry.arc ≡ a
  prio : entry.prio ≡ p
  frame : entry.frame ≡ r.frame
  tick : entry.tick ≡ r.tick

ring_one : (a p : ℕ) (x : PlainEvent) (e : Entry) (entered : Bool) (r : RingEntry) → (x ≡ PlainEvent.enter e) ⊎ (x ≡ PlainEvent.dropped e) → (b : Bool) → ((e.arc == a) && (e.prio == p)) ≡ b
    → (if b then Some (record { tick = e.tick; frame = e.frame; entered = entered }) else None) ≡ Some r → IsOf a p x r
ring_one a p x e entered r event false off is = absurd (cc is)
ring_one a p x e entered r event true on is =
    let parts = and_parts (e.arc == a) (e.prio == p) on in
    let made : RingEntry = record { tick = e.tick; frame = e.frame; entered = entered } in
    let same : made ≡ r = cc is in
    record {
      entry = e;
      event = event;
      arc = grind (arith, nat_tests, parts.0);
      prio = grind (arith, nat_tests, parts.1);
      frame = ap (λ (y : RingEntry). y.frame) same;
      tick = ap (λ (y : RingEntry). y.tick) same;
    }

ring_event : (a p : ℕ) (x : PlainEvent) (r : RingEntry) → entry_on a p x ≡ Some r → IsOf a p x r
ring_event a p (PlainEvent.enter e) r is = ring_one a p (PlainEvent.enter e) e true r (inl refl) ((e.arc == a) && (e.prio == p)) refl is
ring_event a p (PlainEvent.dropped e) r is = ring_one a p (PlainEvent.dropped e) e false r (inr refl) ((e.arc == a) && (e.prio == p)) refl is
ring_event a p (PlainEvent.set t b v) r is = absurd (cc is)
ring_event a p (PlainEvent.begin b) r is = absurd (cc is)
ring_event a p (PlainEvent.ended b) r is = absurd (cc is)
ring_event a p (PlainEvent.arrive b) r is = absurd (cc is)
ring_event a p (PlainEvent.deliver b) r is = absurd (cc is)
ring_event a p (PlainEvent.active t b v) r is = absurd (cc is)
ring_event a p (PlainEvent.count t b) r is = absurd (cc is)
ring_event a p (PlainEvent.end b) r is = absurd (cc is)

-- it came by a send or a relay, and has the ring's priority
abbrev CameRight : Scenario → History → (a p : ℕ) → RingEntry → Type 0
CameRight w h a p r = ComesBy w h r.tick (coming_to a r.frame) × (p ≡ (row w r.frame).prio)

module _ (w : Scenario) (n : ℕ) (h : History) (legal : LegalUpTo w n h) where
  event_came : (a p i : ℕ) (x : PlainEvent) (r : RingEntry) → slice_get h i ≡ Some x → IsOf a p x r → CameRight w h a p r
  event_came a p i x r at o =
      let e = o.entry in
      let c = entries_come w n h e.tick legal (before o.event (every_at (IsBefore (length w.net.arcs) n) h i x (placed w n h legal) at)) e refl (told o.event) in
      let by = every_at (ComesBy w h e.tick) (Comings w h e.tick) c.0 c.1 (comings_by w h e.tick) c.2 in
      let arc_is : c.1.arc ≡ a = ap (λ (y : Entry). y.arc) c.3 ∙ o.arc in
      let frame_is : c.1.frame ≡ r.frame = ap (λ (y : Entry). y.frame) c.3 ∙ o.frame in (
        subst (λ t. ComesBy w h t (coming_to a r.frame)) o.tick (subst (λ f. ComesBy w h e.tick (coming_to a f)) frame_is (subst (λ b. ComesBy w h e.tick (coming_to b c.1.frame)) arc_is by)),
        sym (ap (λ (y : Entry). y.prio) c.3 ∙ o.prio) ∙ ap (λ f. (row w f).prio) frame_is,
      )
    where
      told : {e : Entry} → (x ≡ PlainEvent.enter e) ⊎ (x ≡ PlainEvent.dropped e) → IsTold h (PlainEvent.enter e) ⊎ IsTold h (PlainEvent.dropped e)
      told {e} (inl is) = inl (any_at (λ y. y ≡ PlainEvent.enter e) h i x at is)
      told {e} (inr is) = inr (any_at (λ y. y ≡ PlainEvent.dropped e) h i x at is)

      before : {e : Entry} → (x ≡ PlainEvent.enter e) ⊎ (x ≡ PlainEvent.dropped e) → IsBefore (length w.net.arcs) n x → number (length w.net.arcs) e.tick (1 + 3 * length w.net.arcs) < n
      before {e} (inl is) placed' = let b = subst (IsBefore (length w.net.arcs) n) is placed' in let lt = b.1 in let at' = b.2 in omega (arith, lt, at')
      before {e} (inr is) placed' = let b = subst (IsBefore (length w.net.arcs) n) is placed' in let lt = b.1 in let at' = b.2 in omega (arith, lt, at')

  all_came : (a p : ℕ) → Every (CameRight w h a p) (Entries h a p)
  all_came a p = every_selected (entry_on a p) (λ x. (i : ℕ) × (slice_get h i ≡ Some x)) (CameRight w h a p) (λ x r (i, at) is. event_came a p i x r at (ring_event a p x r is)) h
      (every_placed (λ x. (i : ℕ) × (slice_get h i ≡ Some x)) h (λ i x at. (i, at)))

-- what came to a ring came by a send or a relay
pub entries_came : (w : Scenario) (n : ℕ) (h : History) (a p : ℕ) → LegalUpTo w n h → Every (λ (r : RingEntry). ComesBy w h r.tick (coming_to a r.frame)) (Entries h a p)
entries_came w n h a p legal = every_weaker (CameRight w h a p) (λ (r : RingEntry). ComesBy w h r.tick (coming_to a r.frame)) (λ r came. came.0) (Entries h a p) (all_came w n h legal a p)

-- and has its priority
pub entries_prio : (w : Scenario) (n : ℕ) (h : History) (a p : ℕ) → LegalUpTo w n h → Every (λ (r : RingEntry). r.entered ≡ true → p ≡ (row w r.frame).prio) (Entries h a p)
entries_prio w n h a p legal = every_weaker (CameRight w h a p) (λ (r : RingEntry). r.entered ≡ true → p ≡ (row w r.frame).prio) (λ r came entered. came.1) (Entries h a p) (all_came w n h legal a p)

-- ---- order

pub entry_now : (arcs m a p : ℕ) (e : PlainEvent) (r : RingEntry) → IsAt arcs m e → entry_on a p e ≡ Some r → m ≡ number arcs r.tick (1 + 3 * arcs)
entry_now arcs m a p (PlainEvent.enter e) r at is = go ((e.arc == a) && (e.prio == p)) is
  where
    go : (b : Bool) → (if b then Some (record { tick = e.tick; frame = e.frame; entered = true }) else None) ≡ Some r → m ≡ number arcs r.tick (1 + 3 * arcs)
    go false is = absurd (cc is)
    go true is =
        let made : RingEntry = record { tick = e.tick; frame = e.frame; entered = true } in
        let same : made ≡ r = cc is in
        subst (λ (x : RingEntry). m ≡ number arcs x.tick (1 + 3 * arcs)) same at
entry_now arcs m a p (PlainEvent.dropped e) r at is = go ((e.arc == a) && (e.prio == p)) is
  where
    go : (b : Bool) → (if b then Some (record { tick = e.tick; frame = e.frame; entered = false }) else None) ≡ Some r → m ≡ number arcs r.tick (1 + 3 * arcs)
    go false is = absurd (cc is)
    go true is =
        let made : RingEntry = record { tick = e.tick; frame = e.frame; entered = false } in
        let same : made ≡ r = cc is in
        subst (λ (x : RingEntry). m ≡ number arcs x.tick (1 + 3 * arcs)) same at
entry_now arcs m a p (PlainEvent.set t b v) r at is = absurd (cc is)
entry_now arcs m a p (PlainEvent.begin b) r at is = absurd (cc is)
entry_now arcs m a p (PlainEvent.ended b) r at is = absurd (cc is)
entry_now arcs m a p (PlainEvent.arrive b) r at is = absurd (cc is)
entry_now arcs m a p (PlainEvent.deliver b) r at is = absurd (cc is)
entry_now arcs m a p (PlainEvent.active t b v) r at is = absurd (cc is)
entry_now arcs m a p (PlainEvent.count t b) r at is = absurd (cc is)
entry_now arcs m a p (PlainEvent.end b) r at is = absurd (cc is)

abbrev pub NotLater : RingEntry → RingEntry → Type 0
NotLater d e = d.tick ≤ e.tick

not_later : (arcs m s t : ℕ) → number arcs s (1 + 3 * arcs) ≤ m → m ≡ number arcs t (1 + 3 * arcs) → s ≤ t
not_later arcs m s t le is = tick_le (moments arcs) s t (1 + 3 * arcs) (1 + 3 * arcs) (omega arith) (omega arith)

all_pairs : (arcs m : ℕ) (rs : List RingEntry) → Every (λ (r : RingEntry). m ≡ number arcs r.tick (1 + 3 * arcs)) rs → Pairs NotLater rs
all_pairs arcs m [] e = tt
all_pairs arcs m (r ∷ rs) (here, more) =
    (every_weaker (λ (x : RingEntry). m ≡ number arcs x.tick (1 + 3 * arcs)) (NotLater r) (λ x is. not_later arcs m r.tick x.tick (omega arith) is) rs more, all_pairs arcs m rs more)

-- the entries of a ring stand in the order of their ticks
pub entries_sorted : (w : Scenario) (n : ℕ) (h : History) (a p : ℕ) → LegalUpTo w n h → Pairs NotLater (Entries h a p)
entries_sorted w zero h a p is = subst (λ g. Pairs NotLater (Entries g a p)) (sym is) tt
entries_sorted w (suc n) h a p (past, es, is, legal, happens) =
    let A = length w.net.arcs in
    let now = every_selected (entry_on a p) (IsAt A n) (λ (r : RingEntry). n ≡ number A r.tick (1 + 3 * A)) (entry_now A n a p) es (moment_events w past n es happens) in
    let old = entries_before A n a p past (placed w n past legal) in
    subst (λ g. Pairs NotLater (Entries g a p)) (sym is)
    (subst (Pairs NotLater) (sym (filter_map-append (entry_on a p) past es))
    (pairs-append NotLater (Entries past a p) (Entries es a p) (entries_sorted w n past a p legal) (all_pairs A n (Entries es a p) now)
    (every_weaker (λ (r : RingEntry). number A r.tick (1 + 3 * A) < n) (λ r. Every (NotLater r) (Entries es a p))
    (λ r before. every_weaker (λ (x : RingEntry). n ≡ number A x.tick (1 + 3 * A)) (NotLater r) (λ x at. not_later A n r.tick x.tick (omega arith) at) (Entries es a p) now) (Entries past a p) old)))

-- ---- the front

-- the entry waits at the tick
pub record EntryWaits (h : History) (a t : ℕ) (r : RingEntry) : Type 0 where
  pub entered : r.entered ≡ true
  pub by : r.tick ≤ t
  pub fresh : begun_before h a t r.frame ≡ false

abbrev test : History → ℕ → ℕ → RingEntry → Bool
test h a t e = e.entered && nat_le e.tick t && not (begun_before h a t e.frame)

passes : (h : History) (a t : ℕ) (r : RingEntry) → EntryWaits h a t r → test h a t r ≡ true
passes h a t r x =
    and_from (r.entered && nat_le r.tick t) (not (begun_before h a t r.frame)) (and_from r.entered (nat_le r.tick t) x.entered (le-leb r.tick t x.by)) (ap not x.fresh)

waits_from : (h : History) (a t : ℕ) (r : RingEntry) → test h a t r ≡ true → EntryWaits h a t r
waits_from h a t r e =
    let outer = and_parts (r.entered && nat_le r.tick t) (not (begun_before h a t r.frame)) e in
    let inner = and_parts r.entered (nat_le r.tick t) outer.0 in
    record { entered = inner.0; by = grind (arith, nat_tests, inner.1); fresh = off (begun_before h a t r.frame) outer.1 }
  where
    off : (b : Bool) → not b ≡ true → b ≡ false
    off false is = refl
    off true is = absurd (cc is)

-- the first that passes: it passes, and each that passes is it or stands behind it
pub record FrontEntry (h : History) (a t g : ℕ) (rs : List RingEntry) : Type 0 where
  pub entry : RingEntry
  pub place : ℕ
  pub at : slice_get rs place ≡ Some entry
  pub is : entry.frame ≡ g
  pub waits : EntryWaits h a t entry
  pub first : Every (λ r. EntryWaits h a t r → entry.tick ≤ r.tick) rs

front_entry : (h : History) (a t g : ℕ) (behind : List ℕ) (rs : List RingEntry) → Pairs NotLater rs → map (λ (e : RingEntry). e.frame) (filter (test h a t) rs) ≡ g ∷ behind → FrontEntry h a t g rs
front_entry h a t g behind [] sorted is = absurd (cc is)
front_entry h a t g behind (r ∷ rs) sorted is = go (test h a t r) refl is (λ e. front_entry h a t g behind rs sorted.1 e)
  where
    go : (b : Bool) → test h a t r ≡ b → map (λ (e : RingEntry). e.frame) (if b then r ∷ filter (test h a t) rs else filter (test h a t) rs) ≡ g ∷ behind
        → (map (λ (e : RingEntry). e.frame) (filter (test h a t) rs) ≡ g ∷ behind → FrontEntry h a t g rs) → FrontEntry h a t g (r ∷ rs)
    go true pass at more = record {
      entry = r;
      place = 0;
      at = refl;
      is = cc at;
      waits = waits_from h a t r pass;
      first = (λ x. omega arith, every_weaker (NotLater r) (λ s. EntryWaits h a t s → r.tick ≤ s.tick) (λ s le x. le) rs sorted.0);
    }
    go false pass at more = let o = more at in record {
      entry = o.entry;
      place = suc o.place;
      at = o.at;
      is = o.is;
      waits = o.waits;
      first = (λ x. let on = passes h a t r x in absurd (cc (on, pass)), o.first);
    }

pub front_of_ring : (w : Scenario) (n : ℕ) (h : History) (a p t g : ℕ) (behind : List ℕ) → LegalUpTo w n h → Waiting h a p t ≡ g ∷ behind → FrontEntry h a t g (Entries h a p)
unfolding Waiting
front_of_ring w n h a p t g behind legal waits = front_entry h a t g behind (Entries h a p) (entries_sorted w n h a p legal) waits

some_pass : (h : History) (a t : ℕ) (rs : List RingEntry) (i : ℕ) (r : RingEntry) → slice_get rs i ≡ Some r → EntryWaits h a t r → map (λ (e : RingEntry). e.frame) (filter (test h a t) rs) ≢ []
some_pass h a t [] i r at x none = absurd (cc at)
some_pass h a t (s ∷ rs) zero r at x none =
    let same : s ≡ r = cc at in
    let on : test h a t s ≡ true = ap (test h a t) same ∙ passes h a t r x in
    absurd (let no' : map (λ (e : RingEntry). e.frame) (if true then s ∷ filter (test h a t) rs else filter (test h a t) rs) ≡ [] = subst (λ b. map (λ (e : RingEntry). e.frame) (if b then s ∷ filter (test h a t) rs else filter (test h a t) rs) ≡ []) on none in cc no')
some_pass h a t (s ∷ rs) (suc i) r at x none = go (test h a t s) none (some_pass h a t rs i r at x)
  where
    go : (b : Bool) → map (λ (e : RingEntry). e.frame) (if b then s ∷ filter (test h a t) rs else filter (test h a t) rs) ≡ [] → map (λ (e : RingEntry). e.frame) (filter (test h a t) rs) ≢ [] → ⊥
    go true none more = absurd (cc none)
    go false none more = more none

-- a ring isn't empty where one of its entries waits
pub ring_waits : (h : History) (a p t i : ℕ) (r : RingEntry) → slice_get (Entries h a p) i ≡ Some r → EntryWaits h a t r → Waiting h a p t ≢ []
unfolding Waiting
ring_waits h a p t i r at x = some_pass h a t (Entries h a p) i r at x
