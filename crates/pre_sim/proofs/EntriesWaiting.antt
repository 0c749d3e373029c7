-- What waits at the rings of an arc, as frames come to them.
use Rattle.std.proofs.Common.{ℕ, ◌≡◌, ◌≢◌, ◌==◌, ◌&&◌, ◌<◌, ◌≤◌, nat_lt, nat_le, not, Bool, true, false, List, []}
use Rattle.std.proofs.Common.{◌∷◌, ◌++◌, length, refl, sym, ◌∙◌, ap, inl, inr}
use Rattle.std.proofs.Common.{arith, subst, map, filter, length-append, get_or-set_same, get_or-set_other, Some, None}
use Rattle.std.specs.Prelude.{if◌then◌else◌}
use Rattle.std.specs.List.{list_any, cons_option, AllByRecursion as Every}
use Rattle.std.proofs.Math.Path.{fun_ext}
use Rattle.std.proofs.Math.Bool.{and-true}
use Rattle.std.proofs.lemmas.Bool.{cases_eq, cases_lt}
use Rattle.std.proofs.lemmas.List.{append-nil, map-append, get_or_past}
use Rattle.std.proofs.lemmas.List.Elements.{filter_map-append, filter-append}
use Rattle.pre_rings.specs.declared.slots.FrameRef.{FrameRef}
use Rattle.pre_rings.specs.Ports.{Port, IsPort, frames_at, capacity_at, with_frames}
use Rattle.pre_history.specs.Scenario.{Scenario, row, capacity}
use Rattle.pre_history.specs.History.{PlainEvent, History, Begin, Entry}
use Rattle.pre_history.specs.Selected.{RingEntry, what_is, entry_on, entry_of, begin_on}
use Rattle.pre_history.specs.Queries.{Begins, Entries, begun_before, Waiting}
use Rattle.pre_history.specs.Comings.{Coming, entry_for, entry_event}
use Rattle.pre_sim.specs.Stands.{AreApart, AreRings, ring_numbers, has_begun, StillWaiting}
use Rattle.pre_sim.specs.Sends.{BeforeEntries}
use Rattle.pre_sim.proofs.Lists.{every-append}
use Rattle.pre_sim.proofs.NumberTests.{is_eq, not_eq, is_lt, is_le}

-- ---- what waits at a tick, where all was told that it depends on

-- all mPackets began before the tick
same_begun : (t f : ℕ) (bs : List Begin) → Every (λ (b : Begin). b.tick < t) bs
    → list_any (λ (b : Begin). nat_lt b.tick t && what_is b.what f && (b.from == 0)) bs ≡ list_any (λ (b : Begin). what_is b.what f && (b.from == 0)) bs
same_begun t f [] before = refl
same_begun t f (b ∷ bs) (here, more) = rw (is_lt b.tick t here, same_begun t f bs more) refl

same_waits : (t : ℕ) (begun : ℕ → Bool) (es : List RingEntry) → Every (λ (e : RingEntry). e.tick ≤ t) es
    → filter (λ (e : RingEntry). e.entered && nat_le e.tick t && not (begun e.frame)) es ≡ filter (λ (e : RingEntry). e.entered && not (begun e.frame)) es
same_waits t begun [] by = refl
same_waits t begun (e ∷ es) (here, more) = rw (is_le e.tick t here, and-true e.entered, same_waits t begun es more) refl

pub waits_still : (h : History) (a p t : ℕ) → Every (λ (b : Begin). b.tick < t) (Begins h a) → Every (λ (e : RingEntry). e.tick ≤ t) (Entries h a p) → Waiting h a p t ≡ StillWaiting h a p
unfolding Waiting StillWaiting
waits_still h a p t begins entries =
    let begun : begun_before h a t ≡ has_begun h a = fun_ext (λ f. same_begun t f (Begins h a) begins) in
    ap (λ (b : ℕ → Bool). map (λ (e : RingEntry). e.frame) (filter (λ (e : RingEntry). e.entered && nat_le e.tick t && not (b e.frame)) (Entries h a p))) begun
    ∙ ap (map (λ (e : RingEntry). e.frame)) (same_waits t (has_begun h a) (Entries h a p) entries)

-- ---- the rule

-- the event of a frame that comes to a ring with room
pub enters : (w : Scenario) (t : ℕ) (h : History) (c : Coming) → length (Waiting h c.arc (row w c.frame).prio t) < capacity w c.arc (row w c.frame).prio
    → entry_event w t h c ≡ PlainEvent.enter (entry_for w t c)
enters w t h c lt = rw (not_eq (length (Waiting h c.arc (row w c.frame).prio t)) (capacity w c.arc (row w c.frame).prio) (λ e. omega (arith, e, lt))) refl

-- and to a full one
pub drops : (w : Scenario) (t : ℕ) (h : History) (c : Coming) → length (Waiting h c.arc (row w c.frame).prio t) ≡ capacity w c.arc (row w c.frame).prio
    → entry_event w t h c ≡ PlainEvent.dropped (entry_for w t c)
drops w t h c full = rw (is_eq (length (Waiting h c.arc (row w c.frame).prio t)) (capacity w c.arc (row w c.frame).prio) full) refl

-- ---- the rings after a frame entered

apart_push : (ns : List ℕ) (k : ℕ) → AreApart ns → Every (λ (n : ℕ). n ≢ k) ns → AreApart (ns ++ k ∷ [])
apart_push [] k apart other = (tt, tt)
apart_push (n ∷ ns) k (first, apart) (here, other) = (every-append (λ (m : ℕ). n ≢ m) ns (k ∷ []) first (here, tt), apart_push ns k apart other)

-- one number more at the frame's priority
abbrev pushed : ℕ → ℕ → ℕ → List ℕ → List ℕ
pushed prio k p ns = ns ++ (if prio == p then k ∷ [] else [])

pushed_here : (prio k p : ℕ) (ns : List ℕ) → prio ≡ p → pushed prio k p ns ≡ ns ++ k ∷ []
pushed_here prio k p ns same = rw (is_eq prio p same) refl

pushed_elsewhere : (prio k p : ℕ) (ns : List ℕ) → prio ≢ p → pushed prio k p ns ≡ ns
pushed_elsewhere prio k p ns other = rw (not_eq prio p other) (append-nil ns)

-- a ring with room is one of the eight
pub with_room : (rings : Port) (p n : ℕ) → IsPort rings → n < capacity_at rings p → p < 8
with_room rings p n eight room = elim (cases_lt p 8) [
  | inl less ↦ less
  | inr more ↦ let none : capacity_at rings p ≡ 0 = get_or_past rings.capacities p 0 (omega (arith, more, eight.1)) in absurd (omega (arith, none, room))
]

numbers_push : (rings : Port) (f : FrameRef) (p : ℕ) → f.prio < length rings.frames
    → ring_numbers (with_frames rings f.prio (frames_at rings f.prio ++ f ∷ [])) p ≡ pushed f.prio f.frame.0 p (ring_numbers rings p)
numbers_push rings f p lt = elim (cases_eq f.prio p) [
  | inl same ↦
      ap (λ q. ring_numbers (with_frames rings f.prio (frames_at rings f.prio ++ f ∷ [])) q) (sym same)
      ∙ (ap (map (λ (g : FrameRef). g.frame.0)) (get_or-set_same rings.frames f.prio (frames_at rings f.prio ++ f ∷ []) [] lt)
      ∙ (map-append (λ (g : FrameRef). g.frame.0) (frames_at rings f.prio) (f ∷ [])
      ∙ (ap (λ q. ring_numbers rings q ++ f.frame.0 ∷ []) same ∙ sym (pushed_here f.prio f.frame.0 p (ring_numbers rings p) same))))
  | inr other ↦
      ap (map (λ (g : FrameRef). g.frame.0)) (get_or-set_other rings.frames f.prio p (frames_at rings f.prio ++ f ∷ []) [] (λ e. other (sym e)))
      ∙ sym (pushed_elsewhere f.prio f.frame.0 p (ring_numbers rings p) other)
]

apart_pushed : (prio k p : ℕ) (ns : List ℕ) → AreApart ns → Every (λ (n : ℕ). n ≢ k) ns → AreApart (pushed prio k p ns)
apart_pushed prio k p ns apart other = elim (cases_eq prio p) [
  | inl same ↦ subst AreApart (sym (pushed_here prio k p ns same)) (apart_push ns k apart other)
  | inr elsewhere ↦ subst AreApart (sym (pushed_elsewhere prio k p ns elsewhere)) apart
]

room_pushed : (prio k p : ℕ) (ns : List ℕ) (most : ℕ → ℕ) → length ns ≤ most p → (prio ≡ p → length ns < most p) → length (pushed prio k p ns) ≤ most p
room_pushed prio k p ns most fits room = elim (cases_eq prio p) [
  | inl same ↦ let less = room same in omega (arith, ap length (pushed_here prio k p ns same), length-append ns (k ∷ []), less)
  | inr other ↦ omega (arith, ap length (pushed_elsewhere prio k p ns other), fits)
]

-- ---- what still waits

abbrev still : (ℕ → Bool) → List RingEntry → List ℕ
still begun xs = map (λ (e : RingEntry). e.frame) (filter (λ (e : RingEntry). e.entered && not (begun e.frame)) xs)

not_begun : (f : ℕ) (bs : List Begin) → Every (λ (b : Begin). what_is b.what f ≡ false) bs → list_any (λ (b : Begin). what_is b.what f && (b.from == 0)) bs ≡ false
not_begun f [] all = refl
not_begun f (b ∷ bs) (here, more) = rw here (not_begun f bs more)

-- what waits came before
waits_came : (p f : ℕ) (begun : ℕ → Bool) (es : List RingEntry) → Every (λ (e : RingEntry). e.frame ≢ f) es → Every (λ (n : ℕ). n ≢ f) (still begun es)
waits_came p f begun [] all = tt
waits_came p f begun (e ∷ es) (here, more) = go (e.entered && not (begun e.frame)) (waits_came p f begun es more)
  where
    go : (b : Bool) → Every (λ (n : ℕ). n ≢ f) (still begun es)
        → Every (λ (n : ℕ). n ≢ f) (map (λ (e : RingEntry). e.frame) (if b then e ∷ filter (λ (e : RingEntry). e.entered && not (begun e.frame)) es
        else filter (λ (e : RingEntry). e.entered && not (begun e.frame)) es))
    go true rest = (here, rest)
    go false rest = rest

still_came : (h : History) (a p f : ℕ) → Every (λ (e : RingEntry). e.frame ≢ f) (Entries h a p) → Every (λ (n : ℕ). n ≢ f) (StillWaiting h a p)
unfolding StillWaiting
still_came h a p f all = waits_came p f (has_begun h a) (Entries h a p) all

-- more that came to rings
still_more : (h es : History) (a p : ℕ) → Begins (h ++ es) a ≡ Begins h a → StillWaiting (h ++ es) a p ≡ StillWaiting h a p ++ still (has_begun h a) (Entries es a p)
unfolding StillWaiting
still_more h es a p begins =
    ap (λ (bs : List Begin). still (λ f. list_any (λ (x : Begin). what_is x.what f && (x.from == 0)) bs) (Entries (h ++ es) a p)) begins
    ∙ (ap (still (has_begun h a)) (filter_map-append (entry_on a p) h es)
    ∙ (ap (map (λ (e : RingEntry). e.frame)) (filter-append (λ (e : RingEntry). e.entered && not (has_begun h a e.frame)) (Entries h a p) (Entries es a p))
    ∙ map-append (λ (e : RingEntry). e.frame) (filter (λ (e : RingEntry). e.entered && not (has_begun h a e.frame)) (Entries h a p))
    (filter (λ (e : RingEntry). e.entered && not (has_begun h a e.frame)) (Entries es a p))))

-- an entry begins nothing
pub entered_begins : (h : History) (e : Entry) (b : ℕ) → Begins (h ++ PlainEvent.enter e ∷ []) b ≡ Begins h b
entered_begins h e b = filter_map-append (begin_on b) h (PlainEvent.enter e ∷ []) ∙ append-nil (Begins h b)

pub dropped_begins : (h : History) (e : Entry) (b : ℕ) → Begins (h ++ PlainEvent.dropped e ∷ []) b ≡ Begins h b
dropped_begins h e b = filter_map-append (begin_on b) h (PlainEvent.dropped e ∷ []) ∙ append-nil (Begins h b)

-- a frame that entered waits behind the others
still_pushed : (h : History) (a p : ℕ) (e : Entry) → e.arc ≡ a → Every (λ (b : Begin). what_is b.what e.frame ≡ false) (Begins h a)
    → StillWaiting (h ++ PlainEvent.enter e ∷ []) a p ≡ pushed e.prio e.frame p (StillWaiting h a p)
still_pushed h a p e on unbegun = still_more h (PlainEvent.enter e ∷ []) a p (entered_begins h e a) ∙ ap (λ xs. StillWaiting h a p ++ xs) (new (e.prio == p) refl)
  where
    new : (b : Bool) → (e.prio == p) ≡ b → still (has_begun h a) (Entries (PlainEvent.enter e ∷ []) a p) ≡ (if b then e.frame ∷ [] else [])
    new true is =
        let here : (e.arc == a) ≡ true = is_eq e.arc a on in
        let fresh : has_begun h a e.frame ≡ false = not_begun e.frame (Begins h a) unbegun in
        rw (here, is, fresh) refl
    new false is =
        let here : (e.arc == a) ≡ true = is_eq e.arc a on in
        rw (here, is) refl

-- one that came to another arc changes nothing
still_elsewhere : (h : History) (b p : ℕ) (e : Entry) → e.arc ≢ b → StillWaiting (h ++ PlainEvent.enter e ∷ []) b p ≡ StillWaiting h b p
still_elsewhere h b p e other =
    let off : (e.arc == b) ≡ false = not_eq e.arc b other in
    let none : still (has_begun h b) (Entries (PlainEvent.enter e ∷ []) b p) ≡ [] = rw off refl in
    still_more h (PlainEvent.enter e ∷ []) b p (entered_begins h e b) ∙ (ap (λ xs. StillWaiting h b p ++ xs) none ∙ append-nil (StillWaiting h b p))

-- nor does one that was dropped
still_dropped : (h : History) (b p : ℕ) (e : Entry) → StillWaiting (h ++ PlainEvent.dropped e ∷ []) b p ≡ StillWaiting h b p
still_dropped h b p e =
    still_more h (PlainEvent.dropped e ∷ []) b p (dropped_begins h e b) ∙ (ap (λ xs. StillWaiting h b p ++ xs) (none ((e.arc == b) && (e.prio == p))) ∙ append-nil (StillWaiting h b p))
  where
    none : (x : Bool) → still (has_begun h b) (cons_option (if x then Some (record { tick = e.tick; frame = e.frame; entered = false }) else None) []) ≡ []
    none true = refl
    none false = refl

-- ---- the rings of an arc

same_waiting : (w : Scenario) (h g : History) (a : ℕ) (rings : Port) → ((p : ℕ) → StillWaiting g a p ≡ StillWaiting h a p) → AreRings w h a rings → AreRings w g a rings
same_waiting w h g a rings same is = record {
  numbers = λ p. is.numbers p ∙ sym (same p);
  fits = λ p. subst (λ (xs : List ℕ). length xs ≤ capacity w a p) (sym (same p)) (is.fits p);
  apart = λ p. subst AreApart (sym (same p)) (is.apart p);
}

-- a frame entered one of another arc
pub rings_elsewhere : (w : Scenario) (h : History) (b : ℕ) (rings : Port) (e : Entry) → e.arc ≢ b → AreRings w h b rings → AreRings w (h ++ PlainEvent.enter e ∷ []) b rings
rings_elsewhere w h b rings e other is = same_waiting w h (h ++ PlainEvent.enter e ∷ []) b rings (λ p. still_elsewhere h b p e other) is

-- a frame was dropped
pub rings_dropped : (w : Scenario) (h : History) (b : ℕ) (rings : Port) (e : Entry) → AreRings w h b rings → AreRings w (h ++ PlainEvent.dropped e ∷ []) b rings
rings_dropped w h b rings e is = same_waiting w h (h ++ PlainEvent.dropped e ∷ []) b rings (λ p. still_dropped h b p e) is

-- a frame entered one of them, for the first time
pub rings_entered : (w : Scenario) (h : History) (t a : ℕ) (rings : Port) (f : FrameRef) → f.prio < length rings.frames → length (StillWaiting h a f.prio) < capacity w a f.prio
    → Every (λ (b : Begin). what_is b.what f.frame.0 ≡ false) (Begins h a) → ((p : ℕ) → Every (λ (e : RingEntry). e.frame ≢ f.frame.0) (Entries h a p)) → AreRings w h a rings
    → AreRings w (h ++ PlainEvent.enter (record { tick = t; arc = a; prio = f.prio; frame = f.frame.0 }) ∷ []) a (with_frames rings f.prio (frames_at rings f.prio ++ f ∷ []))
rings_entered w h t a rings f lt room unbegun uncome is =
    let e : Entry = record { tick = t; arc = a; prio = f.prio; frame = f.frame.0 } in
    let now : (p : ℕ) → StillWaiting (h ++ PlainEvent.enter e ∷ []) a p ≡ pushed f.prio f.frame.0 p (StillWaiting h a p) = λ p. still_pushed h a p e refl unbegun in
    record {
      numbers = λ p. numbers_push rings f p lt ∙ (ap (pushed f.prio f.frame.0 p) (is.numbers p) ∙ sym (now p));
      fits = λ p. subst (λ (xs : List ℕ). length xs ≤ capacity w a p) (sym (now p))
          (room_pushed f.prio f.frame.0 p (StillWaiting h a p) (capacity w a) (is.fits p) (λ same. subst (λ q. length (StillWaiting h a q) < capacity w a q) same room));
      apart = λ p. subst AreApart (sym (now p)) (apart_pushed f.prio f.frame.0 p (StillWaiting h a p) (is.apart p) (still_came h a p f.frame.0 (uncome p)));
    }

-- ---- all stays earlier

one_by : (t a p : ℕ) (entered : Bool) (e : Entry) → e.tick ≤ t → Every (λ (r : RingEntry). r.tick ≤ t) (cons_option (entry_of a p entered e) [])
one_by t a p entered e by = go ((e.arc == a) && (e.prio == p))
  where
    go : (b : Bool) → Every (λ (r : RingEntry). r.tick ≤ t) (cons_option (if b then Some (record { tick = e.tick; frame = e.frame; entered = entered }) else None) [])
    go true = (by, tt)
    go false = tt

pub early_entered : (t : ℕ) (h : History) (e : Entry) → e.tick ≤ t → BeforeEntries t h → BeforeEntries t (h ++ PlainEvent.enter e ∷ [])
early_entered t h e by early = record {
  begins = λ a. subst (λ bs. Every (λ (b : Begin). b.tick < t) bs) (sym (entered_begins h e a)) (early.begins a);
  entries = λ a p. subst (λ rs. Every (λ (r : RingEntry). r.tick ≤ t) rs) (sym (filter_map-append (entry_on a p) h (PlainEvent.enter e ∷ [])))
      (every-append (λ (r : RingEntry). r.tick ≤ t) (Entries h a p) (Entries (PlainEvent.enter e ∷ []) a p) (early.entries a p) (one_by t a p true e by));
}

pub early_dropped : (t : ℕ) (h : History) (e : Entry) → e.tick ≤ t → BeforeEntries t h → BeforeEntries t (h ++ PlainEvent.dropped e ∷ [])
early_dropped t h e by early = record {
  begins = λ a. subst (λ bs. Every (λ (b : Begin). b.tick < t) bs) (sym (dropped_begins h e a)) (early.begins a);
  entries = λ a p. subst (λ rs. Every (λ (r : RingEntry). r.tick ≤ t) rs) (sym (filter_map-append (entry_on a p) h (PlainEvent.dropped e ∷ [])))
      (every-append (λ (r : RingEntry). r.tick ≤ t) (Entries h a p) (Entries (PlainEvent.dropped e ∷ []) a p) (early.entries a p) (one_by t a p false e by));
}
