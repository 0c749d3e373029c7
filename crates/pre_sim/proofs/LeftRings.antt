-- The rings of an arc when an mPacket began: what still waits is what was left.
use Rattle.std.proofs.Common.{ℕ, ◌≡◌, ◌≢◌, ◌==◌, ◌&&◌, ◌||◌, ◌≤◌, not, Bool, true, false, List, [], ◌∷◌}
use Rattle.std.proofs.Common.{◌++◌, length, refl, sym, ◌∙◌, ap, inl, inr, arith, subst, map, filter}
use Rattle.std.specs.Prelude.{if◌then◌else◌}
use Rattle.std.specs.List.{list_any, AllByRecursion as Every}
use Rattle.std.proofs.Math.Path.{fun_ext}
use Rattle.std.proofs.lemmas.List.Folds.{list_any-append}
use Rattle.std.proofs.lemmas.List.Elements.{filter_map-append}
use Rattle.std.proofs.lemmas.List.{append-nil, get_or-set_other}
use Rattle.std.proofs.lemmas.Grind.{get_or-set_at}
use Rattle.std.proofs.lemmas.Bool.{cases_eq}
use Rattle.pre_base.specs.declared.numbers.FrameNo.{FrameNo}
use Rattle.pre_rings.specs.declared.slots.FrameRef.{FrameRef}
use Rattle.pre_rings.specs.Ports.{Port, IsPort, frames_at, with_frames}
use Rattle.pre_history.specs.declared.events.What.TheVariants as what
use Rattle.pre_history.specs.Scenario.{Scenario, row, capacity}
use Rattle.pre_history.specs.History.{PlainEvent, History, Begin}
use Rattle.pre_history.specs.Selected.{RingEntry, what_is, begin_on, entry_on}
use Rattle.pre_history.specs.Queries.{Begins, Entries}
use Rattle.pre_sim.specs.declared.lanes.Lane.{Lane}
use Rattle.pre_sim.specs.Keeps.{Store, Waits, LaneKeeps}
use Rattle.pre_sim.specs.Choices.{LeavesFirst}
use Rattle.pre_sim.specs.Stands.{AreApart, AreRings, ring_numbers, has_begun, StillWaiting}
use Rattle.pre_sim.proofs.Lists.{length_filter, every_filter}
use Rattle.pre_sim.proofs.NumberTests.{is_eq, not_eq}

-- ---- the numbers but one

abbrev pub but : ℕ → List ℕ → List ℕ
but k ns = filter (λ n. not (k == n)) ns

but_none : (k : ℕ) (ns : List ℕ) → Every (λ n. k ≢ n) ns → but k ns ≡ ns
but_none k [] all = refl
but_none k (n ∷ ns) (here, more) = rw (not_eq k n here) (ap (λ xs. n ∷ xs) (but_none k ns more))

-- leaving out the first number leaves those behind it
but_first : (n : ℕ) (ns : List ℕ) → AreApart (n ∷ ns) → but n (n ∷ ns) ≡ ns
but_first n ns (first, apart) = rw (is_eq n n refl) (but_none n ns first)

apart_but : (k : ℕ) (ns : List ℕ) → AreApart ns → AreApart (but k ns)
apart_but k [] apart = tt
apart_but k (n ∷ ns) (first, apart) = go (k == n) (apart_but k ns apart)
  where
    go : (b : Bool) → AreApart (but k ns) → AreApart (if not b then n ∷ but k ns else but k ns)
    go true rest = rest
    go false rest = (every_filter (λ m. n ≢ m) (λ m. not (k == m)) ns first, rest)

-- ---- the rings that a frame left

abbrev pub numbers_of : List FrameRef → List ℕ
numbers_of frames = map (λ (g : FrameRef). g.frame.0) frames

-- a frame of one priority is none of another
not_among : (w : Scenario) (store : Store) (a p q : ℕ) (f : FrameRef) → Waits w store a p f → q ≢ p → (frames : List FrameRef) → Every (Waits w store a q) frames
    → Every (λ n. f.frame.0 ≢ n) (numbers_of frames)
not_among w store a p q f is other [] all = tt
not_among w store a p q f is other (g ∷ gs) (here, more) =
    (λ same. other (sym here.ring ∙ (here.frame.prio ∙ (ap (λ n. (row w n).prio) (sym same) ∙ (sym is.frame.prio ∙ is.ring)))), not_among w store a p q f is other gs more)

-- all that waited but the frame still waits
left_numbers : (w : Scenario) (store : Store) (a : ℕ) (rings : Port) → IsPort rings → ((p : ℕ) → Every (Waits w store a p) (frames_at rings p)) → ((p : ℕ) → AreApart (ring_numbers rings p))
    → (prio : ℕ) (f : FrameRef) (behind : List FrameRef) → prio ≤ 7 → frames_at rings prio ≡ f ∷ behind → (q : ℕ)
    → ring_numbers (with_frames rings prio behind) q ≡ but f.frame.0 (ring_numbers rings q)
left_numbers w store a rings eight waiting apart prio f behind most front q = elim (cases_eq q prio) [
  | inl same ↦
      let before : ring_numbers rings q ≡ f.frame.0 ∷ numbers_of behind = ap (ring_numbers rings) same ∙ ap numbers_of front in
      let now : frames_at (with_frames rings prio behind) q ≡ behind = get_or-set_at rings.frames prio q behind [] same (omega (arith, eight.0, most)) in
      ap numbers_of now ∙ sym (ap (but f.frame.0) before ∙ but_first f.frame.0 (numbers_of behind) (subst AreApart before (apart q)))
  | inr other ↦
      let now : frames_at (with_frames rings prio behind) q ≡ frames_at rings q = get_or-set_other rings.frames prio q behind [] other in
      let its : Waits w store a prio f = (subst (Every (Waits w store a prio)) front (waiting prio)).0 in
      ap numbers_of now ∙ sym (but_none f.frame.0 (ring_numbers rings q) (not_among w store a prio q f its other (frames_at rings q) (waiting q)))
]

-- ---- what still waits

-- the numbers of the frames that entered and haven't begun
abbrev waits_by : (ℕ → Bool) → List RingEntry → List ℕ
waits_by begun es = map (λ (e : RingEntry). e.frame) (filter (λ (e : RingEntry). e.entered && not (begun e.frame)) es)

-- where one more has begun, it is left out
thinner : (k : ℕ) (begun : ℕ → Bool) (es : List RingEntry) → waits_by (λ f. begun f || (k == f)) es ≡ but k (waits_by begun es)
thinner k begun [] = refl
thinner k begun (e ∷ es) = go e.entered (begun e.frame) (k == e.frame) refl refl refl (thinner k begun es)
  where
    go : (x y z : Bool) → e.entered ≡ x → begun e.frame ≡ y → (k == e.frame) ≡ z → waits_by (λ f. begun f || (k == f)) es ≡ but k (waits_by begun es)
        → waits_by (λ f. begun f || (k == f)) (e ∷ es) ≡ but k (waits_by begun (e ∷ es))
    go true true z p q r rest = rw (p, q) rest
    go true false true p q r rest = rw (p, q, r) rest
    go true false false p q r rest = rw (p, q, r) (ap (λ xs. e.frame ∷ xs) rest)
    go false y z p q r rest = rw p rest

module _ (h : History) (a : ℕ) (b : Begin) (on : b.arc ≡ a) where
  pub one_more_begins : Begins (h ++ PlainEvent.begin b ∷ []) a ≡ Begins h a ++ b ∷ []
  one_more_begins = let test : (b.arc == a) ≡ true = is_eq b.arc a on in filter_map-append (begin_on a) h (PlainEvent.begin b ∷ []) ∙ ap (λ xs. Begins h a ++ xs) (rw test refl)

  entries_same : (p : ℕ) → Entries (h ++ PlainEvent.begin b ∷ []) a p ≡ Entries h a p
  entries_same p = filter_map-append (entry_on a p) h (PlainEvent.begin b ∷ []) ∙ append-nil (Entries h a p)

  -- whether it is the first octet of a frame that begins
  abbrev is_first : ℕ → Bool
  is_first f = what_is b.what f && (b.from == 0)

  begun_with : (f : ℕ) → has_begun (h ++ PlainEvent.begin b ∷ []) a f ≡ (has_begun h a f || is_first f)
  begun_with f =
      ap (list_any (λ (x : Begin). what_is x.what f && (x.from == 0))) one_more_begins
      ∙ (list_any-append (λ (x : Begin). what_is x.what f && (x.from == 0)) (Begins h a) (b ∷ []) ∙ ap (λ y. has_begun h a f || y) (or_no (is_first f)))
    where
      or_no : (x : Bool) → (x || false) ≡ x
      or_no true = refl
      or_no false = refl

  -- by whether each frame has begun then
  waits_then : (begun : ℕ → Bool) → ((f : ℕ) → has_begun (h ++ PlainEvent.begin b ∷ []) a f ≡ begun f) → (p : ℕ) → StillWaiting (h ++ PlainEvent.begin b ∷ []) a p ≡ waits_by begun (Entries h a p)
  unfolding StillWaiting
  waits_then begun are p = ap (λ (x : ℕ → Bool). waits_by x (Entries (h ++ PlainEvent.begin b ∷ []) a p)) (fun_ext are) ∙ ap (waits_by begun) (entries_same p)

  -- where no first octet of a frame begins, all goes on waiting
  still_all : ((f : ℕ) → is_first f ≡ false) → (p : ℕ) → StillWaiting (h ++ PlainEvent.begin b ∷ []) a p ≡ StillWaiting h a p
  unfolding StillWaiting
  still_all none p = waits_then (has_begun h a) (λ f. begun_with f ∙ (ap (λ y. has_begun h a f || y) (none f) ∙ or_no (has_begun h a f))) p
    where
      or_no : (x : Bool) → (x || false) ≡ x
      or_no true = refl
      or_no false = refl

  -- and where that of a frame does, all but that frame
  still_but : (k : FrameNo) → b.what ≡ what.Frame k → b.from ≡ 0 → (p : ℕ) → StillWaiting (h ++ PlainEvent.begin b ∷ []) a p ≡ but k.0 (StillWaiting h a p)
  unfolding StillWaiting
  still_but k is from p = waits_then (λ f. has_begun h a f || (k.0 == f)) (λ f. begun_with f ∙ ap (λ y. has_begun h a f || y) (first_is f)) p ∙ thinner k.0 (has_begun h a) (Entries h a p)
    where
      and_yes : (x : Bool) → (x && true) ≡ x
      and_yes true = refl
      and_yes false = refl

      first_is : (f : ℕ) → is_first f ≡ (k.0 == f)
      first_is f = ap (λ y. what_is y f && (b.from == 0)) is ∙ (ap (λ n. (k.0 == f) && (n == 0)) from ∙ and_yes (k.0 == f))

  module _ (w : Scenario) where
    -- the rings stay where no first octet of a frame begins
    pub rings_stay : (rings : Port) → ((f : ℕ) → (what_is b.what f && (b.from == 0)) ≡ false) → AreRings w h a rings → AreRings w (h ++ PlainEvent.begin b ∷ []) a rings
    rings_stay rings none are = record {
      numbers = λ p. are.numbers p ∙ sym (still_all none p);
      fits = λ p. subst (λ (ns : List ℕ). length ns ≤ capacity w a p) (sym (still_all none p)) (are.fits p);
      apart = λ p. subst AreApart (sym (still_all none p)) (are.apart p);
    }

    -- and a frame that begins has left them
    pub rings_left : (store : Store) (lane : Lane) (left : Port) (least greatest : ℕ) (f : FrameRef) → greatest ≤ 7 → LaneKeeps w store a lane → LeavesFirst least greatest lane.rings left f
        → b.what ≡ what.Frame f.frame → b.from ≡ 0 → AreRings w h a lane.rings → AreRings w (h ++ PlainEvent.begin b ∷ []) a left
    rings_left store lane left least greatest f few keeps leaves is from are =
        let apart : (p : ℕ) → AreApart (ring_numbers lane.rings p) = λ p. subst AreApart (sym (are.numbers p)) (are.apart p) in
        let left_are : (p : ℕ) → ring_numbers left p ≡ but f.frame.0 (ring_numbers lane.rings p) =
        λ p. ap (λ (r : Port). ring_numbers r p) leaves.left ∙ left_numbers w store a lane.rings keeps.eight keeps.waiting apart leaves.prio f leaves.behind
        (omega (arith, leaves.most, few)) leaves.front p in
        let still : (p : ℕ) → StillWaiting (h ++ PlainEvent.begin b ∷ []) a p ≡ but f.frame.0 (StillWaiting h a p) = still_but f.frame is from in
        record {
          numbers = λ p. left_are p ∙ (ap (but f.frame.0) (are.numbers p) ∙ sym (still p));
          fits = λ p. subst (λ (ns : List ℕ). length ns ≤ capacity w a p) (sym (still p)) (omega (arith, length_filter (λ n. not (f.frame.0 == n)) (StillWaiting h a p), are.fits p));
          apart = λ p. subst AreApart (sym (still p)) (apart_but f.frame.0 (StillWaiting h a p) (are.apart p));
        }
