-- A legal history as an arc's traffic.
use Rattle.std.proofs.Common.{ℕ, zero, suc, Bool, true, false, ◌==◌, nat_lt, ◌||◌, ◌≡◌, ◌≢◌, ◌⊎◌, ◌+◌, ◌-◌}
use Rattle.std.proofs.Common.{◌*◌, ◌<◌, ◌≤◌, List, [], ◌∷◌, ◌++◌, length, map, filter, refl, sym, ◌∙◌, ap, inl, inr}
use Rattle.std.proofs.Common.{arith, subst, Some}
use Rattle.std.specs.Prelude.{slice_get, ⊤, if◌then◌else◌, ◌&&◌, MatchOption}
use Rattle.std.specs.List.{AllByRecursion as Every, list_any}
use Rattle.std.proofs.lemmas.Bool.{cases_lt, cases_Bool, and_parts, and_from, lt-ltb}
use Rattle.std.proofs.lemmas.Bool.Decides.{nat_tests}
use Rattle.pre_base.specs.declared.numbers.FrameNo.{FrameNo}
use Rattle.pre_mpacket.specs.declared.packets.Kind.{Kind}
use Rattle.pre_mpacket.specs.declared.packets.Kind.TheVariants as kind
use Rattle.pre_history.specs.declared.events.What.{What}
use Rattle.pre_history.specs.declared.events.What.TheVariants as what
use Rattle.pre_history.specs.Scenario.{Scenario, arc, row, FrameOf}
use Rattle.pre_history.specs.History.{Begin, History}
use Rattle.pre_history.specs.Placed.{number}
use Rattle.pre_history.specs.Selected.{RingEntry, frame_number, what_is}
use Rattle.pre_history.specs.Queries.{Packets, packet, end_of, Begins, Ends, Entries, Waiting, Occupied, IsUnderWay, begun_before}
use Rattle.pre_history.specs.Octets.{WholeOf, whole_of}
use Rattle.pre_history.specs.Starts.{SizeOf}
use Rattle.pre_history.specs.Legal.{LegalUpTo}
use Rattle.pre_history.proofs.Lists.{every_at, within, there, found_at}
use Rattle.pre_history.proofs.Sizes.{size_one}
use Rattle.pre_history.proofs.Decided.{size_found}
use Rattle.pre_history.proofs.Free.{begins_before, first_numbered}
use Rattle.pre_history.proofs.LaterEnds.{packet_back}
use Rattle.pre_history.proofs.InOrder.{steady}
use Rattle.pre_history.proofs.Chosen.{from_map, into_map}
use Rattle.pre_history.proofs.Placing.{placed, begins_arc}
use Rattle.pre_history.proofs.Steady.{costs}
use Rattle.pre_history.proofs.NatTests.{is_eq}
use Rattle.pre_delay.proofs.Arcs.{Served, Queued, Traffic, Some_of, InLine, FreeAt, Mine, BegunBefore, WaitsAt, MineWaits, EnteredFor, Serves}
use Rattle.pre_delay.proofs.Rings.{EntryWaits, front_of_ring, ring_waits, entries_prio}
use Rattle.pre_delay.proofs.Begun.{express_starts, front_high, has_ended}
use Rattle.pre_delay.proofs.Sent.{express_begins, FromFront, front_prio}

-- ---- the instance

pub sized : (w : Scenario) (h : History) (b : Begin) (k : Kind) → (size : ℕ) × SizeOf w h k b size
sized w h b (kind.Start c) = size_found w h b
sized w h b (kind.Continue c n) = size_found w h b
sized w h b kind.Express = (length (WholeOf w h b), refl)
sized w h b kind.Verify = (length (WholeOf w h b), refl)
sized w h b kind.Respond = (length (WholeOf w h b), refl)

abbrev pub rank_of : Scenario → What → ℕ
rank_of w (what.Frame f) = suc ((row w f.0).prio)
rank_of w what.Lldp = 0
rank_of w what.Nothing = 0

abbrev pub size_of : Scenario → History → Begin → ℕ
size_of w h b = (sized w h b b.kind).0

abbrev pub as_sent : Scenario → History → Begin → Served
as_sent w h b = record { begin = b.tick; wire = size_of w h b + 20; frame = frame_number b.what; rank = rank_of w b.what }

abbrev pub as_queued : Scenario → RingEntry → Queued
as_queued w r = record { tick = r.tick; frame = r.frame; octets = length (FrameOf w r.frame) + 20 }

abbrev pub queued : Scenario → History → ℕ → ℕ → List Queued
queued w h a q = map (as_queued w) (filter (λ r. r.entered) (Entries h a q))

abbrev pub above : Scenario → History → ℕ → ℕ → ℕ → List Queued
above w h a p zero = []
above w h a p (suc k) = above w h a p k ++ queued w h a (p + 1 + k)

abbrev pub traffic : Scenario → History → ℕ → ℕ → Traffic
traffic w h a p = record {
  cost = (arc w a).cost;
  served = map (as_sent w h) (Begins h a);
  is_own = λ s. s.rank == suc p;
  is_higher = λ s. nat_lt (suc p) s.rank;
  own = queued w h a p;
  higher = above w h a p (7 - p);
}

-- ---- lists

pub every-map : {X Y : Type 0} (g : X → Y) (P : Y → Type 0) (xs : List X) → ((i : ℕ) (x : X) → slice_get xs i ≡ Some x → P (g x)) → Every P (map g xs)
every-map g P [] h = tt
every-map g P (x ∷ xs) h = (h 0 x refl, every-map g P xs (λ i y at. h (suc i) y at))

pub some-map : {X Y : Type 0} (g : X → Y) (P : Y → Type 0) (xs : List X) (i : ℕ) (x : X) → slice_get xs i ≡ Some x → P (g x) → Some_of P (map g xs)
some-map g P [] i x at p = absurd (cc at)
some-map g P (y ∷ xs) zero x at p = let same : x ≡ y = cc at in inl (subst (λ z. P (g z)) same p)
some-map g P (y ∷ xs) (suc i) x at p = inr (some-map g P xs i x at p)

pub map-some : {X Y : Type 0} (g : X → Y) (P : Y → Type 0) (xs : List X) → Some_of P (map g xs) → (i : ℕ) × (x : X) × (slice_get xs i ≡ Some x) × P (g x)
map-some g P [] some = absurd some
map-some g P (x ∷ xs) (inl here) = (0, x, refl, here)
map-some g P (x ∷ xs) (inr there') = let o = map-some g P xs there' in (suc o.0, o.1, o.2, o.3)

some-left : {X : Type 0} (P : X → Type 0) (xs ys : List X) → Some_of P xs → Some_of P (xs ++ ys)
some-left P [] ys some = absurd some
some-left P (x ∷ xs) ys (inl here) = inl here
some-left P (x ∷ xs) ys (inr there') = inr (some-left P xs ys there')

some-right : {X : Type 0} (P : X → Type 0) (xs ys : List X) → Some_of P ys → Some_of P (xs ++ ys)
some-right P [] ys some = some
some-right P (x ∷ xs) ys some = inr (some-right P xs ys some)

some-either : {X : Type 0} (P : X → Type 0) (xs ys : List X) → Some_of P (xs ++ ys) → Some_of P xs ⊎ Some_of P ys
some-either P [] ys some = inr some
some-either P (x ∷ xs) ys (inl here) = inl (inl here)
some-either P (x ∷ xs) ys (inr there') = elim (some-either P xs ys there') [ inl l ↦ inl (inr l) | inr r ↦ inr r ]

line-from : (cost : ℕ) (ss : List Served) → ((i : ℕ) (s r : Served) → slice_get ss i ≡ Some s → slice_get ss (suc i) ≡ Some r → s.begin + cost * s.wire ≤ r.begin) → InLine cost ss
line-from cost [] h = tt
line-from cost (s ∷ []) h = (tt, tt)
line-from cost (s ∷ (r ∷ rs)) h =
    let rest = line-from cost (r ∷ rs) (λ i x y at next. h (suc i) x y at next) in
    let first = h 0 s r refl refl in
    ((first, farther first rs rest.0), rest)
  where
    farther : s.begin + cost * s.wire ≤ r.begin → (xs : List Served) → Every (λ x. r.begin + cost * r.wire ≤ x.begin) xs → Every (λ x. s.begin + cost * s.wire ≤ x.begin) xs
    farther first [] e = tt
    farther first (x ∷ xs) e = (omega (arith, e.0), farther first xs e.1)

-- an entry of a ring among what is queued
pub into-queue : (w : Scenario) (h : History) (a q : ℕ) (P : Queued → Type 0) (j : ℕ) (r : RingEntry) → slice_get (Entries h a q) j ≡ Some r → r.entered ≡ true → P (as_queued w r) → Some_of P (queued w h a q)
into-queue w h a q P j r at entered p = go (Entries h a q) j at
  where
    go : (rs : List RingEntry) (j : ℕ) → slice_get rs j ≡ Some r → Some_of P (map (as_queued w) (filter (λ x. x.entered) rs))
    go [] j at = absurd (cc at)
    go (x ∷ rs) zero at =
        let same : r ≡ x = cc at in
        let on : x.entered ≡ true = ap (λ (y : RingEntry). y.entered) (sym same) ∙ entered in
        subst (λ b. Some_of P (map (as_queued w) (if b then x ∷ filter (λ y. y.entered) rs else filter (λ y. y.entered) rs))) (sym on) (inl (subst (λ y. P (as_queued w y)) same p))
    go (x ∷ rs) (suc j) at =
        elim (x.entered) as (λ b. Some_of P (map (as_queued w) (if b then x ∷ filter (λ y. y.entered) rs else filter (λ y. y.entered) rs))) [
          | true ↦ inr (go rs j at)
          | false ↦ go rs j at
        ]

pub from-queue : (w : Scenario) (h : History) (a q : ℕ) (P : Queued → Type 0) → Some_of P (queued w h a q) → (j : ℕ) × (r : RingEntry) × (slice_get (Entries h a q) j ≡ Some r) × (r.entered ≡ true) × P (as_queued w r)
from-queue w h a q P some = go (Entries h a q) some
  where
    go : (rs : List RingEntry) → Some_of P (map (as_queued w) (filter (λ x. x.entered) rs)) → (j : ℕ) × (r : RingEntry) × (slice_get rs j ≡ Some r) × (r.entered ≡ true) × P (as_queued w r)
    go [] some = absurd some
    go (x ∷ rs) some = by (x.entered) refl some (λ s. let o = go rs s in (suc o.0, o.1, o.2, o.3, o.4))
      where
        by : (b : Bool) → x.entered ≡ b → Some_of P (map (as_queued w) (if b then x ∷ filter (λ y. y.entered) rs else filter (λ y. y.entered) rs))
            → (Some_of P (map (as_queued w) (filter (λ y. y.entered) rs)) → (j : ℕ) × (r : RingEntry) × (slice_get (x ∷ rs) j ≡ Some r) × (r.entered ≡ true) × P (as_queued w r))
            → (j : ℕ) × (r : RingEntry) × (slice_get (x ∷ rs) j ≡ Some r) × (r.entered ≡ true) × P (as_queued w r)
        by true on (inl here) more = (0, x, refl, on, here)
        by true on (inr later) more = more later
        by false off some more = more some

pub every-queue : (w : Scenario) (h : History) (a q : ℕ) (P : Queued → Type 0) → ((j : ℕ) (r : RingEntry) → slice_get (Entries h a q) j ≡ Some r → r.entered ≡ true → P (as_queued w r)) → Every P (queued w h a q)
every-queue w h a q P says = go (Entries h a q) says
  where
    go : (rs : List RingEntry) → ((j : ℕ) (r : RingEntry) → slice_get rs j ≡ Some r → r.entered ≡ true → P (as_queued w r)) → Every P (map (as_queued w) (filter (λ x. x.entered) rs))
    go [] says = tt
    go (x ∷ rs) says = by (x.entered) refl (go rs (λ j r at. says (suc j) r at))
      where
        by : (b : Bool) → x.entered ≡ b → Every P (map (as_queued w) (filter (λ y. y.entered) rs)) → Every P (map (as_queued w) (if b then x ∷ filter (λ y. y.entered) rs else filter (λ y. y.entered) rs))
        by true on more = (says 0 x refl on, more)
        by false off more = more

into-above : (w : Scenario) (h : History) (a p : ℕ) (P : Queued → Type 0) (n k : ℕ) → k < n → Some_of P (queued w h a (p + 1 + k)) → Some_of P (above w h a p n)
into-above w h a p P zero k lt some = absurd (omega arith)
into-above w h a p P (suc n) k lt some =
    elim (cases_lt k n) [
      | inl less ↦ some-left P (above w h a p n) (queued w h a (p + 1 + n)) (into-above w h a p P n k less some)
      | inr more ↦ let e : k ≡ n = omega arith in some-right P (above w h a p n) (queued w h a (p + 1 + n)) (subst (λ m. Some_of P (queued w h a (p + 1 + m))) e some)
    ]

pub from-above : (w : Scenario) (h : History) (a p : ℕ) (P : Queued → Type 0) (n : ℕ) → Some_of P (above w h a p n) → (k : ℕ) × (k < n) × Some_of P (queued w h a (p + 1 + k))
from-above w h a p P zero some = absurd some
from-above w h a p P (suc n) some =
    elim (some-either P (above w h a p n) (queued w h a (p + 1 + n)) some) [
      | inl before ↦ let o = from-above w h a p P n before in (o.0, omega (arith, o.1), o.2)
      | inr last ↦ (n, omega arith, last)
    ]

-- ---- the rules

yes_is : (m n : ℕ) → (m == n) ≡ true → m ≡ n
yes_is m n e = grind (arith, nat_tests)

yes_lt : (m n : ℕ) → nat_lt m n ≡ true → m < n
yes_lt m n e = grind (arith, nat_tests)

-- what begun_before says
pub begun-some : (h : History) (a t f : ℕ) → begun_before h a t f ≡ true → (i : ℕ) × (b : Begin) × (slice_get (Begins h a) i ≡ Some b) × (b.tick < t) × (what_is b.what f ≡ true)
begun-some h a t f yes' = go (Begins h a) yes'
  where
    go : (bs : List Begin) → list_any (λ b. nat_lt b.tick t && what_is b.what f && (b.from == 0)) bs ≡ true → (i : ℕ) × (b : Begin) × (slice_get bs i ≡ Some b) × (b.tick < t) × (what_is b.what f ≡ true)
    go [] yes' = absurd (cc yes')
    go (b ∷ bs) yes' = by (nat_lt b.tick t && what_is b.what f && (b.from == 0)) refl yes' (λ e. let o = go bs e in (suc o.0, o.1, o.2, o.3, o.4))
      where
        by : (c : Bool) → (nat_lt b.tick t && what_is b.what f && (b.from == 0)) ≡ c → (c || list_any (λ x. nat_lt x.tick t && what_is x.what f && (x.from == 0)) bs) ≡ true
            → (list_any (λ x. nat_lt x.tick t && what_is x.what f && (x.from == 0)) bs ≡ true → (i : ℕ) × (x : Begin) × (slice_get (b ∷ bs) i ≡ Some x) × (x.tick < t) × (what_is x.what f ≡ true))
            → (i : ℕ) × (x : Begin) × (slice_get (b ∷ bs) i ≡ Some x) × (x.tick < t) × (what_is x.what f ≡ true)
        by true on yes' more =
            let outer = and_parts (nat_lt b.tick t && what_is b.what f) (b.from == 0) on in
            let inner = and_parts (nat_lt b.tick t) (what_is b.what f) outer.0 in
            (0, b, refl, yes_lt b.tick t inner.0, inner.1)
        by false off yes' more = more yes'

pub some-begun : (h : History) (a t f i : ℕ) (b : Begin) → slice_get (Begins h a) i ≡ Some b → b.tick < t → what_is b.what f ≡ true → b.from ≡ 0 → begun_before h a t f ≡ true
some-begun h a t f i b at early on from = go (Begins h a) i at
  where
    here : (nat_lt b.tick t && what_is b.what f && (b.from == 0)) ≡ true
    here = and_from (nat_lt b.tick t && what_is b.what f) (b.from == 0) (and_from (nat_lt b.tick t) (what_is b.what f) (lt-ltb b.tick t early) on) (is_eq b.from 0 from)

    go : (bs : List Begin) (i : ℕ) → slice_get bs i ≡ Some b → list_any (λ x. nat_lt x.tick t && what_is x.what f && (x.from == 0)) bs ≡ true
    go [] i at = absurd (cc at)
    go (c ∷ bs) zero at =
        let same : b ≡ c = cc at in
        subst (λ (x : Begin). ((nat_lt x.tick t && what_is x.what f && (x.from == 0)) || list_any (λ y. nat_lt y.tick t && what_is y.what f && (y.from == 0)) bs) ≡ true) same (ap (λ x. x || list_any (λ y. nat_lt y.tick t && what_is y.what f && (y.from == 0)) bs) here)
    go (c ∷ bs) (suc i) at = right (nat_lt c.tick t && what_is c.what f && (c.from == 0)) (list_any (λ y. nat_lt y.tick t && what_is y.what f && (y.from == 0)) bs) (go bs i at)
      where
        right : (x y : Bool) → y ≡ true → (x || y) ≡ true
        right true y e = refl
        right false y e = e

pub what-frame : (x : What) (f : ℕ) → what_is x f ≡ true → x ≡ what.Frame (record { 0 = f })
what-frame (what.Frame g) f yes' = let e = yes_is g.0 f yes' in ap (λ n. what.Frame (record { 0 = n })) e
what-frame what.Lldp f yes' = absurd (cc yes')
what-frame what.Nothing f yes' = absurd (cc yes')

pub frame-what : (w : Scenario) (x : What) (k : ℕ) → rank_of w x ≡ suc k → (f : FrameNo) × (x ≡ what.Frame f) × ((row w f.0).prio ≡ k)
frame-what w (what.Frame f) k e = (f, refl, omega arith)
frame-what w what.Lldp k e = absurd (omega arith)
frame-what w what.Nothing k e = absurd (omega arith)

-- what has a rank above the port's is the port's, or above it
pub ranked_mine : (w : Scenario) (h : History) (a p : ℕ) (b : Begin) (k : ℕ) → rank_of w b.what ≡ k → suc p ≤ k → Mine (traffic w h a p) (as_sent w h b)
ranked_mine w h a p b k is more = elim (cases_lt (suc p) k) [
  | inl above' ↦ inr (lt-ltb (suc p) (rank_of w b.what) (omega arith))
  | inr same ↦ inl (is_eq (rank_of w b.what) (suc p) (omega arith))
]

-- the mPackets of an arc are in line
pub sent-line : (w : Scenario) (n : ℕ) (h : History) (a : ℕ) → a < length w.net.arcs → LegalUpTo w n h → InLine (arc w a).cost (map (as_sent w h) (Begins h a))
sent-line w n h a lt legal = line-from (arc w a).cost (map (as_sent w h) (Begins h a)) (λ i s r at next. adjacent i s r at next)
  where
    back : (i : ℕ) (s : Served) → slice_get (map (as_sent w h) (Begins h a)) i ≡ Some s → (b : Begin) × (slice_get (Begins h a) i ≡ Some b) × (as_sent w h b ≡ s)
    back i s at = let o = from_map (as_sent w h) (Begins h a) i s at in (o.0, o.1, o.2)

    adjacent : (i : ℕ) (s r : Served) → slice_get (map (as_sent w h) (Begins h a)) i ≡ Some s → slice_get (map (as_sent w h) (Begins h a)) (suc i) ≡ Some r → s.begin + (arc w a).cost * s.wire ≤ r.begin
    adjacent i s r at next =
        let b = back i s at in
        let c = back (suc i) r next in
        let o = (steady w n h a lt legal).ordered in
        let second = within (Begins h a) (suc i) c.0 c.1 in
        let e = there (Ends h a) i (omega (arith, o.few_open, second)) in
        let apart = o.apart i e.0 c.0 e.1 c.1 in
        let spans = o.spans i b.0 e.0 b.1 e.1 in
        let one : size_of w h b.0 ≡ e.0.size = size_one w h b.0.kind b.0 (size_of w h b.0) e.0.size (sized w h b.0 b.0.kind).1 ((steady w n h a lt legal).sizes i b.0 e.0 b.1 e.1) in
        subst (λ x. x.begin + (arc w a).cost * x.wire ≤ r.begin) b.2 (subst (λ x. b.0.tick + (arc w a).cost * (size_of w h b.0 + 20) ≤ x.begin) c.2
        (let product : (arc w a).cost * (size_of w h b.0 + 20) ≡ (arc w a).cost * (e.0.size + 20) = ap (λ k. (arc w a).cost * (k + 20)) one in omega (arith, apart, spans, product)))

module _ (w : Scenario) (n : ℕ) (h : History) (a p done : ℕ) (lt : a < length w.net.arcs) (legal : LegalUpTo w n h) (high : (arc w a).express_from ≤ p) (top : p < 8)
    (from_reach : (x : ℕ) → x < done → number (length w.net.arcs) x (2 + 3 * length w.net.arcs + a) < n) (to_reach : (x : ℕ) → number (length w.net.arcs) x (2 + 3 * length w.net.arcs + a) < n → x < done) where
  abbrev l : Traffic
  l = traffic w h a p

  arc_of : (i : ℕ) (b : Begin) → slice_get (Begins h a) i ≡ Some b → b.arc ≡ a
  arc_of i b at = every_at (λ (x : Begin). x.arc ≡ a) (Begins h a) i b (begins_arc h a) at

  -- one of mine carries a frame of a priority from the port's on
  pub mine-frame : (b : Begin) → Mine l (as_sent w h b) → (f : FrameNo) × (b.what ≡ what.Frame f) × (p ≤ (row w f.0).prio) × (as_sent w h b).frame ≡ f.0
  mine-frame b mine = elim mine [
    | inl own ↦ let o = frame-what w b.what p (yes_is (rank_of w b.what) (suc p) own) in (o.0, o.1, omega (arith, o.2), ap frame_number o.1)
    | inr higher ↦
        let more = yes_lt (suc p) (rank_of w b.what) higher in
        let o = frame-what w b.what (rank_of w b.what - 1) (omega arith) in
        (o.0, o.1, omega (arith, o.2), ap frame_number o.1)
  ]

  serves-begun : Every (λ s. s.begin < done) l.served
  serves-begun = every-map (as_sent w h) (λ s. s.begin < done) (Begins h a) (λ i b at.
      let A = length w.net.arcs in
      let before = every_at (λ (x : Begin). (x.arc ≡ a) × (number A x.tick (2 + 3 * A + a) < n)) (Begins h a) i b (begins_before A n a h (placed w n h legal)) at in
      to_reach b.tick before.1)

  serves-line : InLine l.cost l.served
  serves-line = sent-line w n h a lt legal

  -- an arc on which none is under way isn't occupied
  free-occupied : (x : ℕ) → x < done → FreeAt l.cost l.served x → ¬ Occupied w h a x
  free-occupied x le free (i, packet', inside, at, held) =
      let back = packet_back h a i packet' (found_at (Packets h a) i packet' inside at) in
      let b = back.0 in
      let o = (steady w n h a lt legal).ordered in
      let under : IsUnderWay w h a x (packet h a b) = subst (IsUnderWay w h a x) (sym back.2) held in
      let on = arc_of i b back.1 in
      let over : b.tick + (arc w a).cost * (size_of w h b + 20) ≤ x =
      elim (every_at (λ s. (x ≤ s.begin) ⊎ (s.begin + (arc w a).cost * s.wire ≤ x)) (map (as_sent w h) (Begins h a)) i (as_sent w h b) free (into_map (as_sent w h) (Begins h a) i b back.1)) [
        | inl early ↦ absurd (omega (arith, early, under.0))
        | inr over ↦ over
      ]
      in
      let soon : b.tick + (arc w a).cost * (size_of w h b + 8) < done = omega (arith, over) in
      let told = from_reach (b.tick + (arc w a).cost * (size_of w h b + 8)) soon in
      let ended = has_ended w n h a i (size_of w h b) b lt legal back.1 (sized w h b b.kind).1 (omega (arith, told)) in
      let e = there (Ends h a) i ended in
      let spans = o.spans i b e.0 back.1 e.1 in
      let one : size_of w h b ≡ e.0.size = size_one w h b.kind b (size_of w h b) e.0.size (sized w h b b.kind).1 ((steady w n h a lt legal).sizes i b e.0 back.1 e.1) in
      let product : (arc w a).cost * (size_of w h b + 20) ≡ (arc w a).cost * (e.0.size + 20) = ap (λ k. (arc w a).cost * (k + 20)) one in
      let found : end_of h a b.ord ≡ Some e.0 = first_numbered (Ends h a) 0 i b.ord (omega (arith, o.begin_places i b back.1)) (λ j d here. let is = o.end_places j d here in omega (arith, is)) ∙ e.1 in
      let late : x < e.0.tick + 12 * (arc w a).cost = subst (λ y. MatchOption y ⊤ (λ d. x < d.tick + 12 * (arc w a).cost)) found under.1 in
      absurd (omega (arith, late, spans, product, over))

  -- how one of mine was sent
  pub mine-sent : (i : ℕ) (b : Begin) → slice_get (Begins h a) i ≡ Some b → Mine l (as_sent w h b) → (f : FrameNo) × (b.what ≡ what.Frame f) × FromFront w h a b f.0
  mine-sent i b at mine = let o = mine-frame b mine in (o.0, o.1, express_begins w n h a i b o.0 lt legal at o.1 (omega (arith, o.2)))

  pub wire-is : (b : Begin) (f : FrameNo) → b.what ≡ what.Frame f → b.kind ≡ kind.Express → size_of w h b ≡ length (FrameOf w f.0)
  wire-is b f is k =
      let whole : size_of w h b ≡ length (WholeOf w h b) = subst (λ j. SizeOf w h j b (size_of w h b)) k (sized w h b b.kind).1 in
      whole ∙ ap (λ x. length (whole_of w h b x)) is

  entered : (i : ℕ) (b : Begin) (f : FrameNo) (q : ℕ) → b.what ≡ what.Frame f → FromFront w h a b f.0 → (row w f.0).prio ≡ q → EnteredFor l (queued w h a q) (as_sent w h b)
  entered i b f q is front ring =
      let fe = front_of_ring w n h a q b.tick f.0 front.behind legal (ap (λ k. Waiting h a k b.tick) (sym ring) ∙ front.waits) in
      let wire = wire-is b f is front.kind in
      let octets : length (FrameOf w fe.entry.frame) ≡ length (FrameOf w f.0) = ap (λ k. length (FrameOf w k)) fe.is in
      into-queue w h a q (λ q. (q.frame ≡ (as_sent w h b).frame) × ((as_sent w h b).wire ≤ q.octets) × (q.tick ≤ (as_sent w h b).begin)) fe.place fe.entry fe.at fe.waits.entered
      (fe.is ∙ sym (ap frame_number is), omega (arith, wire, octets), fe.waits.by)

  serves-own : Every (λ s. l.is_own s ≡ true → EnteredFor l l.own s) l.served
  serves-own = every-map (as_sent w h) (λ s. l.is_own s ≡ true → EnteredFor l l.own s) (Begins h a) (λ i b at own.
      let o = mine-sent i b at (inl own) in
      let rank = yes_is (rank_of w b.what) (suc p) own in
      let same : rank_of w b.what ≡ suc ((row w o.0.0).prio) = ap (rank_of w) o.1 in
      entered i b o.0 p o.1 o.2 (omega (arith, rank, same)))

  serves-higher : Every (λ s. l.is_higher s ≡ true → EnteredFor l l.higher s) l.served
  serves-higher = every-map (as_sent w h) (λ s. l.is_higher s ≡ true → EnteredFor l l.higher s) (Begins h a) (λ i b at higher.
      let o = mine-sent i b at (inr higher) in
      let more = yes_lt (suc p) (rank_of w b.what) higher in
      let same : rank_of w b.what ≡ suc ((row w o.0.0).prio) = ap (rank_of w) o.1 in
      let q = (row w o.0.0).prio in
      let here : EnteredFor l (queued w h a q) (as_sent w h b) = entered i b o.0 q o.1 o.2 refl in
      let place : q ≡ p + 1 + (q - (p + 1)) = omega (arith, more, same) in
      into-above w h a p (λ r. (r.frame ≡ (as_sent w h b).frame) × ((as_sent w h b).wire ≤ r.octets) × (r.tick ≤ (as_sent w h b).begin)) (7 - p) (q - (p + 1)) (omega (arith, o.2.below, more, same))
      (subst (λ k. EnteredFor l (queued w h a k) (as_sent w h b)) place here))

  serves-once : Every (λ s. Mine l s → ¬ BegunBefore l s.begin s.frame) l.served
  serves-once = every-map (as_sent w h) (λ s. Mine l s → ¬ BegunBefore l s.begin s.frame) (Begins h a) (λ i b at mine begun. once i b at mine begun)
    where
      once : (i : ℕ) (b : Begin) → slice_get (Begins h a) i ≡ Some b → Mine l (as_sent w h b) → ¬ BegunBefore l b.tick (frame_number b.what)
      once i b at mine begun =
          let o = mine-sent i b at mine in
          let m = map-some (as_sent w h) (λ s. (s.begin < b.tick) × (s.frame ≡ frame_number b.what) × Mine l s) (Begins h a) begun in
          let c = m.1 in
          let g = mine-sent m.0 c m.2 m.3.2 in
          let fe = front_of_ring w n h a ((row w o.0.0).prio) b.tick o.0.0 o.2.behind legal o.2.waits in
          let frames : g.0.0 ≡ fe.entry.frame = sym (ap frame_number g.1) ∙ (m.3.1 ∙ (ap frame_number o.1 ∙ sym fe.is)) in
          let on : what_is c.what fe.entry.frame ≡ true = ap (λ x. what_is x fe.entry.frame) g.1 ∙ is_eq g.0.0 fe.entry.frame frames in
          let yes' = some-begun h a b.tick fe.entry.frame m.0 c m.2 m.3.0 on g.2.from in
          let no' = fe.waits.fresh in
          absurd (cc (yes', no'))

  -- a frame of mine that didn't begin before a tick waits in its ring
  pub entry-waits : (q j x : ℕ) (r : RingEntry) → p ≤ q → slice_get (Entries h a q) j ≡ Some r → r.entered ≡ true → r.tick ≤ x → ¬ BegunBefore l x r.frame → EntryWaits h a x r
  entry-waits q j x r le at entered by unsent =
      record {
        entered = entered;
        by = by;
        fresh = elim (cases_Bool (begun_before h a x r.frame)) [
          | inr no' ↦ no'
          | inl yes' ↦
              let o = begun-some h a x r.frame yes' in
              let b = o.1 in
              let is = what-frame b.what r.frame o.4 in
              let prio : q ≡ (row w r.frame).prio = every_at (λ (y : RingEntry). y.entered ≡ true → q ≡ (row w y.frame).prio) (Entries h a q) j r (entries_prio w n h a q legal) at entered in
              let rank : rank_of w b.what ≡ suc q = ap (rank_of w) is ∙ ap suc (sym prio) in
              absurd (unsent (some-map (as_sent w h) (λ s. (s.begin < x) × (s.frame ≡ r.frame) × Mine l s) (Begins h a) o.0 b o.2 (o.3, ap frame_number is, ranked b q le rank)))
        ];
      }
    where
      ranked : (b : Begin) (q : ℕ) → p ≤ q → rank_of w b.what ≡ suc q → Mine l (as_sent w h b)
      ranked b q le rank = elim (cases_lt p q) [
        | inl more ↦ inr (lt-ltb (suc p) (rank_of w b.what) (omega arith))
        | inr same ↦ inl (is_eq (rank_of w b.what) (suc p) (omega arith))
      ]

  serves-first : Every (λ f. Every (λ s. l.is_own s ≡ true → ¬ BegunBefore l s.begin f.frame → f.frame ≢ s.frame → Some_of (λ q. (q.frame ≡ s.frame) × (s.wire ≤ q.octets) × (q.tick ≤ f.tick)) l.own) l.served) l.own
  serves-first = every-queue w h a p (λ f. Every (λ s. l.is_own s ≡ true → ¬ BegunBefore l s.begin f.frame → f.frame ≢ s.frame → Some_of (λ q. (q.frame ≡ s.frame) × (s.wire ≤ q.octets) × (q.tick ≤ f.tick)) l.own) l.served)
      (λ j r at entered. every-map (as_sent w h) (λ s. l.is_own s ≡ true → ¬ BegunBefore l s.begin r.frame → r.frame ≢ s.frame → Some_of (λ q. (q.frame ≡ s.frame) × (s.wire ≤ q.octets) × (q.tick ≤ r.tick)) l.own) (Begins h a)
      (λ i b at' own unsent other. first j r at entered i b at' own unsent))
    where
      first : (j : ℕ) (r : RingEntry) → slice_get (Entries h a p) j ≡ Some r → r.entered ≡ true → (i : ℕ) (b : Begin) → slice_get (Begins h a) i ≡ Some b → l.is_own (as_sent w h b) ≡ true → ¬ BegunBefore l b.tick r.frame
          → Some_of (λ q. (q.frame ≡ frame_number b.what) × ((as_sent w h b).wire ≤ q.octets) × (q.tick ≤ r.tick)) l.own
      first j r at entered i b at' own unsent =
          let o = mine-sent i b at' (inl own) in
          let rank = yes_is (rank_of w b.what) (suc p) own in
          let same : rank_of w b.what ≡ suc ((row w o.0.0).prio) = ap (rank_of w) o.1 in
          let ring : (row w o.0.0).prio ≡ p = omega (arith, rank, same) in
          let fe = front_of_ring w n h a p b.tick o.0.0 o.2.behind legal (ap (λ k. Waiting h a k b.tick) (sym ring) ∙ o.2.waits) in
          let wire = wire-is b o.0 o.1 o.2.kind in
          let octets : length (FrameOf w fe.entry.frame) ≡ length (FrameOf w o.0.0) = ap (λ k. length (FrameOf w k)) fe.is in
          let early : fe.entry.tick ≤ r.tick = (elim (cases_lt b.tick r.tick) [
            | inl later ↦ omega (arith, fe.waits.by)
            | inr by ↦ every_at (λ y. EntryWaits h a b.tick y → fe.entry.tick ≤ y.tick) (Entries h a p) j r fe.first at (entry-waits p j b.tick r (omega arith) at entered by unsent)
          ]) in
          into-queue w h a p (λ q. (q.frame ≡ frame_number b.what) × ((as_sent w h b).wire ≤ q.octets) × (q.tick ≤ r.tick)) fe.place fe.entry fe.at fe.waits.entered
          (fe.is ∙ sym (ap frame_number o.1), omega (arith, wire, octets), early)

  -- where a ring of mine isn't empty one of mine begins
  begins-from : (x q : ℕ) → x < done → p ≤ q → q < 8 → FreeAt l.cost l.served x → Waiting h a q x ≢ [] → Some_of (λ s. (s.begin ≡ x) × Mine l s) l.served
  begins-from x q le from below free some =
      let o = express_starts w n h a x q lt legal (from_reach x le) (free-occupied x le free) (omega arith) below some in
      let b = o.2.1 in
      let front = o.1 in
      let prio : front.0 ≡ (row w o.0).prio = front_prio w n h a front.0 x o.0 front.3.0 legal front.3.1 in
      let high' : q ≤ front.0 = front_high w h a x (arc w a).express_from q o.0 below some front in
      let rank : rank_of w b.what ≡ suc ((row w o.0).prio) = ap (rank_of w) o.2.5 in
      some-map (as_sent w h) (λ s. (s.begin ≡ x) × Mine l s) (Begins h a) o.2.0 b o.2.2 (o.2.3, ranked b (rank_of w b.what) refl (omega (arith, rank, prio, high')))
    where
      ranked : (b : Begin) (k : ℕ) → rank_of w b.what ≡ k → suc p ≤ k → Mine l (as_sent w h b)
      ranked b k is more = elim (cases_lt (suc p) k) [
        | inl above' ↦ inr (lt-ltb (suc p) (rank_of w b.what) (omega arith))
        | inr same ↦ inl (is_eq (rank_of w b.what) (suc p) (omega arith))
      ]

  serves-starts : (x : ℕ) → x < done → FreeAt l.cost l.served x → MineWaits l x → Some_of (λ s. (s.begin ≡ x) × Mine l s) l.served
  serves-starts x le free (inl own) =
      let o = from-queue w h a p (WaitsAt l x) own in
      begins-from x p le (omega arith) top free (ring_waits h a p x o.0 o.1 o.2 (entry-waits p o.0 x o.1 (omega arith) o.2 o.3 o.4.0 o.4.1))
  serves-starts x le free (inr higher) =
      let k = from-above w h a p (WaitsAt l x) (7 - p) higher in
      let o = from-queue w h a (p + 1 + k.0) (WaitsAt l x) k.2 in
      begins-from x (p + 1 + k.0) le (omega arith) (omega (arith, k.1)) free (ring_waits h a (p + 1 + k.0) x o.0 o.1 o.2 (entry-waits (p + 1 + k.0) o.0 x o.1 (omega arith) o.2 o.3 o.4.0 o.4.1))

  -- A legal history serves a port, where what isn't the port's holds the arc no longer than the block.
  pub serves : (block : ℕ) → ((u : ℕ) → Every (λ s. ¬ Mine l s → s.begin < u → ((x : ℕ) → u ≤ x → x < s.begin + l.cost * s.wire → MineWaits l x) → s.begin + l.cost * s.wire ≤ u + block) l.served) → Serves l done block
  serves block blocks = record {
    some = costs w a lt;
    line = serves-line;
    wires = every-map (as_sent w h) (λ s. 0 < s.wire) (Begins h a) (λ i b at. omega arith);
    begun = serves-begun;
    own = serves-own;
    higher = serves-higher;
    once = serves-once;
    first_in = serves-first;
    starts = serves-starts;
    blocks = blocks;
  }
