-- What comes to a ring of a stream is within its certified burst: at the first hop by its curve, at the next by its delay.
use Rattle.std.proofs.Common.{ℕ, zero, suc, Bool, true, false, cond, ◌==◌, ◌&&◌, ◌≡◌, ◌≢◌, ◌+◌, ◌-◌, ◌*◌}
use Rattle.std.proofs.Common.{◌<◌, ◌≤◌, List, [], ◌∷◌, ◌++◌, length, map, filter, refl, sym, ◌∙◌, ap, inl, inr, arith}
use Rattle.std.proofs.Common.{subst, Some}
use Rattle.std.specs.Prelude.{slice_get, slice_index_or, sum_by, if◌then◌else◌, AllPairs, unwrap_or}
use Rattle.std.specs.Option.{option_map}
use Rattle.std.specs.List.{AllByRecursion as Every, enumerate_from}
use Rattle.std.proofs.Math.Nat.{mul-le-mul_left}
use Rattle.std.proofs.lemmas.Bool.{cases_lt, and_parts, and_from}
use Rattle.std.proofs.lemmas.Bool.Decides.{nat_tests}
use Rattle.std.proofs.lemmas.List.Sums.{sum_by-append}
use Rattle.std.proofs.lemmas.List.Kept.{AllPairs-filter}
use Rattle.std.proofs.lemmas.List.Elements.{filter-append, filter_map-append}
use Rattle.pre_base.specs.declared.numbers.ArcId.{ArcId}
use Rattle.pre_curve.specs.declared.curves.Curve.{Curve}
use Rattle.pre_curve.specs.Windows.{Offer, InOrder, offers_of, tick_at}
use Rattle.pre_streams.specs.declared.rows.Row.{Row}
use Rattle.pre_script.specs.declared.scripts.SendLine.{SendLine}
use Rattle.pre_script.specs.Fits.{SendsInOrder}
use Rattle.pre_history.specs.declared.events.What.TheVariants as what
use Rattle.pre_history.specs.Scenario.{Scenario, FrameOf, arc, row, send, no_row, no_send, latency}
use Rattle.pre_history.specs.History.{History, Begin}
use Rattle.pre_history.specs.Selected.{RingEntry, entry_on}
use Rattle.pre_history.specs.Queries.{Begins, Entries}
use Rattle.pre_history.specs.Comings.{Coming, EntriesOf, hops, after}
use Rattle.pre_history.specs.Legal.{LegalUpTo}
use Rattle.pre_history.proofs.Lists.{there, within, every_at, every_placed, every_weaker}
use Rattle.pre_history.proofs.Pairs.{Pairs}
use Rattle.pre_history.proofs.Routes.{one_before, not_first}
use Rattle.pre_history.proofs.Relays.{ComesBy, IsSent, IsRelayed}
use Rattle.pre_history.proofs.Undamaged.{length-FrameOf}
use Rattle.pre_bound.specs.Uses.{TakesAt}
use Rattle.pre_bound.proofs.Sums.{sum_by-filter-cons}
use Rattle.pre_history.proofs.NatTests.{is_eq}
use Rattle.pre_laws.proofs.Fitting.{read_one}
use Rattle.pre_delay.specs.Ticks.{is_from_to, octets_from_to}
use Rattle.pre_delay.specs.Ports.{stream_of, wire}
use Rattle.pre_delay.proofs.Port.{RingObeys, IsKnown}
use Rattle.pre_delay.proofs.Arcs.{Queued, Some_of, entered_from_to, CameFrom, OtherFrames}
use Rattle.pre_delay.specs.Runs.{IsRun, sends_of}
use Rattle.pre_delay.proofs.Lists.{Apart, some-weaker, sums-matched}
use Rattle.pre_delay.proofs.Members.{every-filter, every-weaker, some-filter}
use Rattle.pre_delay.proofs.Windows.{obeys_ticks}
use Rattle.pre_delay.proofs.Hop.{hop_grows}
use Rattle.pre_delay.proofs.Seen.{as_queued}
use Rattle.pre_delay.proofs.Once.{hop_before}
use Rattle.pre_laws.proofs.Once.{coming_to}
use Rattle.pre_delay.proofs.Apart.{OtherFrame, comers}
use Rattle.pre_delay.proofs.Entering.{entering, told_entries}

abbrev pub of_stream : Scenario → (i from to : ℕ) → RingEntry → Bool
of_stream w i from to r = is_from_to from to r.tick && (stream_of w r.frame == i)

-- the entries of the stream of that number are within a burst and a rate
abbrev pub ListObeys : Scenario → List RingEntry → (i burst rate : ℕ) → Type 0
ListObeys w rs i burst rate = (from to : ℕ) → from ≤ to → 1_000_000 * sum_by (wire w) (filter (of_stream w i from to) rs) ≤ 1_000_000 * burst + rate * (to - from)

-- ---- fronts

pub front_less : (w : Scenario) (xs ys : List RingEntry) (i burst rate : ℕ) → ListObeys w (xs ++ ys) i burst rate → ListObeys w xs i burst rate
front_less w xs ys i burst rate obeys from to le =
    let all = obeys from to le in
    let split = ap (sum_by (wire w)) (filter-append (of_stream w i from to) xs ys) ∙ sum_by-append (wire w) (filter (of_stream w i from to) xs) (filter (of_stream w i from to) ys) in
    omega (arith, all, split)

-- What comes in a history is within what comes in a longer one.
pub front_obeys : (w : Scenario) (h g : History) (a q i burst rate : ℕ) → RingObeys w (h ++ g) a q i burst rate → RingObeys w h a q i burst rate
front_obeys w h g a q i burst rate obeys =
    front_less w (Entries h a q) (Entries g a q) i burst rate (subst (λ rs. ListObeys w rs i burst rate) (filter_map-append (entry_on a q) h g) obeys)

-- ---- what is told

-- the octets of a stream's entries from one tick to another
ring_sum-append : (w : Scenario) (i from to : ℕ) (xs ys : List RingEntry)
    → sum_by (wire w) (filter (of_stream w i from to) (xs ++ ys)) ≡ sum_by (wire w) (filter (of_stream w i from to) xs) + sum_by (wire w) (filter (of_stream w i from to) ys)
ring_sum-append w i from to xs ys = ap (sum_by (wire w)) (filter-append (of_stream w i from to) xs ys) ∙ sum_by-append (wire w) (filter (of_stream w i from to) xs) (filter (of_stream w i from to) ys)

ring_sum-told : (w : Scenario) (t a p i from to : ℕ) (rs : List RingEntry)
    → sum_by (wire w) (filter (of_stream w i from to) (map (entering w t a p) rs)) ≡ sum_by (wire w) (filter (of_stream w i from to) rs)
ring_sum-told w t a p i from to [] = refl
ring_sum-told w t a p i from to (r ∷ rs) =
    let rest = ring_sum-told w t a p i from to rs in
    let left = sum_by-filter-cons (wire w) (of_stream w i from to) (entering w t a p r) (map (entering w t a p) rs) in
    let right = sum_by-filter-cons (wire w) (of_stream w i from to) r rs in
    omega (arith, rest, left, right)

-- what comes to a ring at a tick is as much as is told of it
told_sum : (w : Scenario) (t a p i from to : ℕ) (g : History) (cs : List Coming)
    → sum_by (wire w) (filter (of_stream w i from to) (Entries (EntriesOf w t g cs) a p)) ≡ sum_by (wire w) (filter (of_stream w i from to) (comers w t a p cs))
told_sum w t a p i from to g cs =
    sym (ring_sum-told w t a p i from to (Entries (EntriesOf w t g cs) a p)) ∙ ap (λ rs. sum_by (wire w) (filter (of_stream w i from to) rs)) (told_entries w t a p g cs)

pub obeys_told : (w : Scenario) (t a p i burst rate : ℕ) (past : History) (cs : List Coming)
    → ListObeys w (Entries past a p ++ comers w t a p cs) i burst rate → RingObeys w (past ++ EntriesOf w t past cs) a p i burst rate
obeys_told w t a p i burst rate past cs obeys from to le =
    let all = obeys from to le in
    let here = ring_sum-append w i from to (Entries past a p) (comers w t a p cs) in
    let told = ring_sum-append w i from to (Entries past a p) (Entries (EntriesOf w t past cs) a p) in
    let joined = ap (λ rs. sum_by (wire w) (filter (of_stream w i from to) rs)) (filter_map-append (entry_on a p) past (EntriesOf w t past cs)) in
    let same = told_sum w t a p i from to past cs in
    omega (arith, all, here, told, joined, same)

pub told_obeys : (w : Scenario) (t a p i burst rate : ℕ) (past : History) (cs : List Coming)
    → RingObeys w (past ++ EntriesOf w t past cs) a p i burst rate → ListObeys w (Entries past a p ++ comers w t a p cs) i burst rate
told_obeys w t a p i burst rate past cs obeys from to le =
    let all = obeys from to le in
    let here = ring_sum-append w i from to (Entries past a p) (comers w t a p cs) in
    let told = ring_sum-append w i from to (Entries past a p) (Entries (EntriesOf w t past cs) a p) in
    let joined = ap (λ rs. sum_by (wire w) (filter (of_stream w i from to) rs)) (filter_map-append (entry_on a p) past (EntriesOf w t past cs)) in
    let same = told_sum w t a p i from to past cs in
    omega (arith, all, here, told, joined, same)

-- ---- lists

pub some_at : {X : Type 0} (P : X → Type 0) (xs : List X) (j : ℕ) (x : X) → slice_get xs j ≡ Some x → P x → Some_of P xs
some_at P [] j x at p = absurd (cc at)
some_at P (y ∷ xs) zero x at p = let same : x ≡ y = cc at in inl (subst P same p)
some_at P (y ∷ xs) (suc j) x at p = inr (some_at P xs j x at p)

some_through : {X Y : Type 0} (g : X → Y) (P : Y → Type 0) (xs : List X) → Some_of (λ x. P (g x)) xs → Some_of P (map g xs)
some_through g P [] some = some
some_through g P (x ∷ xs) (inl here) = inl here
some_through g P (x ∷ xs) (inr more) = inr (some_through g P xs more)

every_through : {X Y : Type 0} (g : X → Y) (P : Y → Type 0) (p : X → Bool) (xs : List X) → Every (λ x. p x ≡ true → P (g x)) xs → Every P (map g (filter p xs))
every_through g P p [] e = tt
every_through {X} {Y} g P p (x ∷ xs) e = go (p x) refl (every_through g P p xs e.1)
  where
    go : (b : Bool) → p x ≡ b → Every P (map g (filter p xs)) → Every P (map g (if b then x ∷ filter p xs else filter p xs))
    go true on more = (e.0 on, more)
    go false off more = more

others_through : (w : Scenario) (p : RingEntry → Bool) (rs : List RingEntry) → Pairs OtherFrame rs → OtherFrames (map (as_queued w) (filter p rs))
others_through w p [] apart = tt
others_through w p (r ∷ rs) (here, more) = go (p r) (others_through w p rs more)
  where
    go : (b : Bool) → OtherFrames (map (as_queued w) (filter p rs)) → OtherFrames (map (as_queued w) (if b then r ∷ filter p rs else filter p rs))
    go true rest = (every_through (as_queued w) (λ y. r.frame ≢ y.frame) p rs (every_weaker (OtherFrame r) (λ x. p x ≡ true → r.frame ≢ x.frame) (λ x other on. other) rs here), rest)
    go false rest = rest

apart_filter : (p : RingEntry → Bool) (rs : List RingEntry) → Pairs OtherFrame rs → Apart (λ (r : RingEntry). r.frame) (filter p rs)
apart_filter p [] apart = tt
apart_filter p (r ∷ rs) (here, more) = go (p r) (apart_filter p rs more)
  where
    go : (b : Bool) → Apart (λ (r : RingEntry). r.frame) (filter p rs) → Apart (λ (r : RingEntry). r.frame) (if b then r ∷ filter p rs else filter p rs)
    go true rest = (every-weaker (λ x. (p x ≡ true) × OtherFrame r x) (λ x. r.frame ≢ x.frame) (filter p rs) (λ x both. both.1) (every-filter (OtherFrame r) p rs here), rest)
    go false rest = rest

pub and_true : (b : Bool) (m : ℕ) → cond (b && true) m 0 ≡ cond b m 0
and_true true m = refl
and_true false m = refl

pub and_false : (b : Bool) (m : ℕ) → cond (b && false) m 0 ≡ 0
and_false true m = refl
and_false false m = refl

-- what is queued of a stream
abbrev stream_queue : Scenario → ℕ → List RingEntry → List Queued
stream_queue w i rs = map (as_queued w) (filter (λ (r : RingEntry). stream_of w r.frame == i) rs)

queue_sum : (w : Scenario) (i from to : ℕ) (rs : List RingEntry) → entered_from_to from to (stream_queue w i rs) ≡ sum_by (wire w) (filter (of_stream w i from to) rs)
queue_sum w i from to [] = refl
queue_sum w i from to (r ∷ rs) =
    let rest = queue_sum w i from to rs in
    let right = sum_by-filter-cons (wire w) (of_stream w i from to) r rs in
    let F = filter (λ (r : RingEntry). stream_of w r.frame == i) rs in
    let left : entered_from_to from to (stream_queue w i (r ∷ rs)) ≡ cond (is_from_to from to r.tick && (stream_of w r.frame == i)) (wire w r) 0 + sum_by (wire w) (filter (of_stream w i from to) rs) =
    elim (stream_of w r.frame == i) as (λ b. entered_from_to from to (map (as_queued w) (cond b (r ∷ F) F)) ≡ cond (is_from_to from to r.tick && b) (wire w r) 0 + sum_by (wire w) (filter (of_stream w i from to) rs)) [
      | true ↦ let one = sum_by-filter-cons (λ (q : Queued). q.octets) (λ q. is_from_to from to q.tick) (as_queued w r) (map (as_queued w) F) in
          let e = and_true (is_from_to from to r.tick) (wire w r) in
          omega (arith, one, e, rest)
      | false ↦ let e = and_false (is_from_to from to r.tick) (wire w r) in omega (arith, e, rest)
    ]
    in
    omega (arith, left, right)

-- ---- the next hop

pub behind_it : (xs : List ℕ) → AllPairs (λ x y. x ≢ y) xs → (k x y : ℕ) → slice_get xs k ≡ Some x → slice_get xs (suc k) ≡ Some y → after x xs ≡ Some y
behind_it [] apart k x y at next = absurd (cc at)
behind_it (z ∷ xs) apart zero x y at next =
    let same : z ≡ x = cc at in
    subst (λ b. (if b then slice_get xs 0 else after x xs) ≡ Some y) (sym (is_eq z x same)) next
behind_it (z ∷ xs) apart (suc k) x y at next =
    let rest = behind_it xs (λ i j d lt inside. apart (suc i) (suc j) d (omega (arith, lt)) (omega (arith, inside))) k x y at next in
    let inside = within xs k x at in
    let other : z ≢ x = λ same. apart 0 (suc k) x (omega arith) (omega (arith, inside)) (same ∙ sym (read_one xs k x x at)) in
    subst (λ b. (if b then slice_get xs 0 else after x xs) ≡ Some y) (sym (not_same z x other)) rest
  where
    not_same : (m n : ℕ) → m ≢ n → (m == n) ≡ false
    not_same m n no' = grind (arith, nat_tests)

pub taken_at : (xs : List ArcId) (j a : ℕ) → option_map (λ x. x.0) (slice_get xs j) ≡ Some a → slice_get (map (λ (x : ArcId). x.0) xs) j ≡ Some a
taken_at [] j a at = absurd (cc at)
taken_at (x ∷ xs) zero a at = at
taken_at (x ∷ xs) (suc j) a at = taken_at xs j a at

pub row_is : (w : Scenario) (i f : ℕ) (r : Row) → slice_get w.streams.rows i ≡ Some r → stream_of w f ≡ i → row w f ≡ r
row_is w i f r at same = read_one w.streams.rows (stream_of w f) r no_row (subst (λ k. slice_get w.streams.rows k ≡ Some r) (sym same) at)

-- an entry of a list, known and come by a send or a relay
abbrev pub KnownToCome : Scenario → History → ℕ → RingEntry → Type 0
KnownToCome w h a x = IsKnown w a x.frame × ComesBy w h x.tick (coming_to a x.frame)

-- each frame of the ring that began has left within the delay
abbrev pub AllLeft : Scenario → History → (b p delay : ℕ) → Type 0
AllLeft w h b p delay =
    (j : ℕ) (y : RingEntry) → slice_get (Entries h b p) j ≡ Some y → y.entered ≡ true → (k : ℕ) (g : Begin) → slice_get (Begins h b) k ≡ Some g → g.what ≡ what.Frame (record { 0 = y.frame })
    → g.tick + (arc w b).cost * wire w y ≤ y.tick + delay

-- each frame of the stream that began early enough to come to the next ring by a tick had entered in the past, and has left
abbrev pub HaveLeft : Scenario → (h past : History) → (b p i t delay : ℕ) → Type 0
HaveLeft w h past b p i t delay =
    (j : ℕ) (y : RingEntry) → slice_get (Entries h b p) j ≡ Some y → y.entered ≡ true → stream_of w y.frame ≡ i → (k : ℕ) (g : Begin) → slice_get (Begins h b) k ≡ Some g → g.what ≡ what.Frame (record { 0 = y.frame })
    → g.tick + 72 * (arc w b).cost ≤ t → Some_of (λ z. z ≡ y) (Entries past b p) × (g.tick + (arc w b).cost * wire w y ≤ y.tick + delay)

pub have_left : (w : Scenario) (h : History) (b p i t delay : ℕ) → AllLeft w h b p delay → HaveLeft w h h b p i t delay
have_left w h b p i t delay left j y at on stream k g begun carries soon = (some_at (λ z. z ≡ y) (Entries h b p) j y at refl, left j y at on k g begun carries)

module _ (w : Scenario) (n : ℕ) (h : History) (legal : LegalUpTo w n h) (routes : (f : ℕ) → AllPairs (λ x y. x ≢ y) (hops w f)) where
  module _ (a b i hop : ℕ) (r : Row) (at : slice_get w.streams.rows i ≡ Some r) (here : TakesAt r hop b) (next : TakesAt r (hop + 1) a) where
    follows : (f : ℕ) → row w f ≡ r → after b (hops w f) ≡ Some a
    follows f is =
        let k : suc hop ≡ hop + 1 = omega arith in
        behind_it (hops w f) (routes f) hop b a (subst (λ (x : Row). slice_get (map (λ (y : ArcId). y.0) x.arcs) hop ≡ Some b) (sym is) (taken_at r.arcs hop b here))
        (subst (λ m. slice_get (hops w f) m ≡ Some a) (sym k) (subst (λ (x : Row). slice_get (map (λ (y : ArcId). y.0) x.arcs) (hop + 1) ≡ Some a) (sym is) (taken_at r.arcs (hop + 1) a next)))

    pub by_relay : (x : RingEntry) → row w x.frame ≡ r → ComesBy w h x.tick (coming_to a x.frame) → IsRelayed w h x.tick b (coming_to a x.frame)
    by_relay x is (inl s) = absurd (not_first (hops w x.frame) (routes x.frame) b (follows x.frame is ∙ ap Some s.arc))
    by_relay x is (inr (c, lt, q)) =
        let same : c ≡ b = one_before (hops w x.frame) (routes x.frame) c b a q.next (follows x.frame is) in
        subst (λ k. IsRelayed w h x.tick k (coming_to a x.frame)) same q

  module _ (a b i hop : ℕ) (r : Row) (at : slice_get w.streams.rows i ≡ Some r) (here : TakesAt r hop b) (next : TakesAt r (hop + 1) a) (high : (arc w b).express_from ≤ r.prio) (inside : b < length w.net.arcs)
      (past : History) (t delay : ℕ) (left : HaveLeft w h past b r.prio i t delay) where
    came_from : 84 * (arc w b).cost ≤ delay → (x : RingEntry) → KnownToCome w h a x → x.tick ≤ t → (stream_of w x.frame == i) ≡ true
        → CameFrom ((arc w b).delay + latency w b) (72 * (arc w b).cost) (delay - 12 * (arc w b).cost) (stream_queue w i (Entries past b r.prio)) (as_queued w x)
    came_from least x (known, by) soon on =
        let stream : stream_of w x.frame ≡ i = grind (arith, nat_tests, on) in
        let is = row_is w i x.frame r at stream in
        let prio : (row w x.frame).prio ≡ r.prio = ap (λ (y : Row). y.prio) is in
        let o = hop_before w n h legal routes x.tick b (coming_to a x.frame) inside (omega (arith, prio, high)) (by_relay a b i hop r at here next x is by) in
        let there' : slice_get (Entries h b r.prio) o.place ≡ Some o.entry = subst (λ p. slice_get (Entries h b p) o.place ≡ Some o.entry) prio o.at in
        let some : (arc w b).cost * 72 ≤ (arc w b).cost * (length (FrameOf w x.frame) + 8) = mul-le-mul_left (arc w b).cost (omega (arith, known.least)) in
        let old = left o.place o.entry there' o.entered (ap (stream_of w) o.same ∙ stream) o.ord o.begin o.begun (o.carries ∙ ap (λ f. what.Frame (record { 0 = f })) (sym o.same)) (omega (arith, o.comes, some, soon)) in
        let out = old.1 in
        let long : wire w o.entry ≡ length (FrameOf w x.frame) + 20 = ap (λ f. length (FrameOf w f) + 20) o.same in
        let cost : (arc w b).cost * wire w o.entry ≡ (arc w b).cost * (length (FrameOf w x.frame) + 20) = ap (λ k. (arc w b).cost * k) long in
        let spread : (arc w b).cost * (length (FrameOf w x.frame) + 20) ≡ (arc w b).cost * (length (FrameOf w x.frame) + 8) + 12 * (arc w b).cost = omega arith in
        some_through (as_queued w) (λ y. (y.frame ≡ x.frame) × (wire w x ≤ y.octets) × (y.tick + ((arc w b).delay + latency w b) + 72 * (arc w b).cost ≤ x.tick) × (x.tick ≤ y.tick + ((arc w b).delay + latency w b) + (delay - 12 * (arc w b).cost)))
        (filter (λ (y : RingEntry). stream_of w y.frame == i) (Entries past b r.prio))
        (some-filter (λ (y : RingEntry). (y.frame ≡ x.frame) × (wire w x ≤ wire w y) × (y.tick + ((arc w b).delay + latency w b) + 72 * (arc w b).cost ≤ x.tick) × (x.tick ≤ y.tick + ((arc w b).delay + latency w b) + (delay - 12 * (arc w b).cost)))
        (λ (y : RingEntry). stream_of w y.frame == i) (Entries past b r.prio)
        (some-weaker (λ (y : RingEntry). y ≡ o.entry) (λ (y : RingEntry). ((stream_of w y.frame == i) ≡ true) × ((y.frame ≡ x.frame) × (wire w x ≤ wire w y) × (y.tick + ((arc w b).delay + latency w b) + 72 * (arc w b).cost ≤ x.tick) × (x.tick ≤ y.tick + ((arc w b).delay + latency w b) + (delay - 12 * (arc w b).cost))))
        (Entries past b r.prio) (λ y same. subst (λ (z : RingEntry). ((stream_of w z.frame == i) ≡ true) × ((z.frame ≡ x.frame) × (wire w x ≤ wire w z) × (z.tick + ((arc w b).delay + latency w b) + 72 * (arc w b).cost ≤ x.tick) × (x.tick ≤ z.tick + ((arc w b).delay + latency w b) + (delay - 12 * (arc w b).cost)))) (sym same)
        (ap (λ f. stream_of w f == i) o.same ∙ on, (o.same, omega (arith, long), omega (arith, o.comes, o.by, some), omega (arith, o.comes, out, cost, spread)))) old.0))

    -- What comes to the next hop of a stream is within the grown burst.
    pub next_obeys : (burst rate next_burst : ℕ) (rs : List RingEntry) → Every (KnownToCome w h a) rs → Every (λ (x : RingEntry). x.tick ≤ t) rs → Pairs OtherFrame rs → RingObeys w past b r.prio i burst rate → 84 * (arc w b).cost ≤ delay
        → 1_000_000 * burst + rate * (delay - 84 * (arc w b).cost) ≤ 1_000_000 * next_burst → ListObeys w rs i next_burst rate
    next_obeys burst rate next_burst rs come soon apart obeys least covers from to le =
        let same : delay - 12 * (arc w b).cost - 72 * (arc w b).cost ≡ delay - 84 * (arc w b).cost = omega arith in
        let product = ap (λ k. rate * k) same in
        let grown = hop_grows burst rate ((arc w b).delay + latency w b) (72 * (arc w b).cost) (delay - 12 * (arc w b).cost) next_burst (stream_queue w i (Entries past b r.prio)) (stream_queue w i rs)
        (omega (arith, product, covers)) (omega (arith, least))
        (λ f t l. let o = obeys f t l in let e = queue_sum w i f t (Entries past b r.prio) in omega (arith, o, e))
        (others_through w (λ (x : RingEntry). stream_of w x.frame == i) rs apart)
        (every_through (as_queued w) (CameFrom ((arc w b).delay + latency w b) (72 * (arc w b).cost) (delay - 12 * (arc w b).cost) (stream_queue w i (Entries past b r.prio))) (λ (x : RingEntry). stream_of w x.frame == i) rs
        (every_placed (λ x. (stream_of w x.frame == i) ≡ true → CameFrom ((arc w b).delay + latency w b) (72 * (arc w b).cost) (delay - 12 * (arc w b).cost) (stream_queue w i (Entries past b r.prio)) (as_queued w x)) rs
        (λ k x at'. came_from least x (every_at (KnownToCome w h a) rs k x come at') (every_at (λ (y : RingEntry). y.tick ≤ t) rs k x soon at'))))
        from to le in
        let e = queue_sum w i from to rs in
        omega (arith, grown, e)

-- ---- the first hop

some_listed : {X : Type 0} (p : X → Bool) (P : ℕ × X → Type 0) (n : ℕ) (xs : List X) (i : ℕ) (x : X) → slice_get xs i ≡ Some x → p x ≡ true → P (n + i, x) → Some_of P (filter (λ e. p e.1) (enumerate_from n xs))
some_listed p P n [] i x at on here = absurd (cc at)
some_listed {X} p P n (y ∷ xs) zero x at on here =
    let same : x ≡ y = cc at in
    let yes' : p y ≡ true = ap p (sym same) ∙ on in
    let k : n + 0 ≡ n = omega arith in
    subst (λ b. Some_of P (cond b ((n, y) ∷ filter (λ (e : ℕ × X). p e.1) (enumerate_from (n + 1) xs)) (filter (λ (e : ℕ × X). p e.1) (enumerate_from (n + 1) xs)))) (sym yes')
    (inl (subst (λ (z : X). P (n, z)) same (subst (λ m. P (m, x)) k here)))
some_listed {X} p P n (y ∷ xs) (suc i) x at on here =
    let k : n + suc i ≡ n + 1 + i = omega arith in
    let rest = some_listed p P (n + 1) xs i x at on (subst (λ m. P (m, x)) k here) in
    elim (p y) as (λ b. Some_of P (cond b ((n, y) ∷ filter (λ (e : ℕ × X). p e.1) (enumerate_from (n + 1) xs)) (filter (λ (e : ℕ × X). p e.1) (enumerate_from (n + 1) xs)))) [
      | true ↦ inr rest
      | false ↦ rest
    ]

listed_sum : {X : Type 0} (p : X → Bool) (f : X → ℕ) (n : ℕ) (xs : List X) → sum_by (λ (e : ℕ × X). f e.1) (filter (λ e. p e.1) (enumerate_from n xs)) ≡ sum_by f (filter p xs)
listed_sum p f n [] = refl
listed_sum {X} p f n (x ∷ xs) =
    let rest = listed_sum p f (n + 1) xs in
    let left = sum_by-filter-cons (λ (e : ℕ × X). f e.1) (λ (e : ℕ × X). p e.1) (n, x) (enumerate_from (n + 1) xs) in
    let right = sum_by-filter-cons f p x xs in
    omega (arith, rest, left, right)

abbrev sent_within : (i from to : ℕ) → SendLine → Bool
sent_within i from to s = is_from_to from to s.send.tick.0 && (s.send.stream.0 == i)

offers_sum : (i from to : ℕ) (ss : List SendLine)
    → octets_from_to from to (offers_of (map (λ (s : SendLine). s.send) (filter (λ (s : SendLine). s.send.stream.0 == i) ss))) ≡ sum_by (λ (s : SendLine). s.send.size + 20) (filter (sent_within i from to) ss)
offers_sum i from to [] = refl
offers_sum i from to (s ∷ ss) =
    let rest = offers_sum i from to ss in
    let right = sum_by-filter-cons (λ (s : SendLine). s.send.size + 20) (sent_within i from to) s ss in
    let F = filter (λ (s : SendLine). s.send.stream.0 == i) ss in
    let left : octets_from_to from to (offers_of (map (λ (s : SendLine). s.send) (filter (λ (s : SendLine). s.send.stream.0 == i) (s ∷ ss)))) ≡ cond (is_from_to from to s.send.tick.0 && (s.send.stream.0 == i)) (s.send.size + 20) 0 + sum_by (λ (s : SendLine). s.send.size + 20) (filter (sent_within i from to) ss) =
    elim (s.send.stream.0 == i) as (λ b. octets_from_to from to (offers_of (map (λ (s : SendLine). s.send) (cond b (s ∷ F) F))) ≡ cond (is_from_to from to s.send.tick.0 && b) (s.send.size + 20) 0 + sum_by (λ (s : SendLine). s.send.size + 20) (filter (sent_within i from to) ss)) [
      | true ↦ let one = sum_by-filter-cons (λ (o : Offer). o.octets) (λ o. is_from_to from to o.tick) (record { tick = s.send.tick.0; octets = s.send.size + 20 }) (offers_of (map (λ (s : SendLine). s.send) F)) in
          let e = and_true (is_from_to from to s.send.tick.0) (s.send.size + 20) in
          omega (arith, one, e, rest)
      | false ↦ let e = and_false (is_from_to from to s.send.tick.0) (s.send.size + 20) in omega (arith, e, rest)
    ]
    in
    omega (arith, left, right)

offers_long : (ss : List SendLine) → length (offers_of (map (λ (s : SendLine). s.send) ss)) ≡ length ss
offers_long [] = refl
offers_long (s ∷ ss) = ap suc (offers_long ss)

offer_tick : (ss : List SendLine) (k : ℕ) (d : SendLine) → k < length ss → tick_at (offers_of (map (λ (s : SendLine). s.send) ss)) k ≡ (slice_index_or ss k d).send.tick.0
offer_tick [] k d lt = absurd (omega (arith, lt))
offer_tick (s ∷ ss) zero d lt = refl
offer_tick (s ∷ ss) (suc k) d lt = offer_tick ss k d (omega (arith, lt))

pub offers_in_order : (ss : List SendLine) → AllPairs SendsInOrder ss → InOrder (offers_of (map (λ (s : SendLine). s.send) ss))
offers_in_order ss order i j le lt =
    let long = offers_long ss in
    let one = offer_tick ss i no_send (omega (arith, le, lt, long)) in
    let two = offer_tick ss j no_send (omega (arith, lt, long)) in
    elim (cases_lt i j) [
      | inl less ↦ let o = order i j no_send less (omega (arith, lt, long)) in omega (arith, one, two, o)
      | inr more ↦ let same : i ≡ j = omega (arith, le, more) in let e = ap (tick_at (offers_of (map (λ (s : SendLine). s.send) ss))) same in omega (arith, e)
    ]

module _ (w : Scenario) (run : IsRun w) (routes : (f : ℕ) → AllPairs (λ x y. x ≢ y) (hops w f)) (h : History)
    (a i : ℕ) (r : Row) (c : Curve) (at : slice_get w.streams.rows i ≡ Some r) (first : TakesAt r 0 a) (curve : r.curve ≡ Some c) where
  by_send : (x : RingEntry) → row w x.frame ≡ r → ComesBy w h x.tick (coming_to a x.frame) → IsSent w x.tick (coming_to a x.frame)
  by_send x is (inl s) = s
  by_send x is (inr (b, lt, q)) =
      let front : slice_get (hops w x.frame) 0 ≡ Some a = subst (λ (y : Row). slice_get (map (λ (z : ArcId). z.0) y.arcs) 0 ≡ Some a) (sym is) (taken_at r.arcs 0 a first) in
      absurd (not_first (hops w x.frame) (routes x.frame) b (q.next ∙ ap Some (ap (λ o. unwrap_or o 0) (sym front))))

  matched : (from to : ℕ) (x : RingEntry) → of_stream w i from to x ≡ true → KnownToCome w h a x
      → Some_of (λ (y : ℕ × SendLine). (y.0 ≡ x.frame) × (wire w x ≤ y.1.send.size + 20)) (filter (λ y. sent_within i from to y.1) (enumerate_from 0 w.script.sends))
  matched from to x on (known, by) =
      let parts = and_parts (is_from_to from to x.tick) (stream_of w x.frame == i) on in
      let stream : stream_of w x.frame ≡ i = grind (arith, nat_tests, parts.1) in
      let s = by_send x (row_is w i x.frame r at stream) by in
      let line = there w.script.sends x.frame s.known in
      let is : send w x.frame ≡ line.0 = read_one w.script.sends x.frame line.0 no_send line.1 in
      let frame = run.frames x.frame s.known in
      let long = length-FrameOf w x.frame (omega (arith, frame.least)) in
      let size : (send w x.frame).send.size ≡ line.0.send.size = ap (λ (z : SendLine). z.send.size) is in
      let now : x.tick ≡ line.0.send.tick.0 = sym s.now ∙ ap (λ (z : SendLine). z.send.tick.0) is in
      let in_stream : (line.0.send.stream.0 == i) ≡ true = ap (λ (z : SendLine). z.send.stream.0 == i) (sym is) ∙ parts.1 in
      let in_time : is_from_to from to line.0.send.tick.0 ≡ true = ap (is_from_to from to) (sym now) ∙ parts.0 in
      some_listed (sent_within i from to) (λ (y : ℕ × SendLine). (y.0 ≡ x.frame) × (wire w x ≤ y.1.send.size + 20)) 0 w.script.sends x.frame line.0 line.1
      (and_from (is_from_to from to line.0.send.tick.0) (line.0.send.stream.0 == i) in_time in_stream) (omega arith, omega (arith, long, size))

  -- What comes to the first hop of a stream is within its curve.
  pub first_obeys : (rs : List RingEntry) → Every (KnownToCome w h a) rs → Pairs OtherFrame rs → ListObeys w rs i c.burst c.rate
  first_obeys rs come apart from to le =
      let all = obeys_ticks (offers_of (sends_of w i)) c (offers_in_order (filter (λ (s : SendLine). s.send.stream.0 == i) w.script.sends) (AllPairs-filter SendsInOrder (λ (s : SendLine). s.send.stream.0 == i) w.script.sends run.order)) (run.curves i r c at curve) from to le in
      let offered = offers_sum i from to w.script.sends in
      let listed = listed_sum (sent_within i from to) (λ (s : SendLine). s.send.size + 20) 0 w.script.sends in
      let less = sums-matched {X = RingEntry} {Y = ℕ × SendLine} (λ x. x.frame) (λ y. y.0) (wire w) (λ y. y.1.send.size + 20) (filter (of_stream w i from to) rs) (filter (λ y. sent_within i from to y.1) (enumerate_from 0 w.script.sends))
      (apart_filter (of_stream w i from to) rs apart)
      (every-weaker (λ x. (of_stream w i from to x ≡ true) × KnownToCome w h a x) (λ x. Some_of (λ (y : ℕ × SendLine). (y.0 ≡ x.frame) × (wire w x ≤ y.1.send.size + 20)) (filter (λ y. sent_within i from to y.1) (enumerate_from 0 w.script.sends)))
      (filter (of_stream w i from to) rs) (λ x both. matched from to x both.0 both.1) (every-filter (KnownToCome w h a) (of_stream w i from to) rs come)) in
      omega (arith, all, offered, listed, less)
