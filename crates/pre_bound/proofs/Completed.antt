-- A good certificate leaves no port that passes the limit, and no ring that is too small.
use Rattle.std.proofs.Common.{◌≡◌, ℕ, zero, suc, ◌+◌, ◌*◌, ◌/◌, ◌%◌, ◌<◌, ◌≤◌, Bool, true, false, List, []}
use Rattle.std.proofs.Common.{◌∷◌, ◌++◌, Some, refl, sym, ◌∙◌, ap, subst, arith, length, get_or, map, take}
use Rattle.std.specs.Prelude.{slice_get, sum_by, Contains, All, IsSome, nat_lt}
use Rattle.std.specs.List.{list_any, enumerate_from, flat_map, range_with_len}
use Rattle.std.proofs.lemmas.Bool.{or_from, false_from_ne_true, and_parts, ltb-true, true≢false}
use Rattle.std.proofs.lemmas.Option.{slice_get-get_or}
use Rattle.std.proofs.lemmas.List.Sums.{sum_by-cons}
use Rattle.std.proofs.lemmas.List.Elements.{All-nil, All-cons, All-head, All-tail}
use Rattle.std.proofs.lemmas.List.FromFn.{length-range_with_len}
use Rattle.pre_base.specs.declared.numbers.ArcId.{ArcId}
use Rattle.pre_base.specs.declared.numbers.StreamId.{StreamId}
use Rattle.pre_topo.specs.declared.network.Network.{Network}
use Rattle.pre_streams.specs.declared.rows.Row.{Row}
use Rattle.pre_streams.specs.declared.rows.Streams.{Streams}
use Rattle.pre_streams.specs.Fits.{Fits}
use Rattle.pre_bound.specs.declared.rows.HopRow.{HopRow}
use Rattle.pre_bound.specs.declared.certificate.Certificate.{Certificate}
use Rattle.pre_bound.specs.Limits.{limit, PortIsWithin}
use Rattle.pre_bound.specs.Solutions.{least_growth}
use Rattle.pre_bound.specs.Uses.{TakesAt, hop_of, takes, is_stream, has_port, rate_of, cost_at}
use Rattle.pre_bound.specs.Along.{Delays, burst_on, hop_ticks, route_ticks, least_block, least_work, port_delay, port_size}
use Rattle.pre_bound.specs.Values.{Values}
use Rattle.pre_bound.specs.Good.{AreGood, AtPorts, IsStream}
use Rattle.pre_bound.specs.Settled.{Settled, PriosBelow, HaveRoom}
use Rattle.pre_bound.specs.Listed.{Says, HasGood, port_row, hop_row, bound_row}
use Rattle.pre_bound.specs.Places.{ports_of, streams_of, hops_of}
use Rattle.pre_bound.specs.Passing.{next_passes, ticks_before, ticks_through, stream_passes, port_passes, passes, least_port}
use Rattle.pre_bound.specs.Order.{Rise}
use Rattle.pre_bound.specs.Complete.{ValuesWithin, SettledBelow}
use Rattle.pre_bound.proofs.Solved.{least_growth-le}
use Rattle.pre_bound.proofs.Sums.{contains_tail}
use Rattle.pre_bound.proofs.Ranked.{All-mapped, All-kept, in_place, range_at, ranks_rise}
use Rattle.pre_bound.proofs.Within.{ArcsWithin, ArcsWithin-fits}
use Rattle.pre_bound.proofs.Hops.{TakesAt-place, TakesAt-from, TakesAt-hop_of, OnArc-from, has_port-from, contains_at}
use Rattle.pre_bound.proofs.AtLeast.{rank_rises, good_block-le, hop_le, burst_le, delay_le, work_le, size_le, sizes_le, delays_below}
use Rattle.pre_bound.proofs.Ordered.{SameOnTheWay, ticks-suc, alike, delay_same}

-- a number within the limit doesn't pass it
small : (n : ℕ) → n ≤ limit → nat_lt limit n ≡ false
small n h = false_from_ne_true (nat_lt limit n) (λ e. let more = ltb-true limit n e in omega (arith, more, h))

none_at : {X : Type 0} (p : X → Bool) (xs : List X) → ((x : X) → Contains xs x → p x ≡ false) → list_any p xs ≡ false
none_at p [] h = refl
none_at p (x ∷ xs) h = or_from (p x) (list_any p xs) (h x (0, omega arith, refl)) (none_at p xs (λ y c. h y (contains_tail x y xs c)))

-- a front of a route takes no longer than the whole
front_le : {X : Type 0} (f : X → ℕ) (j : ℕ) (xs : List X) → sum_by f (take j xs) ≤ sum_by f xs
front_le f zero xs = omega arith
front_le f (suc j) [] = omega arith
front_le f (suc j) (x ∷ xs) =
    let left = sum_by-cons f x (take j xs) in
    let right = sum_by-cons f x xs in
    let rest = front_le f j xs in
    omega (arith, left, right, rest)

-- the ticks of a front of a route, where the delays on it are at most others
ticks_le : (net : Network) (delays other : Delays) (r : Row) (j : ℕ) → j ≤ length r.arcs → ((i c : ℕ) → i < j → TakesAt r i c → delays c r.prio ≤ other c r.prio) → ticks_before net delays r j ≤ ticks_before net other r j
ticks_le net delays other r zero h below = omega arith
ticks_le net delays other r (suc k) h below =
    let d : ArcId = record { 0 = 0 } in
    let a = (get_or r.arcs k d).0 in
    let here : TakesAt r k a = TakesAt-from r k d (omega arith) in
    let before = ticks_le net delays other r k (omega arith) (λ i c less at. below i c (omega arith) at) in
    let now = hop_le net a (delays a r.prio) (other a r.prio) (below k a (omega arith) here) in
    let one = ticks-suc net delays r k a here in
    let two = ticks-suc net other r k a here in
    let step : ticks_before net delays r (k + 1) ≤ ticks_before net other r (k + 1) = omega (arith, before, now, one, two) in
    let eq : k + 1 ≡ suc k = omega arith in
    subst (λ n. ticks_before net delays r n ≤ ticks_before net other r n) eq step

module _ (net : Network) (rows : List Row) (delays : Delays) (v : Values) (within : ArcsWithin net rows) (prio_below : PriosBelow rows) (good : AreGood net rows v) (few : ValuesWithin net rows v) (rank : ℕ → ℕ) (rise : Rise rows rank)
    (a : ℕ) (inside : a < length net.arcs) (below : (b q : ℕ) → rank b < rank a → b < length net.arcs → q < 8 → has_port rows b q ≡ true → delays b q ≤ v.delay b q) where
  -- the port's own numbers
  port_quiet : (p : ℕ) → p < 8 → has_port rows a p ≡ true → port_passes net rows delays a p ≡ false
  port_quiet p prio port =
      let block = good_block-le net rows v good a p inside prio port in
      let work = work_le net rows delays v within prio_below good rank rise a p inside prio port below in
      let delay = delay_le net rows delays v within prio_below good rank rise a p inside prio port below in
      let size = size_le net rows delays v within prio_below good rank rise a p inside prio port below in
      let block' = few.block a p inside prio port in
      let work' = few.work a p inside prio port in
      let delay' = few.delay a p inside prio port in
      let size' = few.size a p inside prio port in
      or_from _ _ (small (least_block net rows a p) (omega (arith, block, block')))
      (or_from _ _ (small (least_work net rows delays a p) (omega (arith, work, work')))
      (or_from _ _ (small (port_delay net rows delays a p) (omega (arith, delay, delay')))
      (or_from _ _ (small (port_size net rows delays a p) (omega (arith, size, size'))) refl)))

  -- the delays on the way of a stream to the arc are at most those certified
  way_le : (r : Row) → Contains rows r → IsSome r.curve → takes a r ≡ true → (i c : ℕ) → i < hop_of a r → TakesAt r i c → delays c r.prio ≤ v.delay c r.prio
  way_le r listed express on i c less at =
      below c r.prio (rank_rises rows rank rise r listed express i (hop_of a r) c a less at (TakesAt-hop_of r a on))
      (within r listed i c at) (prio_below r listed) (has_port-from rows r c i listed express at)

  -- the burst at the next hop of one of its streams
  next_small : (stream : ℕ) (r : Row) → IsStream rows stream r → takes a r ≡ true → (d : ℕ) → d ≤ v.delay a r.prio → hop_of a r + 1 < length r.arcs
      → least_growth (burst_on net delays a r) (rate_of r) d (cost_at net a) ≤ limit
  next_small stream r is on d late more =
      let listed = contains_at rows stream r is.row in
      let j = hop_of a r in
      let e : ArcId = record { 0 = 0 } in
      let here = TakesAt-hop_of r a on in
      let b = (get_or r.arcs (j + 1) e).0 in
      let there : TakesAt r (j + 1) b = TakesAt-from r (j + 1) e more in
      let before = burst_le net rows delays v within prio_below good rank rise stream r is j (omega arith) (way_le r listed is.express on) in
      let covers = good.growth stream r is j a b here there in
      let grown = least_growth-le (burst_on net delays a r) (rate_of r) d (cost_at net a) (v.burst stream j) (v.delay a r.prio) (v.burst stream (j + 1)) before late covers in
      let least = few.burst stream r is (j + 1) more in
      omega (arith, grown, least)

  -- the ticks of one of its streams up to this hop
  ticks_small : (stream : ℕ) (r : Row) → IsStream rows stream r → takes a r ≡ true → (d : ℕ) → d ≤ v.delay a r.prio → ticks_through net delays a d r ≤ limit
  ticks_small stream r is on d late =
      let listed = contains_at rows stream r is.row in
      let j = hop_of a r in
      let here = TakesAt-hop_of r a on in
      let place = TakesAt-place r j a here in
      let before = ticks_le net delays v.delay r j (omega (arith, place.0)) (way_le r listed is.express on) in
      let now = hop_le net a d (v.delay a r.prio) late in
      let through = ticks-suc net v.delay r j a here in
      let front : ticks_before net v.delay r (j + 1) ≤ route_ticks net (λ x. v.delay x r.prio) r.arcs = front_le (λ x. hop_ticks net x.0 (v.delay x.0 r.prio)) (j + 1) r.arcs in
      let bound = good.bound stream r is in
      let least = few.bound stream r is in
      omega (arith, before, now, through, front, bound, least)

  stream_quiet : (p d : ℕ) → d ≤ v.delay a p → (r : Row) → Contains rows r → stream_passes net delays a p d r ≡ false
  stream_quiet p d late r listed =
      false_from_ne_true (stream_passes net delays a p d r)
      (λ e.
      let parts = and_parts _ _ e in
      let on = OnArc-from a p (p + 1) r parts.0 in
      let prio : r.prio ≡ p = omega (arith, on.from, on.below) in
      let late' : d ≤ v.delay a r.prio = subst (λ q. d ≤ v.delay a q) (sym prio) late in
      let is : IsStream rows listed.0 r = record { row = slice_get-get_or rows listed.0 r listed.1 ∙ ap (λ x. Some x) listed.2; express = on.express } in
      let next : next_passes net delays a d r ≡ false =
      false_from_ne_true (next_passes net delays a d r)
      (λ f.
      let both = and_parts _ _ f in
      let more = ltb-true _ _ both.0 in
      let over = ltb-true _ _ both.1 in
      let least = next_small listed.0 r is on.takes d late' more in
      omega (arith, over, least))
      in
      let ticks = small (ticks_through net delays a d r) (ticks_small listed.0 r is on.takes d late') in
      let quiet = or_from _ _ next ticks in
      true≢false (sym parts.1 ∙ quiet))

  pub port_passes_nowhere : (p : ℕ) → p < 8 → has_port rows a p ≡ true → passes net rows delays a p ≡ false
  port_passes_nowhere p prio port =
      let late = delay_le net rows delays v within prio_below good rank rise a p inside prio port below in
      or_from _ _ (port_quiet p prio port)
      (none_at (stream_passes net delays a p (port_delay net rows delays a p)) rows (stream_quiet p (port_delay net rows delays a p) late))

-- ---- the numbers of a certificate are within the limit, row by row

All-front : {X : Type 0} (P : X → Type 0) (xs ys : List X) → All P (xs ++ ys) → All P xs
All-front P [] ys h = All-nil P
All-front P (x ∷ xs) ys h = All-cons P x xs (All-head P x (xs ++ ys) h) (All-front P xs ys (All-tail P x (xs ++ ys) h))

All-back : {X : Type 0} (P : X → Type 0) (xs ys : List X) → All P (xs ++ ys) → All P ys
All-back P [] ys h = h
All-back P (x ∷ xs) ys h = All-back P xs ys (All-tail P x (xs ++ ys) h)

All-pieces : {X Y : Type 0} (P : Y → Type 0) (f : X → List Y) (xs : List X) → All P (flat_map f xs) → All (λ x. All P (f x)) xs
All-pieces P f [] h = All-nil (λ x. All P (f x))
All-pieces P f (x ∷ xs) h = All-cons (λ y. All P (f y)) x xs (All-front P (f x) (flat_map f xs) h) (All-pieces P f xs (All-back P (f x) (flat_map f xs) h))

pub enumerated_at : {X : Type 0} (n : ℕ) (xs : List X) (i k : ℕ) (x : X) → n + i ≡ k → slice_get xs i ≡ Some x → slice_get (enumerate_from n xs) i ≡ Some (k, x)
enumerated_at n [] i k x same e = absurd (cc)
enumerated_at n (y ∷ xs) zero k x same e =
    let first : n ≡ k = omega (arith, same) in
    let second : y ≡ x = cc in
    ap (λ j. Some (j, y)) first ∙ ap (λ z. Some (k, z)) second
enumerated_at n (y ∷ xs) (suc i) k x same e = enumerated_at (n + 1) xs i k x (omega (arith, same)) e

module _ (net : Network) (rows : List Row) (c : Certificate) (v : Values) (says : Says net rows c v) where
  port_small : (a p : ℕ) → a < length net.arcs → p < 8 → has_port rows a p ≡ true → PortIsWithin (port_row v (a * 8 + p))
  port_small a p inside prio port =
      let place = a * 8 + p in
      let arc : place / 8 ≡ a = omega (arith, prio) in
      let low : place % 8 ≡ p = omega (arith, prio) in
      All-kept (λ k. PortIsWithin (port_row v k)) (λ k. has_port rows (k / 8) (k % 8)) (range_with_len 0 (length net.arcs * 8))
      (All-mapped PortIsWithin (port_row v) (ports_of net rows) (subst (λ l. All PortIsWithin l) says.ports c.within.each_port))
      place place (range_at (length net.arcs * 8) place (omega (arith, inside, prio)))
      (ap (λ x. has_port rows x (place % 8)) arc ∙ ap (λ y. has_port rows a y) low ∙ port)

  moved_port : (f : ℕ → ℕ → ℕ) (a p : ℕ) → p < 8 → f ((a * 8 + p) / 8) ((a * 8 + p) % 8) ≤ limit → f a p ≤ limit
  moved_port f a p prio h =
      let arc : (a * 8 + p) / 8 ≡ a = omega (arith, prio) in
      let low : (a * 8 + p) % 8 ≡ p = omega (arith, prio) in
      subst (λ y. f a y ≤ limit) low (subst (λ x. f x ((a * 8 + p) % 8) ≤ limit) arc h)

  hop_small : (stream : ℕ) (r : Row) → IsStream rows stream r → (hop : ℕ) → hop < length r.arcs → v.burst stream hop ≤ limit
  hop_small stream r is hop inside =
      let all = All-pieces {X = ℕ × Row} {Y = ℕ × ℕ} (λ e. v.burst e.0 e.1 ≤ limit) (λ e. map (λ hop. (e.0, hop)) (range_with_len 0 (length e.1.arcs))) (streams_of rows)
      (All-mapped (λ (row : HopRow). row.burst ≤ limit) (hop_row v) (hops_of rows) (subst (λ l. All (λ row. row.burst ≤ limit) l) says.hops c.within.each_hop)) in
      let mine = All-kept {X = ℕ × Row} (λ e. All {X = ℕ × ℕ} (λ f. v.burst f.0 f.1 ≤ limit) (map (λ hop. (e.0, hop)) (range_with_len 0 (length e.1.arcs)))) (λ e. is_stream e.1) (enumerate_from 0 rows) all
      stream (stream, r) (enumerated_at 0 rows stream stream r (omega arith) is.row) is.express in
      let each = All-mapped {X = ℕ} {Y = ℕ × ℕ} (λ f. v.burst f.0 f.1 ≤ limit) (λ h. (stream, h)) (range_with_len 0 (length r.arcs)) mine in
      let here = each hop 0 (omega (arith, inside, length-range_with_len 0 (length r.arcs))) in
      subst (λ h. v.burst stream h ≤ limit) (in_place (length r.arcs) hop inside) here

  bound_small : (stream : ℕ) (r : Row) → IsStream rows stream r → v.bound stream ≤ limit
  bound_small stream r is =
      All-kept {X = ℕ × Row} (λ e. v.bound e.0 ≤ limit) (λ e. is_stream e.1) (enumerate_from 0 rows)
      (All-mapped {X = ℕ × Row} (λ (row : StreamId × ℕ). row.1 ≤ limit) (bound_row v) (streams_of rows) (subst (λ l. All (λ row. row.1 ≤ limit) l) says.bounds c.within.each_bound))
      stream (stream, r) (enumerated_at 0 rows stream stream r (omega arith) is.row) is.express

  pub values_within : ValuesWithin net rows v
  values_within = record {
    block = λ a p inside prio port. moved_port v.block a p prio (port_small a p inside prio port).block;
    work = λ a p inside prio port. moved_port v.work a p prio (port_small a p inside prio port).work;
    delay = λ a p inside prio port. moved_port v.delay a p prio (port_small a p inside prio port).delay;
    size = λ a p inside prio port. moved_port v.size a p prio (port_small a p inside prio port).size;
    burst = hop_small;
    bound = bound_small;
  }

-- ---- the promises

pub good_pass_nowhere : (net : Network) (streams : Streams) (rank : ℕ → ℕ) (delays : Delays) → Fits net streams → PriosBelow streams.rows → Rise streams.rows rank → HasGood net streams
    → AtPorts net streams.rows (λ arc prio. SettledBelow net streams.rows rank delays arc → passes net streams.rows delays arc prio ≡ false)
good_pass_nowhere net streams rank delays fits prios rise (c, good, ranked) a p inside prio port settled =
    let within = ArcsWithin-fits net streams fits in
    port_passes_nowhere net streams.rows delays good.values within prios good.good (values_within net streams.rows c good.values good.says) rank rise a inside
    (λ b q lower there low other. delays_below net streams.rows delays good.values within prios good.good rank rise (rank a) settled (suc (rank b)) b q (omega arith) lower there low other)
    p prio port

pub good_have_room : (net : Network) (streams : Streams) (delays : Delays) → Fits net streams → PriosBelow streams.rows → HasGood net streams → Settled net streams.rows delays → HaveRoom net streams.rows delays
good_have_room net streams delays fits prios (c, good, ranked) settled a p inside prio port =
    let v = good.values in
    let size = sizes_le net streams.rows delays v (ArcsWithin-fits net streams fits) prios good.good v.rank (ranks_rise net streams c good fits prios ranked) settled a p inside prio port in
    let ring = good.good.ring a p inside prio port in
    omega (arith, size, ring)

-- ---- settled delays are the same

module _ (net : Network) (streams : Streams) (rank : ℕ → ℕ) (delays other : Delays) (fits : Fits net streams) (prios : PriosBelow streams.rows) (rise : Rise streams.rows rank)
    (top : ℕ) (settled : AtPorts net streams.rows (λ b q. rank b < top → delays b q ≡ port_delay net streams.rows delays b q)) (settled_too : AtPorts net streams.rows (λ b q. rank b < top → other b q ≡ port_delay net streams.rows other b q)) where
  way_alike : (a : ℕ) → ((b q : ℕ) → rank b < rank a → b < length net.arcs → q < 8 → has_port streams.rows b q ≡ true → delays b q ≡ other b q) → SameOnTheWay streams.rows delays other a
  way_alike a below r listed express on i c less at =
      below c r.prio (rank_rises streams.rows rank rise r listed express i (hop_of a r) c a less at (TakesAt-hop_of r a on))
      (ArcsWithin-fits net streams fits r listed i c at) (prios r listed) (has_port-from streams.rows r c i listed express at)

  pub delays_alike : (n a p : ℕ) → rank a < n → rank a < top → a < length net.arcs → p < 8 → has_port streams.rows a p ≡ true → delays a p ≡ other a p
  delays_alike zero a p less lower inside prio port = absurd (omega arith)
  delays_alike (suc n) a p less lower inside prio port =
      settled a p inside prio port lower
      ∙ delay_same net streams.rows delays other a (way_alike a (λ b q under there low had. delays_alike n b q (omega arith) (omega arith) there low had)) p
      ∙ sym (settled_too a p inside prio port lower)

pub settled_alike : (net : Network) (streams : Streams) (rank : ℕ → ℕ) (delays other : Delays) (a p : ℕ) → Fits net streams → PriosBelow streams.rows → Rise streams.rows rank
    → SettledBelow net streams.rows rank delays a → SettledBelow net streams.rows rank other a
    → (least_port net streams.rows delays a p ≡ least_port net streams.rows other a p) × (passes net streams.rows delays a p ≡ passes net streams.rows other a p)
settled_alike net streams rank delays other a p fits prios rise settled settled_too =
    alike net streams.rows delays other a
    (way_alike net streams rank delays other fits prios rise (rank a) settled settled_too a
    (λ b q under there low had. delays_alike net streams rank delays other fits prios rise (rank a) settled settled_too (suc (rank b)) b q (omega arith) under there low had)) p
