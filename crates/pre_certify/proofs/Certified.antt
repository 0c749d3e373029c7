-- The rows that were found are those of a certificate, and within the limit.
use Rattle.std.proofs.Common.{◌≡◌, ℕ, zero, suc, ◌+◌, ◌*◌, ◌/◌, ◌%◌, ◌<◌, ◌≤◌, ◌^◌, Bool, true, false, cond, List}
use Rattle.std.proofs.Common.{[], ◌∷◌, ◌++◌, Option, Some, None, refl, sym, ◌∙◌, ap, subst, arith, inl, inr, length, get_or, map}
use Rattle.std.proofs.Common.{if◌then◌else◌}
use Rattle.std.specs.Prelude.{slice_get, All, filter, Contains, nat_lt, ◌||◌, unwrap_or, slice_index, is_none, IfSome}
use Rattle.std.specs.Option.{option_map_or}
use Rattle.std.specs.List.{range_with_len, enumerate_from, flat_map, list_any}
use Rattle.std.proofs.lemmas.Bool.{cases_Bool, cases_lt, or_parts, ltb-false}
use Rattle.std.proofs.lemmas.List.{take_all, map-append, length-map}
use Rattle.std.proofs.lemmas.List.Sums.{sum_by-cons}
use Rattle.std.proofs.lemmas.List.Elements.{All-nil, All-cons, All-head, All-tail, All-append, All-map}
use Rattle.std.proofs.lemmas.List.FromFn.{get_or-range_with_len, length-range_with_len}
use Rattle.std.proofs.lemmas.Option.{slice_get_within, slice_get-get_or, get_or_from_slice_get}
use Rattle.pre_base.specs.declared.limits.TheConstants.{GREATEST_FRAME}
use Rattle.pre_base.specs.declared.numbers.StreamId.{StreamId}
use Rattle.pre_curve.specs.declared.curves.Curve.{Curve}
use Rattle.pre_topo.specs.declared.network.Network.{Network}
use Rattle.pre_streams.specs.declared.rows.Row.{Row}
use Rattle.pre_streams.specs.declared.rows.Streams.{Streams}
use Rattle.pre_streams.specs.Fits.{Fits}
use Rattle.pre_streams.specs.Rows.{IsCurveOf}
use Rattle.pre_bound.specs.declared.rows.ArcRow.{ArcRow}
use Rattle.pre_bound.specs.declared.rows.HopRow.{HopRow}
use Rattle.pre_bound.specs.declared.rows.PortRow.{PortRow}
use Rattle.pre_bound.specs.declared.certificate.Certificate.{Certificate}
use Rattle.pre_bound.specs.Limits.{limit, ArcIsWithin, PortIsWithin, IsWithin}
use Rattle.pre_bound.specs.Uses.{is_stream, has_arc, has_flow, has_port, cost_at, largest_at, largest_used}
use Rattle.pre_bound.specs.Along.{Delays, burst_at, route_ticks, least_block, least_work, port_delay, port_size}
use Rattle.pre_bound.specs.Chains.{AreRanks, IsRank}
use Rattle.pre_bound.specs.Good.{AtStreams, IsStream}
use Rattle.pre_bound.specs.Settled.{values_over, PriosBelow}
use Rattle.pre_bound.specs.Places.{ports_of, streams_of, hops_of}
use Rattle.pre_bound.specs.Listed.{Says, port_row, hop_row, bound_row}
use Rattle.pre_bound.specs.Passing.{ticks_before, port_passes, stream_passes}
use Rattle.pre_certify.specs.Loads.{NoOverload}
use Rattle.pre_certify.specs.Tables.{delays_in}
use Rattle.pre_certify.specs.Turns.{IsTable, ranks_in}
use Rattle.pre_certify.specs.Written.{arc_at, values_at, hops_at, all_hops, bound_at}
use Rattle.pre_certify.specs.Peels.{IsOpen, Peeled, open_count}
use Rattle.pre_certify.specs.Peelings.{PeelsRows}
use Rattle.pre_certify.specs.Ranked.{HaveRanks}
use Rattle.pre_certify.specs.declared.ranks.Peeling.TheVariants as peeling
use Rattle.pre_bound.specs.Settled.{Settled}
use Rattle.pre_bound.specs.Promises.{BurstsWithin, BoundsWithin}
use Rattle.pre_topo.specs.declared.arcs.Arc.{Arc}
use Rattle.pre_certify.proofs.Loading.{rates_small}

contains_head : {X : Type 0} (x : X) (xs : List X) → Contains (x ∷ xs) x
contains_head x xs = (0, omega arith, refl)

contains_tail : {X : Type 0} (x y : X) (xs : List X) → Contains xs y → Contains (x ∷ xs) y
contains_tail x y xs c = (suc c.0, omega (arith, c.1), c.2)

All-filtered : {X : Type 0} (P : X → Type 0) (p : X → Bool) (xs : List X) → ((x : X) → Contains xs x → p x ≡ true → P x) → All P (filter p xs)
All-filtered P p [] h = All-nil P
All-filtered P p (x ∷ xs) h =
    let rest : All P (filter p xs) = All-filtered P p xs (λ y c e. h y (contains_tail x y xs c) e) in
    elim (cases_Bool (p x)) [
      | inl one ↦ rw one (All-cons P x (filter p xs) (h x (contains_head x xs) one) rest)
      | inr none ↦ rw none rest
    ]

in_range : (n k : ℕ) → Contains (range_with_len 0 n) k → k < n
in_range n k c =
    let inside : c.0 < n = omega (arith, c.1, length-range_with_len 0 n) in
    let same = get_or-range_with_len 0 n c.0 k inside in
    omega (arith, same, c.2)

enumerated : {X : Type 0} (n : ℕ) (xs : List X) (k : ℕ) (e : ℕ × X) → k < length (enumerate_from n xs) → get_or (enumerate_from n xs) k e ≡ e → (i : ℕ) × (n + i ≡ e.0) × (slice_get xs i ≡ Some e.1)
enumerated n [] k e h at = absurd (omega arith)
enumerated n (x ∷ xs) zero e h at = (0, let first : n ≡ e.0 = ap (λ y. y.0) at in omega (arith, first), ap (λ y. Some y.1) at)
enumerated n (x ∷ xs) (suc k) e h at = let rest = enumerated (n + 1) xs k e (omega arith) at in (suc rest.0, omega (arith, rest.1), rest.2)

stream_at : (rows : List Row) (e : ℕ × Row) → Contains (enumerate_from 0 rows) e → is_stream e.1 ≡ true → IsStream rows e.0 e.1
stream_at rows e c express =
    let found = enumerated 0 rows c.0 e c.1 c.2 in
    let number : found.0 ≡ e.0 = omega (arith, found.1) in
    record { row = subst (λ n. slice_get rows n ≡ Some e.1) number found.2; express = express }

pub each_stream : (rows : List Row) (P : ℕ × Row → Type 0) → ((e : ℕ × Row) → IsStream rows e.0 e.1 → P e) → All P (streams_of rows)
each_stream rows P h = All-filtered P (λ e. is_stream e.1) (enumerate_from 0 rows) (λ e c express. h e (stream_at rows e c express))

pub map_same : {X Y : Type 0} (f g : X → Y) (xs : List X) → All (λ x. f x ≡ g x) xs → map f xs ≡ map g xs
map_same f g [] h = refl
map_same f g (x ∷ xs) h = ap (λ y. y ∷ map f xs) (All-head (λ z. f z ≡ g z) x xs h) ∙ ap (λ l. g x ∷ l) (map_same f g xs (All-tail (λ z. f z ≡ g z) x xs h))

-- each row of the pieces of a list
pub All-pieces : {X A : Type 0} (P : A → Type 0) (f : X → List A) (xs : List X) → All (λ x. All P (f x)) xs → All P (flat_map f xs)
All-pieces P f [] h = All-nil P
All-pieces P f (x ∷ xs) h = All-append P (f x) (flat_map f xs) (All-head (λ y. All P (f y)) x xs h) (All-pieces P f xs (All-tail (λ y. All P (f y)) x xs h))

pub pieces_same : {X A B : Type 0} (f : X → List B) (g : A → B) (h : X → List A) (xs : List X) → All (λ x. f x ≡ map g (h x)) xs → flat_map f xs ≡ map g (flat_map h xs)
pieces_same f g h [] all = refl
pieces_same f g h (x ∷ xs) all =
    ap (λ l. l ++ flat_map f xs) (All-head (λ y. f y ≡ map g (h y)) x xs all)
    ∙ ap (λ l. map g (h x) ++ l) (pieces_same f g h xs (All-tail (λ y. f y ≡ map g (h y)) x xs all))
    ∙ sym (map-append g (h x) (flat_map h xs))

pub All-range : (P : ℕ → Type 0) (n : ℕ) → ((k : ℕ) → k < n → P k) → All P (range_with_len 0 n)
All-range P n h = λ k d less.
    let inside : k < n = omega (arith, less, length-range_with_len 0 n) in
    subst P (sym (get_or-range_with_len 0 n k d inside)) (h (0 + k) (omega arith))

pub map-map : {X Y Z : Type 0} (f : Y → Z) (g : X → Y) (xs : List X) → map f (map g xs) ≡ map (λ x. f (g x)) xs
map-map f g [] = refl
map-map f g (x ∷ xs) = ap (λ l. f (g x) ∷ l) (map-map f g xs)

module _ (net : Network) (rows : List Row) (ranks table : List ℕ) where
  bursts_same : (e : ℕ × Row) → IsStream rows e.0 e.1 → hops_at net (delays_in table) e.0 e.1 ≡ map (hop_row (values_over net rows (ranks_in ranks) (delays_in table))) (map (λ hop. (e.0, hop)) (range_with_len 0 (length e.1.arcs)))
  bursts_same e is =
      let row : ℕ → ℕ → HopRow = λ hop burst. record { stream = record { 0 = e.0 }; hop = hop; burst = burst } in
      map_same (λ hop. row hop (burst_at net (delays_in table) e.1 hop)) (λ hop. row hop (option_map_or (λ r. burst_at net (delays_in table) r hop) (slice_get rows e.0) 0)) (range_with_len 0 (length e.1.arcs))
      (λ k d inside. ap (λ o. row (get_or (range_with_len 0 (length e.1.arcs)) k d) (option_map_or (λ r. burst_at net (delays_in table) r (get_or (range_with_len 0 (length e.1.arcs)) k d)) o 0)) (sym is.row))
      ∙ sym (map-map (hop_row (values_over net rows (ranks_in ranks) (delays_in table))) (λ (hop : ℕ). (e.0, hop)) (range_with_len 0 (length e.1.arcs)))

  pub hops_written : all_hops net (delays_in table) (streams_of rows) ≡ map (hop_row (values_over net rows (ranks_in ranks) (delays_in table))) (hops_of rows)
  hops_written =
      pieces_same (λ (e : ℕ × Row). hops_at net (delays_in table) e.0 e.1) (hop_row (values_over net rows (ranks_in ranks) (delays_in table))) (λ e. map (λ hop. (e.0, hop)) (range_with_len 0 (length e.1.arcs))) (streams_of rows)
      (each_stream rows (λ e. hops_at net (delays_in table) e.0 e.1 ≡ map (hop_row (values_over net rows (ranks_in ranks) (delays_in table))) (map (λ hop. (e.0, hop)) (range_with_len 0 (length e.1.arcs)))) bursts_same)

  pub bounds_written : map (bound_at net (delays_in table)) (streams_of rows) ≡ map (bound_row (values_over net rows (ranks_in ranks) (delays_in table))) (streams_of rows)
  bounds_written =
      map_same (bound_at net (delays_in table)) (bound_row (values_over net rows (ranks_in ranks) (delays_in table))) (streams_of rows)
      (each_stream rows (λ e. bound_at net (delays_in table) e ≡ bound_row (values_over net rows (ranks_in ranks) (delays_in table)) e)
      (λ e is.
      ap (λ l. (record { 0 = e.0 }, route_ticks net (λ a. delays_in table a e.1.prio) l)) (take_all (length e.1.arcs) e.1.arcs (omega arith))
      ∙ ap (λ o. (record { 0 = e.0 }, option_map_or (λ r. route_ticks net (λ a. delays_in table a r.prio) r.arcs) o 0)) (sym is.row)))

  -- the numbers of a port are within the limit
  port_within : NoOverload net rows → IsTable net rows table → (k : ℕ) → k < length net.arcs * 8 → has_port rows (k / 8) (k % 8) ≡ true → 1 ≤ cost_at net (k / 8) → PortIsWithin (port_row (values_over net rows (ranks_in ranks) (delays_in table)) k)
  port_within load t k inside port some =
      let a = k / 8 in
      let p = k % 8 in
      let d = delays_in table in
      let arc : a < length net.arcs = omega arith in
      let settled = t.settled a p arc (omega arith) port in
      let whole = or_parts (port_passes net rows d a p) (list_any (stream_passes net d a p (port_delay net rows d a p)) rows) settled.small in
      let first = or_parts (nat_lt limit (least_block net rows a p)) (nat_lt limit (least_work net rows d a p) || (nat_lt limit (port_delay net rows d a p) || (nat_lt limit (port_size net rows d a p) || false))) whole.0 in
      let second = or_parts (nat_lt limit (least_work net rows d a p)) (nat_lt limit (port_delay net rows d a p) || (nat_lt limit (port_size net rows d a p) || false)) first.1 in
      let third = or_parts (nat_lt limit (port_delay net rows d a p)) (nat_lt limit (port_size net rows d a p) || false) second.1 in
      let fourth = or_parts (nat_lt limit (port_size net rows d a p)) false third.1 in
      let rate = rates_small net rows a (p + 1) 8 (omega arith) some (load a arc) in
      record {
        block = ltb-false limit (least_block net rows a p) first.0;
        work = ltb-false limit (least_work net rows d a p) second.0;
        rate = omega (arith, rate);
        delay = t.within (a * 8 + p);
        size = ltb-false limit (port_size net rows d a p) fourth.0;
      }

-- a stream's bursts are within the limit where those behind its first hop are
pub bursts_small : (net : Network) (streams : Streams) (delays : Delays) → Fits net streams
    → AtStreams streams.rows (λ stream r. (hop : ℕ) → hop + 1 < length r.arcs → burst_at net delays r (hop + 1) ≤ limit)
    → AtStreams streams.rows (λ stream r. (hop : ℕ) → hop < length r.arcs → burst_at net delays r hop ≤ limit)
bursts_small net streams delays fits later stream r is zero inside = declared r.curve curve
  where
    declared : (o : Option Curve) → ((c : Curve) → o ≡ Some c → c.burst ≤ 10 ^ 9) → option_map_or (λ c. c.burst) o 0 ≤ limit
    declared None h = omega arith
    declared (Some c) h = let small = h c refl in omega (arith, small)

    some_curve : (o : Option Curve) (max : ℕ) → IfSome o (IsCurveOf max) → (c : Curve) → o ≡ Some c → c.burst ≤ 10 ^ 9
    some_curve None max h c e = absurd (cc)
    some_curve (Some x) max h c e = let same : x ≡ c = cc in subst (λ y. y.burst ≤ 10 ^ 9) same h.burst.1

    curve : (c : Curve) → r.curve ≡ Some c → c.burst ≤ 10 ^ 9
    curve =
        let place = slice_get_within streams.rows stream r is.row in
        let rule = fits.each stream r place in
        let same : get_or streams.rows stream r ≡ r = get_or_from_slice_get streams.rows stream r r is.row in
        some_curve r.curve r.max (subst (λ x. IfSome x.curve (IsCurveOf x.max)) same rule.curve)
bursts_small net streams delays fits later stream r is (suc hop) inside =
    let eq : hop + 1 ≡ suc hop = omega arith in
    let at : burst_at net delays r (hop + 1) ≤ limit = later stream r is hop (omega arith) in
    subst (λ n. burst_at net delays r n ≤ limit) eq at

-- ranks without their options
ranked_at : (rs : List (Option ℕ)) (a r : ℕ) → slice_get rs a ≡ Some (Some r) → slice_index (map (λ o. unwrap_or o 0) rs) a ≡ r
ranked_at [] a r e = absurd (cc)
ranked_at (o ∷ rs) zero r e = let same : o ≡ Some r = cc in ap (λ x. unwrap_or x 0) same
ranked_at (o ∷ rs) (suc a) r e = ranked_at rs a r e

past_end : (rs : List (Option ℕ)) (a : ℕ) → length rs ≤ a → slice_index (map (λ o. unwrap_or o 0) rs) a ≡ 0
past_end [] a h = refl
past_end (o ∷ rs) zero h = absurd (omega arith)
past_end (o ∷ rs) (suc a) h = past_end rs a (omega arith)

open_counts : (rs : List (Option ℕ)) (a : ℕ) → IsOpen rs a → 0 < open_count rs
open_counts [] a e = absurd (cc)
open_counts (None ∷ rs) a e = let count = sum_by-cons (λ (o : Option ℕ). cond (is_none o) 1 0) None rs in omega (arith, count)
open_counts (Some r ∷ rs) zero e = absurd (cc)
open_counts (Some r ∷ rs) (suc a) e =
    let count = sum_by-cons (λ (o : Option ℕ). cond (is_none o) 1 0) (Some r) rs in
    let rest = open_counts rs a e in
    omega (arith, count, rest)

all_ranked : (rs : List (Option ℕ)) → open_count rs ≡ 0 → (a : ℕ) → a < length rs → (r : ℕ) × (slice_get rs a ≡ Some (Some r))
all_ranked rs none a inside = cases (get_or rs a None) (slice_get-get_or rs a None inside)
  where
    cases : (o : Option ℕ) → slice_get rs a ≡ Some o → (r : ℕ) × (slice_get rs a ≡ Some (Some r))
    cases None e = absurd (let some = open_counts rs a e in omega (arith, some, none))
    cases (Some r) e = (r, e)

pub ranks_final : (net : Network) (rows : List Row) (round : ℕ) (rs : List (Option ℕ)) → length rs ≡ length net.arcs → open_count rs ≡ 0 → Peeled rows round rs → AreRanks net rows (ranks_in (map (λ o. unwrap_or o 0) rs))
ranks_final net rows round rs long none peeled a inside =
    let found = all_ranked rs none a (omega (arith, inside, long)) in
    let rank = (peeled.ranked a found.0 found.1).0 in
    subst (λ n. IsRank rows a n) (sym (ranked_at rs a found.0 found.1)) rank

pub ranks_few : (rows : List Row) (round : ℕ) (rs : List (Option ℕ)) → open_count rs ≡ 0 → Peeled rows round rs → round ≤ 256 → (a : ℕ) → ranks_in (map (λ o. unwrap_or o 0) rs) a ≤ 256
ranks_few rows round rs none peeled few a =
    elim (cases_lt a (length rs)) [
      | inl inside ↦
          let found = all_ranked rs none a inside in
          let low = (peeled.ranked a found.0 found.1).1 in
          let same = ranked_at rs a found.0 found.1 in
          omega (arith, low, same, few)
      | inr past ↦ let same = past_end rs a past in omega (arith, same)
    ]

-- no arc carries a frame above the limit
pub largest_small : (net : Network) (rows : List Row) (a : ℕ) → largest_used net rows a ≤ limit
largest_small net rows a = by_cases (has_flow rows a)
  where
    carried : (o : Option Arc) → slice_get net.arcs a ≡ o → option_map_or (λ x. x.largest) o 0 ≤ limit
    carried None e = omega arith
    carried (Some x) e =
        let rule = net.rules.each_arc a x (slice_get_within net.arcs a x e) in
        let same : get_or net.arcs a x ≡ x = get_or_from_slice_get net.arcs a x x e in
        let most : x.largest ≤ GREATEST_FRAME = subst (λ y. y.largest ≤ GREATEST_FRAME) same rule.largest.1 in
        omega (arith, most)

    by_cases : (b : Bool) → (if b then largest_at net a else 0) ≤ limit
    by_cases true = carried (slice_get net.arcs a) refl
    by_cases false = omega arith

-- the four lists of rows are within the limit
pub rows_within : (net : Network) (rows : List Row) (ranks table : List ℕ) (c : List ArcRow) (ports : List PortRow) (hops : List HopRow) (bounds : List (StreamId × ℕ))
    → NoOverload net rows → ((a : ℕ) → ranks_in ranks a ≤ 256) → IsTable net rows table → ((a : ℕ) → a < length net.arcs → 1 ≤ cost_at net a)
    → AtStreams rows (λ stream r. (hop : ℕ) → hop < length r.arcs → burst_at net (delays_in table) r hop ≤ limit)
    → AtStreams rows (λ stream r. ticks_before net (delays_in table) r (length r.arcs) ≤ limit)
    → c ≡ map (arc_at net rows ranks) (filter (has_arc rows) (range_with_len 0 (length ranks)))
    → ports ≡ map (port_row (values_at net rows (delays_in table))) (ports_of net rows)
    → hops ≡ all_hops net (delays_in table) (streams_of rows)
    → bounds ≡ map (bound_at net (delays_in table)) (streams_of rows)
    → IsWithin c ports hops bounds
rows_within net rows ranks table c ports hops bounds load few t some bursts ticks e f g h = record {
  each_arc = subst (λ l. All ArcIsWithin l) (sym e)
      (All-map ArcIsWithin (arc_at net rows ranks) (filter (has_arc rows) (range_with_len 0 (length ranks)))
      (λ k d inside.
      let a = get_or (filter (has_arc rows) (range_with_len 0 (length ranks))) k d in
      let small = few a in
      record { rank = omega (arith, small); largest = largest_small net rows a }));
  each_port = subst (λ l. All PortIsWithin l) (sym f)
      (All-map PortIsWithin (port_row (values_at net rows (delays_in table))) (ports_of net rows)
      (All-filtered (λ k. PortIsWithin (port_row (values_at net rows (delays_in table)) k)) (λ place. has_port rows (place / 8) (place % 8)) (range_with_len 0 (length net.arcs * 8))
      (λ k inside port. let low = in_range (length net.arcs * 8) k inside in port_within net rows ranks table load t k low port (some (k / 8) (omega arith)))));
  each_hop = subst (λ l. All (λ row. row.burst ≤ limit) l) (sym g)
      (All-pieces (λ (row : HopRow). row.burst ≤ limit) (λ (x : ℕ × Row). hops_at net (delays_in table) x.0 x.1) (streams_of rows)
      (each_stream rows (λ x. All (λ (row : HopRow). row.burst ≤ limit) (hops_at net (delays_in table) x.0 x.1))
      (λ x is. All-map (λ (row : HopRow). row.burst ≤ limit) (λ hop. record { stream = record { 0 = x.0 }; hop = hop; burst = burst_at net (delays_in table) x.1 hop }) (range_with_len 0 (length x.1.arcs))
      (All-range (λ hop. burst_at net (delays_in table) x.1 hop ≤ limit) (length x.1.arcs) (λ hop inside. bursts x.0 x.1 is hop inside)))));
  each_bound = subst (λ l. All (λ row. row.1 ≤ limit) l) (sym h)
      (All-map (λ row. row.1 ≤ limit) (bound_at net (delays_in table)) (streams_of rows)
      (each_stream rows (λ x. ticks_before net (delays_in table) x.1 (length x.1.arcs) ≤ limit) (λ x is. ticks x.0 x.1 is)));
}

pub says_written : (net : Network) (rows : List Row) (ranks table : List ℕ) (c : Certificate) → length ranks ≡ length net.arcs
    → c.arcs ≡ map (arc_at net rows ranks) (filter (has_arc rows) (range_with_len 0 (length ranks)))
    → c.ports ≡ map (port_row (values_at net rows (delays_in table))) (ports_of net rows)
    → c.hops ≡ all_hops net (delays_in table) (streams_of rows)
    → c.bounds ≡ map (bound_at net (delays_in table)) (streams_of rows)
    → Says net rows c (values_over net rows (ranks_in ranks) (delays_in table))
says_written net rows ranks table c long e f g h = record {
  arcs = e ∙ ap (λ n. map (arc_at net rows ranks) (filter (has_arc rows) (range_with_len 0 n))) long;
  ports = f;
  hops = g ∙ hops_written net rows ranks table;
  bounds = h ∙ bounds_written net rows ranks table;
}

-- each arc of the network costs something
pub cost_some : (net : Network) (a : ℕ) → a < length net.arcs → 1 ≤ cost_at net a
cost_some net a inside = cases (slice_get net.arcs a) refl
  where
    cases : (o : Option Arc) → slice_get net.arcs a ≡ o → 1 ≤ option_map_or (λ x. x.cost) o 0
    cases None e =
        absurd (elim (cases_lt a (length net.arcs)) [
          | inl low ↦ no_none net.arcs a low e
          | inr past ↦ omega arith
        ])
      where
        no_none : (xs : List Arc) (k : ℕ) → k < length xs → slice_get xs k ≡ None → ⊥
        no_none [] k h q = omega arith
        no_none (x ∷ xs) zero h q = cc
        no_none (x ∷ xs) (suc k) h q = no_none xs k (omega arith) q
    cases (Some x) e =
        let rule = net.rules.each_arc a x inside in
        let same : get_or net.arcs a x ≡ x = get_or_from_slice_get net.arcs a x x e in
        subst (λ y. 1 ≤ y.cost) same rule.cost.0

pub have_ranks : (net : Network) (rows : List Row) (arcs : ℕ) (rs list : List (Option ℕ)) (numbers : List ℕ) → PeelsRows rows arcs (peeling.Ranked rs) → arcs ≡ length net.arcs → list ≡ rs
    → numbers ≡ map (λ o. unwrap_or o 0) list → HaveRanks net rows numbers
have_ranks net rows arcs rs list numbers peels count same e =
    let few = net.rules.arc_count.1 in
    let now : numbers ≡ map (λ o. unwrap_or o 0) rs = e ∙ ap (map (λ o. unwrap_or o 0)) same in
    let long : length rs ≡ length net.arcs = peels.0 ∙ count in
    record {
      long = ap length now ∙ length-map rs (λ o. unwrap_or o 0) ∙ long;
      few = λ a. subst (λ l. ranks_in l a ≤ 256) (sym now) (ranks_few rows peels.2.0 rs peels.1 peels.2.1 (omega (arith, peels.2.2, count, few)) a);
      are = subst (λ l. AreRanks net rows (ranks_in l)) (sym now) (ranks_final net rows peels.2.0 rs long peels.1 peels.2.1);
    }

module _ (net : Network) (streams : Streams) (rows : List Row) (ranks table : List ℕ) (e : rows ≡ streams.rows) (fits : Fits net streams) (prios : PriosBelow streams.rows) (have : HaveRanks net streams.rows ranks) (t : IsTable net streams.rows table) where
  pub settled_delays : Settled net streams.rows (delays_in table)
  settled_delays = λ a p inside prio port. (t.settled a p inside prio port).delay

  pub all_bursts : BurstsWithin → AtStreams rows (λ stream r. (hop : ℕ) → hop < length r.arcs → burst_at net (delays_in table) r hop ≤ limit)
  all_bursts law =
      subst (λ l. AtStreams l (λ stream r. (hop : ℕ) → hop < length r.arcs → burst_at net (delays_in table) r hop ≤ limit)) (sym e)
      (bursts_small net streams (delays_in table) fits (law net streams (ranks_in ranks) (delays_in table) fits prios have.are settled_delays (λ a p inside prio port. (t.settled a p inside prio port).small)))

  pub all_bounds : BoundsWithin → AtStreams rows (λ stream r. ticks_before net (delays_in table) r (length r.arcs) ≤ limit)
  all_bounds law =
      subst (λ l. AtStreams l (λ stream r. ticks_before net (delays_in table) r (length r.arcs) ≤ limit)) (sym e)
      (law net streams (ranks_in ranks) (delays_in table) fits prios have.are settled_delays (λ a p inside prio port. (t.settled a p inside prio port).small))
