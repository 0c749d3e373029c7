-- The rows that were found are those of the settled round, and within the limit.
use Rattle.std.proofs.Common.{◌≡◌, ℕ, zero, suc, ◌+◌, ◌*◌, ◌/◌, ◌%◌, ◌<◌, ◌≤◌, true, false, List, refl, sym, ◌∙◌, ap, subst, arith, length, get_or, map}
use Rattle.std.specs.Prelude.{All, nat_lt, ◌||◌}
use Rattle.std.specs.Option.{option_map_or}
use Rattle.std.specs.List.{range_with_len, list_any, enumerate_from}
use Rattle.std.proofs.lemmas.Bool.{or_parts, ltb-false}
use Rattle.std.proofs.lemmas.List.{take_all}
use Rattle.std.proofs.lemmas.List.Elements.{All-map}
use Rattle.pre_base.specs.declared.numbers.StreamId.{StreamId}
use Rattle.pre_base.specs.declared.numbers.ArcId.{ArcId}
use Rattle.pre_topo.specs.declared.network.Network.{Network}
use Rattle.pre_streams.specs.declared.rows.Row.{Row}
use Rattle.pre_bound.specs.declared.rows.ArcRow.{ArcRow}
use Rattle.pre_bound.specs.declared.rows.HopRow.{HopRow}
use Rattle.pre_bound.specs.declared.rows.PortRow.{PortRow}
use Rattle.pre_bound.specs.declared.certificate.Certificate.{Certificate}
use Rattle.pre_bound.specs.Limits.{limit, ArcIsWithin, PortIsWithin, IsWithin}
use Rattle.pre_bound.specs.Uses.{TakesAt, has_port}
use Rattle.pre_bound.specs.Along.{Delays, route_ticks, hop_ticks, least_block}
use Rattle.pre_bound.specs.Good.{IsStream, AtPorts}
use Rattle.pre_bound.specs.Places.{arcs_of, ports_of, streams_of}
use Rattle.pre_bound.specs.Listed.{Says, port_row, hop_row, bound_row}
use Rattle.pre_bound.specs.Passing.{ticks_before}
use Rattle.pre_bound.proofs.Hops.{TakesAt-from, has_port-from, contains_at}
use Rattle.pre_bound.proofs.Placed.{All-filtered, in_range}
use Rattle.pre_bound.proofs.Ordered.{ticks-suc}
use Rattle.pre_certify.specs.Loads.{NoOverload}
use Rattle.pre_certify.specs.Tables.{delays_in}
use Rattle.pre_certify.specs.Written.{bound_at}
use Rattle.pre_certify.proofs.Loading.{rates_small}
use Rattle.pre_certify.proofs.Certified.{each_stream, map_same, All-pieces, pieces_same, All-range, map-map, largest_small, cost_some}
use Rattle.pre_rounds.specs.Rounds.{Bursts, work_over, delay_over, size_over, port_over, round_bursts, round_values}
use Rattle.pre_rounds.specs.Passing.{numbers_pass, leaving_passes, need_over, is_short}
use Rattle.pre_rounds.specs.Settling.{IsFirstPort}
use Rattle.pre_rounds.specs.Causes.{round_delays, NoneWide, FirstWide, FirstShort, FirstWideRound}
use Rattle.pre_rounds.specs.Routed.{AreRouted}
use Rattle.pre_rounds.specs.Tables.{bursts_in, AreSettled}
use Rattle.pre_rounds.specs.Written.{arc_at, hops_at, all_hops}
use Rattle.pre_rounds.proofs.Same.{delay_over-same, port_over-same, is_short-same, need_over-same}
use Rattle.pre_rounds.proofs.Places.{first_same}

-- the ticks of a route, where the delays of its ports are the same
pub ticks_same : (net : Network) (rows : List Row) → AreRouted net rows → (delays other : Delays) → AtPorts net rows (λ a p. delays a p ≡ other a p)
    → (stream : ℕ) (r : Row) → IsStream rows stream r → (j : ℕ) → j ≤ length r.arcs → ticks_before net delays r j ≡ ticks_before net other r j
ticks_same net rows routed delays other same stream r is zero h = refl
ticks_same net rows routed delays other same stream r is (suc k) h =
    let d : ArcId = record { 0 = 0 } in
    let a = (get_or r.arcs k d).0 in
    let listed = contains_at rows stream r is.row in
    let here : TakesAt r k a = TakesAt-from r k d (omega arith) in
    let before = ticks_same net rows routed delays other same stream r is k (omega arith) in
    let now : delays a r.prio ≡ other a r.prio = same a r.prio (routed.within r listed k a here) (routed.prio r listed) (has_port-from rows r a k listed is.express here) in
    let step : ticks_before net delays r (k + 1) ≡ ticks_before net other r (k + 1) =
    ticks-suc net delays r k a here ∙ ap (λ b. b + hop_ticks net a (delays a r.prio)) before
    ∙ ap (λ n. ticks_before net other r k + hop_ticks net a n) now ∙ sym (ticks-suc net other r k a here)
    in
    let eq : k + 1 ≡ suc k = omega arith in
    subst (λ n. ticks_before net delays r n ≡ ticks_before net other r n) eq step

module _ (net : Network) (rows : List Row) (routed : AreRouted net rows) (table delays : List ℕ) (t : AreSettled net rows table delays) where
  b : Bursts
  b = round_bursts net rows t.round

  delay_same : AtPorts net rows (λ a p. delays_in delays a p ≡ round_delays net rows t.round a p)
  delay_same a p inside prio port = t.has_delays.same a p inside prio port ∙ delay_over-same rows (bursts_in table) (round_bursts net rows t.round) t.has_bursts.same net a p

  ticks : (stream : ℕ) (r : Row) → IsStream rows stream r → (j : ℕ) → j ≤ length r.arcs → ticks_before net (delays_in delays) r j ≡ ticks_before net (round_delays net rows t.round) r j
  ticks stream r is j h = ticks_same net rows routed (delays_in delays) (round_delays net rows t.round) delay_same stream r is j h

  pub none_wide : NoneWide net rows (delays_in delays) → NoneWide net rows (round_delays net rows t.round)
  none_wide narrow stream r is = let same = ticks stream r is (length r.arcs) (omega arith) in let small = narrow stream r is in omega (arith, same, small)

  pub wide_here : (stream hop : ℕ) → FirstWide net rows (delays_in delays) stream hop → FirstWideRound net rows stream hop
  wide_here stream hop first = record {
    round = t.round;
    settles = t.settles;
    here = record {
      row = first.row;
      is = first.is;
      within = first.within;
      wide = let same = ticks stream first.row first.is (hop + 1) (omega (arith, first.within)) in omega (arith, same, first.wide);
      first_hop = λ earlier less.
          let same = ticks stream first.row first.is (earlier + 1) (omega (arith, first.within, less)) in
          let small = first.first_hop earlier less in
          omega (arith, same, small);
      before = λ other r is less.
          let same = ticks other r is (length r.arcs) (omega arith) in
          let small = first.before other r is less in
          omega (arith, same, small);
    };
  }

  short_same : (a p : ℕ) → is_short net rows (bursts_in table) a p ≡ is_short net rows (round_bursts net rows t.round) a p
  short_same a p = is_short-same rows (bursts_in table) (round_bursts net rows t.round) t.has_bursts.same net a p

  pub short_here : NoneWide net rows (delays_in delays) → (a p need : ℕ) → IsFirstPort net rows (is_short net rows (bursts_in table)) a p → need ≡ need_over net rows (bursts_in table) a p → FirstShort net rows a p need
  short_here narrow a p need first is = record {
    round = t.round;
    settles = t.settles;
    narrow = none_wide narrow;
    here = first_same net rows (is_short net rows (bursts_in table)) (is_short net rows (round_bursts net rows t.round)) a p short_same first;
    need_is = is ∙ need_over-same rows (bursts_in table) (round_bursts net rows t.round) t.has_bursts.same net a p;
  }

  pub rings_fit : AtPorts net rows (λ a p. is_short net rows (bursts_in table) a p ≡ false) → AtPorts net rows (λ a p. is_short net rows (round_bursts net rows t.round) a p ≡ false)
  rings_fit room a p inside prio port = sym (short_same a p) ∙ room a p inside prio port

  hops_same : (e : ℕ × Row) → IsStream rows e.0 e.1 → hops_at (bursts_in table) e.0 e.1 ≡ map (hop_row (round_values net rows t.round)) (map (λ hop. (e.0, hop)) (range_with_len 0 (length e.1.arcs)))
  hops_same e is =
      let row : ℕ → ℕ → HopRow = λ hop burst. record { stream = record { 0 = e.0 }; hop = hop; burst = burst } in
      map_same (λ hop. row hop (bursts_in table e.0 hop)) (λ hop. row hop (round_bursts net rows t.round e.0 hop)) (range_with_len 0 (length e.1.arcs))
      (All-range (λ hop. row hop (bursts_in table e.0 hop) ≡ row hop (round_bursts net rows t.round e.0 hop)) (length e.1.arcs) (λ hop inside. ap (row hop) (t.has_bursts.same e.0 e.1 is hop inside)))
      ∙ sym (map-map (hop_row (round_values net rows t.round)) (λ (hop : ℕ). (e.0, hop)) (range_with_len 0 (length e.1.arcs)))

  bound_same : (e : ℕ × Row) → IsStream rows e.0 e.1 → bound_at net (delays_in delays) e ≡ bound_row (round_values net rows t.round) e
  bound_same e is =
      let made : ℕ → StreamId × ℕ = λ n. (record { 0 = e.0 }, n) in
      ap made (ticks e.0 e.1 is (length e.1.arcs) (omega arith))
      ∙ ap (λ l. made (route_ticks net (λ a. round_delays net rows t.round a e.1.prio) l)) (take_all (length e.1.arcs) e.1.arcs (omega arith))
      ∙ ap (λ o. made (option_map_or (λ r. route_ticks net (λ a. round_delays net rows t.round a r.prio) r.arcs) o 0)) (sym is.row)

  pub says_rows : (c : Certificate) → c.arcs ≡ map (arc_at net rows) (arcs_of net rows) → c.ports ≡ map (λ place. port_over net rows (bursts_in table) (place / 8) (place % 8)) (ports_of net rows)
      → c.hops ≡ all_hops (bursts_in table) (streams_of rows) → c.bounds ≡ map (bound_at net (delays_in delays)) (streams_of rows) → Says net rows c (round_values net rows t.round)
  says_rows c arcs ports hops bounds = record {
    arcs = arcs;
    ports = ports
        ∙ map_same (λ place. port_over net rows (bursts_in table) (place / 8) (place % 8)) (port_row (round_values net rows t.round)) (ports_of net rows)
        (λ k d inside. let place = get_or (ports_of net rows) k d in port_over-same rows (bursts_in table) (round_bursts net rows t.round) t.has_bursts.same net (place / 8) (place % 8));
    hops = hops
        ∙ pieces_same (λ (e : ℕ × Row). hops_at (bursts_in table) e.0 e.1) (hop_row (round_values net rows t.round)) (λ e. map (λ hop. (e.0, hop)) (range_with_len 0 (length e.1.arcs))) (streams_of rows)
        (each_stream rows (λ e. hops_at (bursts_in table) e.0 e.1 ≡ map (hop_row (round_values net rows t.round)) (map (λ hop. (e.0, hop)) (range_with_len 0 (length e.1.arcs)))) hops_same);
    bounds = bounds
        ∙ map_same (bound_at net (delays_in delays)) (bound_row (round_values net rows t.round)) (streams_of rows)
        (each_stream rows (λ e. bound_at net (delays_in delays) e ≡ bound_row (round_values net rows t.round) e) bound_same);
  }

  -- the numbers of a port are within the limit
  port_within : NoOverload net rows → (k : ℕ) → k < length net.arcs * 8 → has_port rows (k / 8) (k % 8) ≡ true → PortIsWithin (port_over net rows (bursts_in table) (k / 8) (k % 8))
  port_within load k inside port =
      let a = k / 8 in
      let p = k % 8 in
      let c = bursts_in table in
      let arc : a < length net.arcs = omega arith in
      let whole = or_parts (numbers_pass net rows c a p) (list_any (leaving_passes net c a p (delay_over net rows c a p)) (enumerate_from 0 rows)) (t.small a p arc (omega arith) port) in
      let first = or_parts (nat_lt limit (least_block net rows a p)) (nat_lt limit (work_over net rows c a p) || (nat_lt limit (delay_over net rows c a p) || (nat_lt limit (size_over net rows c a p) || false))) whole.0 in
      let second = or_parts (nat_lt limit (work_over net rows c a p)) (nat_lt limit (delay_over net rows c a p) || (nat_lt limit (size_over net rows c a p) || false)) first.1 in
      let third = or_parts (nat_lt limit (delay_over net rows c a p)) (nat_lt limit (size_over net rows c a p) || false) second.1 in
      let fourth = or_parts (nat_lt limit (size_over net rows c a p)) false third.1 in
      let rate = rates_small net rows a (p + 1) 8 (omega arith) (cost_some net a arc) (load a arc) in
      record {
        block = ltb-false limit (least_block net rows a p) first.0;
        work = ltb-false limit (work_over net rows c a p) second.0;
        rate = omega (arith, rate);
        delay = ltb-false limit (delay_over net rows c a p) third.0;
        size = ltb-false limit (size_over net rows c a p) fourth.0;
      }

  pub rows_within : (arcs : List ArcRow) (ports : List PortRow) (hops : List HopRow) (bounds : List (StreamId × ℕ)) → NoOverload net rows → NoneWide net rows (delays_in delays)
      → arcs ≡ map (arc_at net rows) (arcs_of net rows) → ports ≡ map (λ place. port_over net rows (bursts_in table) (place / 8) (place % 8)) (ports_of net rows)
      → hops ≡ all_hops (bursts_in table) (streams_of rows) → bounds ≡ map (bound_at net (delays_in delays)) (streams_of rows) → IsWithin arcs ports hops bounds
  rows_within arcs ports hops bounds load narrow e f g h = record {
    each_arc = subst (λ l. All ArcIsWithin l) (sym e)
        (All-map ArcIsWithin (arc_at net rows) (arcs_of net rows) (λ k d inside. record { rank = omega arith; largest = largest_small net rows (get_or (arcs_of net rows) k d) }));
    each_port = subst (λ l. All PortIsWithin l) (sym f)
        (All-map PortIsWithin (λ place. port_over net rows (bursts_in table) (place / 8) (place % 8)) (ports_of net rows)
        (All-filtered (λ k. PortIsWithin (port_over net rows (bursts_in table) (k / 8) (k % 8))) (λ place. has_port rows (place / 8) (place % 8)) (range_with_len 0 (length net.arcs * 8))
        (λ k inside port. port_within load k (in_range (length net.arcs * 8) k inside) port)));
    each_hop = subst (λ l. All (λ row. row.burst ≤ limit) l) (sym g)
        (All-pieces (λ (row : HopRow). row.burst ≤ limit) (λ (x : ℕ × Row). hops_at (bursts_in table) x.0 x.1) (streams_of rows)
        (each_stream rows (λ x. All (λ (row : HopRow). row.burst ≤ limit) (hops_at (bursts_in table) x.0 x.1))
        (λ x is. All-map (λ (row : HopRow). row.burst ≤ limit) (λ hop. record { stream = record { 0 = x.0 }; hop = hop; burst = bursts_in table x.0 hop }) (range_with_len 0 (length x.1.arcs))
        (All-range (λ hop. bursts_in table x.0 hop ≤ limit) (length x.1.arcs) (λ hop inside. t.has_bursts.within (x.0 * 16 + hop))))));
    each_bound = subst (λ l. All (λ row. row.1 ≤ limit) l) (sym h)
        (All-map (λ row. row.1 ≤ limit) (bound_at net (delays_in delays)) (streams_of rows)
        (each_stream rows (λ x. ticks_before net (delays_in delays) x.1 (length x.1.arcs) ≤ limit) (λ x is. narrow x.0 x.1 is)));
  }
