-- The rows that are due, and what is looked up in a certificate's rows: the numbers that it says.
use Rattle.std.proofs.Common.{◌≡◌, ℕ, ◌+◌, ◌*◌, ◌/◌, ◌%◌, ◌<◌, Bool, true, false, List, Some, None, refl, sym}
use Rattle.std.proofs.Common.{◌∙◌, ap, subst, arith, length, map, unwrap_or, if◌then◌else◌, zero-add, eq-eqb}
use Rattle.std.specs.Prelude.{slice_get, ◌==◌, ◌&&◌}
use Rattle.std.specs.Option.{option_map}
use Rattle.std.specs.List.{enumerate_from, range_with_len}
use Rattle.std.proofs.lemmas.Bool.{eqb-true, and_parts, and_from}
use Rattle.pre_base.specs.declared.numbers.ArcId.{ArcId}
use Rattle.pre_topo.specs.declared.network.Network.{Network}
use Rattle.pre_streams.specs.declared.rows.Row.{Row}
use Rattle.pre_streams.specs.declared.rows.Streams.{Streams}
use Rattle.pre_streams.specs.Fits.{Fits}
use Rattle.pre_bound.specs.declared.rows.ArcRow.{ArcRow}
use Rattle.pre_bound.specs.declared.rows.PortRow.{PortRow}
use Rattle.pre_bound.specs.declared.rows.HopRow.{HopRow}
use Rattle.pre_bound.specs.declared.certificate.Certificate.{Certificate}
use Rattle.pre_bound.specs.Uses.{TakesAt, is_stream, is_on, has_arc, has_port, hop_of}
use Rattle.pre_bound.specs.Along.{hop_ticks, route_ticks}
use Rattle.pre_bound.specs.Values.{Values}
use Rattle.pre_bound.specs.Clauses.{certified_bursts}
use Rattle.pre_bound.specs.Good.{IsStream}
use Rattle.pre_bound.specs.Settled.{PriosBelow}
use Rattle.pre_bound.specs.Places.{arcs_of, ports_of, streams_of, hops_of}
use Rattle.pre_bound.specs.Listed.{Says, arc_row, port_row, hop_row}
use Rattle.pre_bound.proofs.Hops.{OnArc-from, TakesAt-hop_of, TakesAt-place, has_port-from, contains_at}
use Rattle.pre_bound.proofs.Ranked.{range_at}
use Rattle.pre_bound.proofs.Placed.{in_range}
use Rattle.pre_bound.proofs.Within.{ArcsWithin-fits}
use Rattle.pre_check.specs.Said.{rank_in, largest_in, delay_in, burst_in}
use Rattle.pre_check.specs.Tests.{bursts_in}
use Rattle.pre_check.proofs.Lists.{Has, has_filter, from_filter, at_map, from_map, at_enumerate, from_enumerate, has_flat_map, from_flat_map, looked, sum_same, sum_same_all}

-- the rows that are due, by what is due

pub has_arc_due : (net : Network) (rows : List Row) (arc : ℕ) → arc < length net.arcs → has_arc rows arc ≡ true → Has (arcs_of net rows) arc
has_arc_due net rows arc inside used = has_filter (has_arc rows) (range_with_len 0 (length net.arcs)) arc arc (range_at (length net.arcs) arc inside) used

pub arc_due : (net : Network) (rows : List Row) (i arc : ℕ) → slice_get (arcs_of net rows) i ≡ Some arc → (arc < length net.arcs) × (has_arc rows arc ≡ true)
arc_due net rows i arc at =
    let found = from_filter (has_arc rows) (range_with_len 0 (length net.arcs)) i arc at in
    (in_range (length net.arcs) arc (contains_at (range_with_len 0 (length net.arcs)) found.1.0 arc found.1.1), found.0)

pub has_port_due : (net : Network) (rows : List Row) (arc prio : ℕ) → arc < length net.arcs → prio < 8 → has_port rows arc prio ≡ true → Has (ports_of net rows) (arc * 8 + prio)
has_port_due net rows arc prio inside low port =
    let k = arc * 8 + prio in
    let a : arc ≡ k / 8 = omega arith in
    let p : prio ≡ k % 8 = omega arith in
    has_filter (λ place. has_port rows (place / 8) (place % 8)) (range_with_len 0 (length net.arcs * 8)) k k (range_at (length net.arcs * 8) k (omega arith))
    (subst (λ n. has_port rows (k / 8) n ≡ true) p (subst (λ n. has_port rows n prio ≡ true) a port))

pub record PortDue (net : Network) (rows : List Row) (k : ℕ) : Type 0 where
  pub inside : k / 8 < length net.arcs
  pub low : k % 8 < 8
  pub port : has_port rows (k / 8) (k % 8) ≡ true

pub port_due : (net : Network) (rows : List Row) (i k : ℕ) → slice_get (ports_of net rows) i ≡ Some k → PortDue net rows k
port_due net rows i k at =
    let found = from_filter (λ place. has_port rows (place / 8) (place % 8)) (range_with_len 0 (length net.arcs * 8)) i k at in
    let within = in_range (length net.arcs * 8) k (contains_at (range_with_len 0 (length net.arcs * 8)) found.1.0 k found.1.1) in
    record { inside = omega (arith, within); low = omega arith; port = found.0 }

pub has_stream_due : (rows : List Row) (stream : ℕ) (r : Row) → IsStream rows stream r → Has (streams_of rows) (stream, r)
has_stream_due rows stream r is =
    has_filter (λ e. is_stream e.1) (enumerate_from 0 rows) stream (stream, r) (at_enumerate 0 rows stream stream r is.row (zero-add stream)) is.express

pub stream_due : (rows : List Row) (i : ℕ) (e : ℕ × Row) → slice_get (streams_of rows) i ≡ Some e → IsStream rows e.0 e.1
stream_due rows i e at =
    let found = from_filter (λ x. is_stream x.1) (enumerate_from 0 rows) i e at in
    let row = from_enumerate 0 rows found.1.0 e found.1.1 in
    let number : found.1.0 ≡ e.0 = omega (arith, row.1) in
    record { row = subst (λ n. slice_get rows n ≡ Some e.1) number row.0; express = found.0 }

abbrev hops_at : ℕ × Row → List (ℕ × ℕ)
hops_at e = map (λ hop. (e.0, hop)) (range_with_len 0 (length e.1.arcs))

pub has_hop_due : (rows : List Row) (stream : ℕ) (r : Row) (hop : ℕ) → IsStream rows stream r → hop < length r.arcs → Has (hops_of rows) (stream, hop)
has_hop_due rows stream r hop is inside =
    let place = has_stream_due rows stream r is in
    has_flat_map hops_at (streams_of rows) place.0 (stream, r) (stream, hop) place.1
    (hop, at_map (λ (h : ℕ). (stream, h)) (range_with_len 0 (length r.arcs)) hop hop (range_at (length r.arcs) hop inside))

pub record HopDue (rows : List Row) (e : ℕ × ℕ) : Type 0 where
  pub row : Row
  pub is : IsStream rows e.0 row
  pub inside : e.1 < length row.arcs

pub hop_due : (rows : List Row) (i : ℕ) (e : ℕ × ℕ) → slice_get (hops_of rows) i ≡ Some e → HopDue rows e
hop_due rows i e at =
    let found = from_flat_map hops_at (streams_of rows) i e at in
    let x = found.0 in
    let is = stream_due rows found.1.0 x found.1.1 in
    let hop = from_map (λ (h : ℕ). (x.0, h)) (range_with_len 0 (length x.1.arcs)) found.2.0 e found.2.1 in
    let stream : x.0 ≡ e.0 = ap (λ z. z.0) hop.2 in
    let same : hop.0 ≡ e.1 = ap (λ z. z.1) hop.2 in
    let inside = in_range (length x.1.arcs) hop.0 (contains_at (range_with_len 0 (length x.1.arcs)) found.2.0 hop.0 hop.1) in
    record { row = x.1; is = subst (λ n. IsStream rows n x.1) stream is; inside = omega (arith, same, inside) }

-- what is looked up

said_rank : (b : Bool) (m n : ℕ) → b ≡ true → m ≡ n → unwrap_or (if b then Some m else None) 0 ≡ n
said_rank true m n e same = same
said_rank false m n e same = absurd (cc)

pub rank_said : (net : Network) (rows : List Row) (c : Certificate) (v : Values) → Says net rows c v → v.ranked ≡ true → (arc : ℕ) → arc < length net.arcs → has_arc rows arc ≡ true → rank_in c.arcs arc ≡ v.rank arc
rank_said net rows c v says ranked arc inside used =
    let place = has_arc_due net rows arc inside used in
    subst (λ (l : List ArcRow). rank_in l arc ≡ v.rank arc) (sym says.arcs)
    (looked (λ row. row.arc.0 == arc) (λ row. unwrap_or row.rank 0) (arc_row v) (v.rank arc) (λ x h. said_rank v.ranked (v.rank x) (v.rank arc) ranked (ap v.rank (eqb-true x arc h)))
    (arcs_of net rows) place.0 arc place.1 (eq-eqb arc arc refl))

pub largest_said : (net : Network) (rows : List Row) (c : Certificate) (v : Values) → Says net rows c v → (arc : ℕ) → arc < length net.arcs → has_arc rows arc ≡ true → largest_in c.arcs arc ≡ v.largest arc
largest_said net rows c v says arc inside used =
    let place = has_arc_due net rows arc inside used in
    subst (λ (l : List ArcRow). largest_in l arc ≡ v.largest arc) (sym says.arcs)
    (looked (λ row. row.arc.0 == arc) (λ row. row.largest) (arc_row v) (v.largest arc) (λ x h. ap v.largest (eqb-true x arc h)) (arcs_of net rows) place.0 arc place.1 (eq-eqb arc arc refl))

pub delay_said : (net : Network) (rows : List Row) (c : Certificate) (v : Values) → Says net rows c v → (arc prio : ℕ) → arc < length net.arcs → prio < 8 → has_port rows arc prio ≡ true → delay_in c.ports arc prio ≡ v.delay arc prio
delay_said net rows c v says arc prio inside low port =
    let place = has_port_due net rows arc prio inside low port in
    let k = arc * 8 + prio in
    let a : k / 8 ≡ arc = omega arith in
    let p : k % 8 ≡ prio = omega arith in
    subst (λ (l : List PortRow). delay_in l arc prio ≡ v.delay arc prio) (sym says.ports)
    (looked (λ row. row.arc.0 == arc && row.prio == prio) (λ row. row.delay) (port_row v) (v.delay arc prio)
    (λ x h. let parts = and_parts _ _ h in ap (λ n. v.delay n (x % 8)) (eqb-true (x / 8) arc parts.0) ∙ ap (v.delay arc) (eqb-true (x % 8) prio parts.1))
    (ports_of net rows) place.0 k place.1 (and_from _ _ (eq-eqb (k / 8) arc a) (eq-eqb (k % 8) prio p)))

pub burst_said : (net : Network) (rows : List Row) (c : Certificate) (v : Values) → Says net rows c v → (stream : ℕ) (r : Row) (hop : ℕ) → IsStream rows stream r → hop < length r.arcs → burst_in c.hops stream hop ≡ v.burst stream hop
burst_said net rows c v says stream r hop is inside =
    let place = has_hop_due rows stream r hop is inside in
    subst (λ (l : List HopRow). burst_in l stream hop ≡ v.burst stream hop) (sym says.hops)
    (looked (λ row. row.stream.0 == stream && row.hop == hop) (λ row. row.burst) (hop_row v) (v.burst stream hop)
    (λ x h. let parts = and_parts _ _ h in ap (λ n. v.burst n x.1) (eqb-true x.0 stream parts.0) ∙ ap (v.burst stream) (eqb-true x.1 hop parts.1))
    (hops_of rows) place.0 (stream, hop) place.1 (and_from _ _ (eq-eqb stream stream refl) (eq-eqb hop hop refl)))

pub bursts_said : (net : Network) (rows : List Row) (c : Certificate) (v : Values) → Says net rows c v → (arc low high : ℕ) → bursts_in rows c.hops arc low high ≡ certified_bursts v arc low high rows
bursts_said net rows c v says arc low high =
    sum_same (λ e. burst_in c.hops e.0 (hop_of arc e.1)) (λ e. v.burst e.0 (hop_of arc e.1)) (λ e. is_on arc low high e.1) (enumerate_from 0 rows)
    (λ i e at on.
    let on_arc = OnArc-from arc low high e.1 on in
    let row = from_enumerate 0 rows i e at in
    let number : i ≡ e.0 = omega (arith, row.1) in
    let is : IsStream rows e.0 e.1 = record { row = subst (λ n. slice_get rows n ≡ Some e.1) number row.0; express = on_arc.express } in
    burst_said net rows c v says e.0 e.1 (hop_of arc e.1) is (TakesAt-place e.1 (hop_of arc e.1) arc (TakesAt-hop_of e.1 arc on_arc.takes)).0)

pub port_of_hop : (net : Network) (streams : Streams) → Fits net streams → PriosBelow streams.rows → (stream : ℕ) (r : Row) (hop arc : ℕ) → IsStream streams.rows stream r → TakesAt r hop arc
    → (arc < length net.arcs) × (r.prio < 8) × (has_port streams.rows arc r.prio ≡ true)
port_of_hop net streams fits prios stream r hop arc is here =
    let listed = contains_at streams.rows stream r is.row in
    (ArcsWithin-fits net streams fits r listed hop arc here, prios r listed, has_port-from streams.rows r arc hop listed is.express here)

pub ticks_said : (net : Network) (streams : Streams) (c : Certificate) (v : Values) → Fits net streams → PriosBelow streams.rows → Says net streams.rows c v → (stream : ℕ) (r : Row) → IsStream streams.rows stream r
    → route_ticks net (λ a. delay_in c.ports a r.prio) r.arcs ≡ route_ticks net (λ a. v.delay a r.prio) r.arcs
ticks_said net streams c v fits prios says stream r is =
    sum_same_all (λ a. hop_ticks net a.0 (delay_in c.ports a.0 r.prio)) (λ a. hop_ticks net a.0 (v.delay a.0 r.prio)) r.arcs
    (λ i a at.
    let port = port_of_hop net streams fits prios stream r i a.0 is (ap (option_map (λ (x : ArcId). x.0)) at) in
    ap (hop_ticks net a.0) (delay_said net streams.rows c v says a.0 r.prio port.0 port.1 port.2))
