-- How many lines a certificate has, and where those of each kind begin.
use Rattle.std.proofs.Common.{◌≡◌, ℕ, ◌*◌, ◌/◌, ◌%◌, ◌≤◌, Bool, List, ◌∙◌, ap, subst, arith, length, get_or, map}
use Rattle.std.specs.Prelude.{filter, All, Contains}
use Rattle.std.specs.List.{enumerate_from, range_with_len}
use Rattle.std.proofs.Math.Nat.{min-eq_left}
use Rattle.std.proofs.lemmas.List.{length-map}
use Rattle.std.proofs.lemmas.List.Concat.{length-flat_map}
use Rattle.std.proofs.lemmas.List.FromFn.{length-range_with_len, length-enumerate_from}
use Rattle.std.proofs.lemmas.List.Sums.{length-filter, count_by-le-length, sum_by-le}
use Rattle.std.proofs.lemmas.Option.{slice_get-get_or}
use Rattle.pre_topo.specs.declared.network.Network.{Network}
use Rattle.pre_streams.specs.declared.rows.Row.{Row}
use Rattle.pre_streams.specs.declared.rows.Streams.{Streams}
use Rattle.pre_streams.specs.Fits.{Fits}
use Rattle.pre_bound.specs.declared.rows.ArcRow.{ArcRow}
use Rattle.pre_bound.specs.declared.certificate.Certificate.{Certificate}
use Rattle.pre_bound.specs.Uses.{is_stream, has_arc, has_port}
use Rattle.pre_bound.specs.Values.{Values}
use Rattle.pre_bound.specs.Places.{arcs_of, ports_of, streams_of, hops_of}
use Rattle.pre_bound.specs.Listed.{Says, arc_row, port_row, hop_row}
use Rattle.pre_bound.proofs.Hops.{contains_at}
use Rattle.pre_check.specs.Lines.{ports_from, hops_from, bounds_from}
use Rattle.pre_check.specs.Breaches.{later, port_lines, hop_lines, bound_lines}
use Rattle.pre_check.proofs.Agreeing.{stream_due}

filter-le : {X : Type 0} (p : X → Bool) (xs : List X) → length (filter p xs) ≤ length xs
filter-le p xs = let same = length-filter p xs in let few = count_by-le-length p xs in omega (arith, same, few)

pub few_arcs : (net : Network) (rows : List Row) → length (arcs_of net rows) ≤ 256
few_arcs net rows =
    let few = filter-le (has_arc rows) (range_with_len 0 (length net.arcs)) in
    let all = length-range_with_len 0 (length net.arcs) in
    let most = net.rules.arc_count.1 in
    omega (arith, few, all, most)

pub few_ports : (net : Network) (rows : List Row) → length (ports_of net rows) ≤ 2048
few_ports net rows =
    let few = filter-le (λ place. has_port rows (place / 8) (place % 8)) (range_with_len 0 (length net.arcs * 8)) in
    let all = length-range_with_len 0 (length net.arcs * 8) in
    let most = net.rules.arc_count.1 in
    omega (arith, few, all, most)

pub few_streams : (streams : Streams) → length (streams_of streams.rows) ≤ 512
few_streams streams =
    let few = filter-le (λ e. is_stream e.1) (enumerate_from 0 streams.rows) in
    let all = length-enumerate_from 0 streams.rows in
    let most = streams.few in
    omega (arith, few, all, most)

pub short_route : (net : Network) (streams : Streams) → Fits net streams → (r : Row) → Contains streams.rows r → length r.arcs ≤ 16
short_route net streams fits r listed =
    subst (λ (x : Row). length x.arcs ≤ 16) listed.2 (let route = (fits.each listed.0 r listed.1).route in let long = route.long.1 in let hops = route.hops in omega (arith, long, hops))

pub few_hops : (net : Network) (streams : Streams) → Fits net streams → length (hops_of streams.rows) ≤ 8192
few_hops net streams fits =
    let each : ℕ × Row → List (ℕ × ℕ) = λ e. map (λ hop. (e.0, hop)) (range_with_len 0 (length e.1.arcs)) in
    let all = length-flat_map each (streams_of streams.rows) in
    let short : All (λ e. length (each e) ≤ 16) (streams_of streams.rows) =
    λ k d inside.
    let e = get_or (streams_of streams.rows) k d in
    let is = stream_due streams.rows k e (slice_get-get_or (streams_of streams.rows) k d inside) in
    let one = length-map {B = ℕ × ℕ} (range_with_len 0 (length e.1.arcs)) (λ (hop : ℕ). (e.0, hop)) in
    let range = length-range_with_len 0 (length e.1.arcs) in
    let most = short_route net streams fits e.1 (contains_at streams.rows e.0 e.1 is.row) in
    omega (arith, one, range, most)
    in
    let sum = sum_by-le (λ e. length (each e)) 16 (streams_of streams.rows) short in
    let few = few_streams streams in
    omega (arith, all, sum, few)

module _ (net : Network) (streams : Streams) (c : Certificate) (v : Values) (fits : Fits net streams) (says : Says net streams.rows c v) where
  pub ports_begin : port_lines c.arcs ≡ ports_from net streams.rows
  ports_begin =
      let arcs = ap (λ (l : List ArcRow). length l) says.arcs ∙ length-map (arcs_of net streams.rows) (arc_row v) in
      let few = few_arcs net streams.rows in
      ap (later 2) arcs ∙ min-eq_left (omega (arith, few))

  pub hops_begin : hop_lines c.arcs c.ports ≡ hops_from net streams.rows
  hops_begin =
      let ports = ap length says.ports ∙ length-map (ports_of net streams.rows) (port_row v) in
      let arcs = few_arcs net streams.rows in
      let few = few_ports net streams.rows in
      ap (λ n. later n (length c.ports)) ports_begin ∙ ap (later (ports_from net streams.rows)) ports ∙ min-eq_left (omega (arith, arcs, few))

  pub bounds_begin : bound_lines c.arcs c.ports c.hops ≡ bounds_from net streams.rows
  bounds_begin =
      let hops = ap length says.hops ∙ length-map (hops_of streams.rows) (hop_row v) in
      let arcs = few_arcs net streams.rows in
      let ports = few_ports net streams.rows in
      let few = few_hops net streams fits in
      ap (λ n. later n (length c.hops)) hops_begin ∙ ap (later (hops_from net streams.rows)) hops ∙ min-eq_left (omega (arith, arcs, ports, few))
