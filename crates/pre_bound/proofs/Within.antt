-- Streams that fit a network use its arcs alone.
use Rattle.std.proofs.Common.{ℕ, ◌+◌, ◌<◌, List, subst, arith, length, get_or}
use Rattle.std.specs.Prelude.{Contains}
use Rattle.std.proofs.lemmas.Option.{slice_get_within, slice_get-get_or}
use Rattle.pre_base.specs.declared.numbers.NodeId.{NodeId}
use Rattle.pre_base.specs.declared.numbers.ArcId.{ArcId}
use Rattle.pre_topo.specs.declared.network.Network.{Network}
use Rattle.pre_streams.specs.declared.rows.Row.{Row}
use Rattle.pre_streams.specs.declared.rows.Streams.{Streams}
use Rattle.pre_streams.specs.Rows.{IsRoute}
use Rattle.pre_streams.specs.Fits.{Fits}
use Rattle.pre_bound.specs.Uses.{TakesAt}
use Rattle.pre_bound.proofs.Hops.{TakesAt-place}

-- each arc of a route is one of the network
abbrev pub ArcsWithin : Network → List Row → Type 0
ArcsWithin net rows = (r : Row) → Contains rows r → (hop arc : ℕ) → TakesAt r hop arc → arc < length net.arcs

route_within : (net : Network) (r : Row) → IsRoute net r.route r.arcs → (hop arc : ℕ) → TakesAt r hop arc → arc < length net.arcs
route_within net r route hop arc at =
    let d : ArcId = record { 0 = arc } in
    let n : NodeId = record { 0 = 0 } in
    let place = TakesAt-place r hop arc at in
    let inside : hop < length r.arcs = place.0 in
    let here = slice_get-get_or r.arcs hop d inside in
    let from = slice_get-get_or r.route hop n (omega (arith, route.hops)) in
    let to = slice_get-get_or r.route (hop + 1) n (omega (arith, route.hops)) in
    let leads = route.leads hop (get_or r.arcs hop d) (get_or r.route hop n) (get_or r.route (hop + 1) n) here from to in
    subst (λ a. a < length net.arcs) (place.1 d) (slice_get_within net.arcs _ leads.0 leads.1)

pub ArcsWithin-fits : (net : Network) (streams : Streams) → Fits net streams → ArcsWithin net streams.rows
ArcsWithin-fits net streams fits r listed =
    route_within net r (subst (λ x. IsRoute net x.route x.arcs) listed.2 ((fits.each listed.0 r listed.1).route))
