-- The arcs of a route are the network's.
use Rattle.std.proofs.Common.{◌<◌, length, slice_index_or, arith}
use Rattle.std.proofs.lemmas.Option.{slice_get-get_or, slice_get_within}
use Rattle.pre_base.specs.declared.numbers.NodeId.{NodeId}
use Rattle.pre_base.specs.declared.numbers.ArcId.{ArcId}
use Rattle.pre_topo.specs.declared.network.Network.{Network}
use Rattle.pre_streams.specs.declared.rows.Row.{Row}
use Rattle.pre_streams.specs.Rows.{IsRow}

pub first_arc_known : (net : Network) (r : Row) (d : ArcId) → IsRow net r → 0 < length r.arcs → (slice_index_or r.arcs 0 d).0 < length net.arcs
first_arc_known net r d is some =
    let n : NodeId = record { 0 = 0 } in
    let a : ArcId = slice_index_or r.arcs 0 d in
    let leads = is.route.leads 0 a (slice_index_or r.route 0 n) (slice_index_or r.route 1 n)
    (slice_get-get_or r.arcs 0 d some)
    (slice_get-get_or r.route 0 n (omega (arith, some, is.route.hops)))
    (slice_get-get_or r.route 1 n (omega (arith, some, is.route.hops))) in
    slice_get_within net.arcs a.0 leads.0 leads.1
