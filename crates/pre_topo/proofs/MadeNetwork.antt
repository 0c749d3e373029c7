-- The network that raw rows without a fault make.
use Rattle.std.proofs.Common.{◌≡◌, ◌≤◌, List, length, None, All, arith, sum_by, nat_le}
use Rattle.pre_table.specs.Values.{natural}
use Rattle.pre_topo.specs.declared.raw.RawNetwork.{RawNetwork}
use Rattle.pre_topo.specs.FileRules.{rows_fault, sums_fault}
use Rattle.pre_topo.specs.Made.{timing_made, node_made, nodes_made, arcs_made}
use Rattle.std.proofs.lemmas.Bool.{leb-true}
use Rattle.std.proofs.lemmas.List.{length-map}
use Rattle.pre_topo.specs.declared.arcs.Arc.{Arc}
use Rattle.pre_topo.specs.declared.nodes.Node.{Node}
use Rattle.pre_topo.specs.declared.faults.TopoFault.TheVariants.{Slots, Wires}
use Rattle.pre_topo.specs.Arcs.{slots_of_arc, wires_of_arc}
use Rattle.pre_topo.specs.Bounds.{IsBounded}
use Rattle.pre_topo.specs.Rules.{IsNetwork}
use Rattle.pre_table.proofs.NoFaults.{first_none, unless_none}
use Rattle.pre_topo.proofs.Faultless.{faultless}
use Rattle.pre_topo.proofs.MadeNodes.{within, timing_is, nodes_are, names_differ}
use Rattle.pre_topo.proofs.MadeArcs.{arcs_are, arcs_count, arcs_paired, arcs_apart}

sums_fit : (nodes : List Node) (arcs : List Arc) → sums_fault nodes arcs ≡ None → (sum_by (slots_of_arc nodes) arcs ≤ 60000) × (sum_by wires_of_arc arcs ≤ 67108864)
sums_fit nodes arcs none =
    let (slots, behind_slots) = first_none _ _ none in
    let (wires, behind_wires) = first_none _ _ behind_slots in (
      leb-true (sum_by (slots_of_arc nodes) arcs) 60000 (unless_none (nat_le (sum_by (slots_of_arc nodes) arcs) 60000) Slots slots),
      leb-true (sum_by wires_of_arc arcs) 67108864 (unless_none (nat_le (sum_by wires_of_arc arcs) 67108864) Wires wires),
    )

pub bounded : (raw : RawNetwork) → rows_fault raw ≡ None → All IsBounded (arcs_made raw.express_from raw.nodes raw.links)
bounded raw none k d in_ =
    let hold = faultless raw none in
    let is = arcs_are raw.express_from hold.express raw.nodes raw.links hold.links.range hold.links.ends k d in_ in
    record { least = is.cost.0; most = is.cost.1; delay = is.delay }

pub network_is : (raw : RawNetwork) → rows_fault raw ≡ None → sums_fault (nodes_made raw.nodes) (arcs_made raw.express_from raw.nodes raw.links) ≡ None → IsNetwork (natural raw.express_from) (timing_made raw.timing) (nodes_made raw.nodes) (arcs_made raw.express_from raw.nodes raw.links)
network_is raw none fits =
    let hold = faultless raw none in
    let sums = sums_fit (nodes_made raw.nodes) (arcs_made raw.express_from raw.nodes raw.links) fits in
    let nodes_count : length (nodes_made raw.nodes) ≡ length raw.nodes = length-map raw.nodes node_made in
    let links_count = arcs_count raw.express_from hold.express raw.nodes raw.links in
    record {
      express = within 1 7 raw.express_from hold.express;
      timed = timing_is raw.timing hold.timing;
      each_node = nodes_are raw.nodes hold.nodes;
      each_arc = arcs_are raw.express_from hold.express raw.nodes raw.links hold.links.range hold.links.ends;
      names = names_differ raw.nodes hold.nodes;
      ends = arcs_apart raw.express_from hold.express raw.nodes raw.links hold.links.ends hold.links.apart;
      links = arcs_paired raw.express_from hold.express raw.nodes raw.links;
      node_count = (omega (arith, hold.node_count), omega (arith, hold.node_count));
      arc_count = (omega (arith, hold.link_count, links_count), omega (arith, hold.link_count, links_count), omega (arith, links_count));
      slots = sums.0;
      wires = sums.1;
    }
