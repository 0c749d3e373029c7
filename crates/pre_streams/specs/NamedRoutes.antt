-- The nodes and arcs of a network that a route of names takes.
use Rattle.std.specs.Prelude.{ℕ, ◌==◌, Bool, ◌&&◌, List, [], ◌∷◌, map, Option, unwrap_or, position}
use Rattle.std.specs.Str.{bytes_eq}
use Rattle.pre_base.specs.declared.numbers.NodeId.{NodeId}
use Rattle.pre_base.specs.declared.numbers.ArcId.{ArcId}
use Rattle.pre_topo.specs.declared.network.Network.{Network}
use Rattle.pre_topo.specs.declared.nodes.Node.{Node}
use Rattle.pre_topo.specs.declared.arcs.Arc.{Arc}

abbrev pub has_name : List ℕ → Node → Bool
has_name name n = bytes_eq n.name name

-- the place of the node of this name
abbrev pub node_place : Network → List ℕ → Option ℕ
node_place net name = position (has_name name) net.nodes

abbrev pub leads : ℕ → ℕ → Arc → Bool
leads from to a = (a.from.0 == from) && (a.to.0 == to)

-- the place of the arc from one node to another
abbrev pub arc_place : Network → ℕ → ℕ → Option ℕ
arc_place net from to = position (leads from to) net.arcs

-- the node of this name
abbrev pub node_id : Network → List ℕ → NodeId
node_id net name = record { 0 = unwrap_or (node_place net name) 0 }

-- the arc from one node to another
abbrev pub arc_id : Network → NodeId → NodeId → ArcId
arc_id net from to = record { 0 = unwrap_or (arc_place net from.0 to.0) 0 }

-- the arcs from each node to the next
abbrev pub arcs_along : Network → List NodeId → List ArcId
arcs_along net [] = []
arcs_along net (from ∷ []) = []
arcs_along net (from ∷ to ∷ rest) = arc_id net from to ∷ arcs_along net (to ∷ rest)

abbrev pub route_made : Network → List (List ℕ) → List NodeId
route_made net route = map (node_id net) route
