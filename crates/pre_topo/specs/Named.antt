-- The names of a network's nodes and arcs.
use Rattle.std.specs.Prelude.{ℕ, List, [], slice_get, Option}
use Rattle.std.specs.Option.{option_map_or}
use Rattle.pre_topo.specs.declared.network.Network.{Network}
use Rattle.pre_topo.specs.Names.{name_of_node, name_of_arc, place_of_arc}

-- the name of a node, and nothing where there is no such node
abbrev pub node_name : Network → ℕ → List ℕ
node_name net node = name_of_node net.nodes node

-- the name of an arc, and nothing where there is no such arc
abbrev pub arc_name : Network → ℕ → List ℕ
arc_name net arc = option_map_or (name_of_arc net.nodes) (slice_get net.arcs arc) []

-- the place of the first arc with this name, where the network has one
abbrev pub arc_named : Network → List ℕ → Option ℕ
arc_named net word = place_of_arc net.nodes net.arcs word
