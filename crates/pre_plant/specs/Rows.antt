-- The rows of a plant: 60 streams and 30 flows, each from one station to another.
use Rattle.std.specs.Prelude.{ℕ, ◌+◌, ◌-◌, ◌*◌, ◌%◌, List, [], ◌∷◌, ◌++◌, codes, nat_le, Some, None, if◌then◌else◌}
use Rattle.std.specs.Fmt.{decimal}
use Rattle.pre_base.specs.declared.numbers.ArcId.{ArcId}
use Rattle.pre_base.specs.declared.numbers.NodeId.{NodeId}
use Rattle.pre_streams.specs.Made.{RowParts}
use Rattle.pre_plant.specs.Lists.{list_of}
use Rattle.pre_plant.specs.Draws.{draw}
use Rattle.pre_plant.specs.Networks.{bridge_of, place_of_station}

-- how many links of the chain lie between two bridges
abbrev pub distance : ℕ → ℕ → ℕ
distance a b = (a - b) + (b - a)

-- on the way along the chain from bridge a to bridge b, the bridge after so many links
abbrev pub bridge_on_way : ℕ → ℕ → ℕ → ℕ
bridge_on_way a b k = if nat_le a b then a + k else a - k

-- and the arc by which it is left: link i of the chain has arc 2i up, and arc 2i + 1 down
abbrev pub arc_on_way : ℕ → ℕ → ℕ → ℕ
arc_on_way a b k = if nat_le a b then 2 * (a + k) else 2 * (a - (k + 1)) + 1

-- the link of station j has arc 22 + 2j from it, and arc 23 + 2j to it
abbrev pub arc_from_station : ℕ → ℕ
arc_from_station j = 22 + 2 * j

abbrev pub arc_to_station : ℕ → ℕ
arc_to_station j = 23 + 2 * j

abbrev pub node_of : ℕ → NodeId
node_of place = record { 0 = place }

abbrev pub arc_of : ℕ → ArcId
arc_of place = record { 0 = place }

-- the bridges from one to another along the chain, both ends among them
abbrev pub chain_nodes : ℕ → ℕ → List NodeId
chain_nodes a b = list_of (distance a b + 1) (λ k. node_of (bridge_on_way a b k))

-- and the arcs between them
abbrev pub chain_arcs : ℕ → ℕ → List ArcId
chain_arcs a b = list_of (distance a b) (λ k. arc_of (arc_on_way a b k))

-- a route goes from station s to its bridge, along the chain to the bridge of station d, and to d
unfoldable pub route_between : ℕ → ℕ → List NodeId
route_between s d = node_of (place_of_station s) ∷ (chain_nodes (bridge_of s) (bridge_of d) ++ node_of (place_of_station d) ∷ [])

unfoldable pub arcs_between : ℕ → ℕ → List ArcId
arcs_between s d = arc_of (arc_from_station s) ∷ (chain_arcs (bridge_of s) (bridge_of d) ++ arc_of (arc_to_station d) ∷ [])

-- the station that the i-th row of its kind comes from
abbrev pub source : ℕ → ℕ
source i = i % 40

-- another station, by the draw of this number
abbrev pub destination : List ℕ → ℕ → ℕ → ℕ
destination draws number i = (i + 1 + draw draws number 39) % 40

-- the station that a stream goes to, by its first draw
abbrev pub stream_destination : List ℕ → ℕ → ℕ
stream_destination draws i = destination draws (2 * i) i

-- the greatest frame of a stream, by its second draw
abbrev pub stream_max : List ℕ → ℕ → ℕ
stream_max draws i = 64 + draw draws (2 * i + 1) 64

abbrev pub stream_row : List ℕ → ℕ → RowParts
stream_row draws i = record {
  name = codes "e" ++ decimal i;
  vid = 100 + i;
  prio = 4 + i % 4;
  route = route_between (source i) (stream_destination draws i);
  arcs = arcs_between (source i) (stream_destination draws i);
  max = stream_max draws i;
  curve = Some (stream_max draws i + 20, 200);
}

-- the station that a flow goes to, by its draw, which stands behind those of the streams
abbrev pub flow_destination : List ℕ → ℕ → ℕ
flow_destination draws i = destination draws (120 + i) i

abbrev pub flow_row : List ℕ → ℕ → RowParts
flow_row draws i = record {
  name = codes "f" ++ decimal i;
  vid = 200 + i;
  prio = i % 4;
  route = route_between (source i) (flow_destination draws i);
  arcs = arcs_between (source i) (flow_destination draws i);
  max = 1522;
  curve = None;
}

-- 60 streams, and then 30 flows
unfoldable pub plant_rows : List ℕ → List RowParts
plant_rows draws = list_of 60 (stream_row draws) ++ list_of 30 (flow_row draws)
