-- Where frames go on from a node, how long they stay there, and how many may be there.
use Rattle.std.specs.Prelude.{ℕ, ◌+◌, ◌*◌, ◌/◌, ◌==◌, ◌&&◌, Bool, List, map, find, slice_get, Option, option_and_then}
use Rattle.std.specs.List.{flat_map, zip}
use Rattle.std.specs.Option.{option_map, option_map_or}
use Rattle.pre_base.specs.declared.numbers.NodeId.{NodeId}
use Rattle.pre_base.specs.declared.numbers.ArcId.{ArcId}
use Rattle.pre_topo.specs.declared.network.Network.{Network}
use Rattle.pre_topo.specs.Arcs.{latency_at}
use Rattle.pre_streams.specs.declared.rows.Row.{Row}
use Rattle.pre_streams.specs.declared.rows.Streams.{Streams}
use Rattle.pre_bridge.specs.declared.tables.Hop.{Hop}

-- the hops of a row: under its VID, from each node of its route but the last by the arc to the next
abbrev pub hops_of : Row → List Hop
hops_of row = map (λ hop. record { node = hop.0; vid = row.vid; arc = hop.1 }) (zip row.route row.arcs)

abbrev pub is_from : NodeId → ℕ → Hop → Bool
is_from node vid hop = (hop.node.0 == node.0) && (hop.vid == vid)

-- the arc of the first hop from a node under a VID
abbrev pub arc_among : List Hop → NodeId → ℕ → Option ArcId
arc_among hops node vid = option_map (λ hop. hop.arc) (find (is_from node vid) hops)

-- the arc by which the routes of a VID leave a node
abbrev pub next_arc : List Row → NodeId → ℕ → Option ArcId
next_arc rows node vid = arc_among (flat_map hops_of rows) node vid

-- the arc by which a frame of a VID leaves the end of the arc by which it arrived
abbrev pub onward : Network → Streams → ℕ → ℕ → Option ArcId
onward net streams arc vid = option_and_then (λ a. next_arc streams.rows a.to vid) (slice_get net.arcs arc)

-- how long a frame stays that arrived by an arc
abbrev pub latency_of : Network → ℕ → ℕ
latency_of net arc = option_map_or (λ a. latency_at net.nodes a.to.0) (slice_get net.arcs arc) 0

-- how many frames that arrived by an arc may be inside: those that may arrive within the latency, each of 84 octets
-- at least with preamble and gap, and one more; none where there is no such arc
abbrev pub capacity_of : Network → ℕ → ℕ
capacity_of net arc = option_map_or (λ a. latency_at net.nodes a.to.0 / (84 * a.cost) + 1) (slice_get net.arcs arc) 0
