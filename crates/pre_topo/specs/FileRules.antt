-- The rules of a network file over its raw rows, and the first fault.
use Rattle.std.specs.Prelude.{ℕ, Bool, true, false, not, ◌&&◌, ◌||◌, ◌^◌, List, [], ◌∷◌, length, map, take, codes, nat_le}
use Rattle.std.specs.Prelude.{Option, Some, None, is_some, option_map, position, sum_by, if◌then◌else◌}
use Rattle.std.specs.List.{list_all, list_any}
use Rattle.std.specs.Option.{option_map_or}
use Rattle.std.specs.Str.{bytes_eq}
use Rattle.pre_base.specs.declared.numbers.FileRow.TheVariants as row
use Rattle.pre_base.specs.declared.limits.TheConstants.{LEAST_FRAME, GREATEST_FRAME}
use Rattle.pre_text.specs.Words.{is_name}
use Rattle.pre_table.specs.FirstFaults.{first_of, first_row}
use Rattle.pre_table.specs.Values.{is_within}
use Rattle.pre_topo.specs.declared.arcs.Arc.{Arc}
use Rattle.pre_topo.specs.declared.arcs.Mode.{Mode}
use Rattle.pre_topo.specs.declared.arcs.Mode.TheVariants as mode
use Rattle.pre_topo.specs.declared.arcs.Policy.{Policy}
use Rattle.pre_topo.specs.declared.arcs.Policy.TheVariants as policy
use Rattle.pre_topo.specs.declared.faults.TopoFault.{TopoFault}
use Rattle.pre_topo.specs.declared.faults.TopoFault.TheVariants.{Name, End, Range, Count, Slots, Wires}
use Rattle.pre_topo.specs.declared.nodes.Node.{Node}
use Rattle.pre_topo.specs.declared.nodes.NodeKind.{NodeKind}
use Rattle.pre_topo.specs.declared.nodes.NodeKind.TheVariants.{Station, Bridge}
use Rattle.pre_topo.specs.declared.raw.RawNetwork.{RawNetwork}
use Rattle.pre_topo.specs.declared.raw.RawTiming.{RawTiming}
use Rattle.pre_topo.specs.declared.raw.RawNode.{RawNode}
use Rattle.pre_topo.specs.declared.raw.RawLink.{RawLink}
use Rattle.pre_topo.specs.Arcs.{slots_of_arc, wires_of_arc}

abbrev pub unless : Bool → TopoFault → Option TopoFault
unless holds fault = if holds then None else Some fault

-- names

abbrev pub node_names : List RawNode → List (List ℕ)
node_names nodes = map (λ n. n.name) nodes

abbrev pub is_named : List ℕ → RawNode → Bool
is_named name n = bytes_eq n.name name

-- it is no name, or was given before
abbrev pub name_breaks : List RawNode → ℕ → RawNode → Bool
name_breaks nodes place n = not (is_name n.name) || list_any (is_named n.name) (take place nodes)

unfoldable pub name_fault : List RawNode → Option TopoFault
name_fault nodes = option_map (λ i. Name (row.Node i)) (first_row (name_breaks nodes) nodes)

-- ends

abbrev pub is_node : List RawNode → List ℕ → Bool
is_node nodes name = list_any (is_named name) nodes

-- it joins the nodes of these two names, in either order
abbrev pub joins : List ℕ → List ℕ → RawLink → Bool
joins first second l = (bytes_eq l.first first && bytes_eq l.second second) || (bytes_eq l.first second && bytes_eq l.second first)

-- an end isn't a node, or both ends are one
abbrev pub has_wrong_end : List RawNode → RawLink → Bool
has_wrong_end nodes l = not (is_node nodes l.first) || not (is_node nodes l.second) || bytes_eq l.first l.second

-- an end isn't a node, both ends are one, or the two are linked by an earlier row
abbrev pub ends_break : List RawNode → List RawLink → ℕ → RawLink → Bool
ends_break nodes links place l = not (is_node nodes l.first) || not (is_node nodes l.second) || bytes_eq l.first l.second || list_any (joins l.first l.second) (take place links)

unfoldable pub end_fault : List RawNode → List RawLink → Option TopoFault
end_fault nodes links = option_map (λ i. End (row.Link i)) (first_row (ends_break nodes links) links)

-- ranges

abbrev pub timing_in_range : RawTiming → Bool
timing_in_range t = is_within 1 (10 ^ 12) t.interval && is_within 1 65535 t.ttl && is_within 1 (10 ^ 9) t.unit && is_within 1 (10 ^ 12) t.verify

abbrev pub kind_of : List ℕ → Option NodeKind
kind_of word = if bytes_eq word (codes "station") then Some Station else if bytes_eq word (codes "bridge") then Some Bridge else None

-- a station has no latency
abbrev pub most_latency : NodeKind → ℕ
most_latency Station = 0
most_latency Bridge = 10 ^ 9

abbrev pub node_in_range : RawNode → Bool
node_in_range n = option_map_or (λ kind. is_within 0 (most_latency kind) n.latency) (kind_of n.kind) false

abbrev pub mode_of : List ℕ → Option Mode
mode_of word = if bytes_eq word (codes "off") then Some mode.Off else if bytes_eq word (codes "on") then Some mode.On else if bytes_eq word (codes "negotiate") then Some mode.Negotiate else None

abbrev pub policy_of : List ℕ → Option Policy
policy_of word = if bytes_eq word (codes "pass") then Some policy.Pass else if bytes_eq word (codes "quiet") then Some policy.Quiet else None

abbrev pub link_in_range : RawLink → Bool
link_in_range l = is_within 1 1000 l.cost && is_within 0 (10 ^ 9) l.delay && is_some (mode_of l.mode) && is_some (policy_of l.policy) && is_within 0 3 l.add_frag && list_all (is_within 1 4096) l.rings
    && option_map_or (is_within 1 7) l.express_from true && is_within LEAST_FRAME GREATEST_FRAME l.largest

-- the whole file, the timing, then node by node and link by link
unfoldable pub range_fault : RawNetwork → Option TopoFault
range_fault raw =
    first_of (
    unless (is_within 1 7 raw.express_from) (Range row.Top)
    ∷ unless (timing_in_range raw.timing) (Range row.Timing)
    ∷ option_map (λ i. Range (row.Node i)) (position (λ n. not (node_in_range n)) raw.nodes)
    ∷ option_map (λ i. Range (row.Link i)) (position (λ l. not (link_in_range l)) raw.links)
    ∷ []
    )

-- counts

abbrev pub counts_hold : ℕ → ℕ → Bool
counts_hold nodes links = nat_le 2 nodes && nat_le nodes 128 && nat_le 1 links && nat_le links 128

-- the first fault of names, ends, ranges and counts
abbrev pub rows_fault : RawNetwork → Option TopoFault
rows_fault raw =
    first_of (name_fault raw.nodes ∷ end_fault raw.nodes raw.links ∷ range_fault raw ∷ unless (counts_hold (length raw.nodes) (length raw.links)) Count ∷ [])

-- what the arcs take of memory
abbrev pub sums_fault : List Node → List Arc → Option TopoFault
sums_fault nodes arcs =
    first_of (unless (nat_le (sum_by (slots_of_arc nodes) arcs) 60000) Slots ∷ unless (nat_le (sum_by wires_of_arc arcs) 67108864) Wires ∷ [])
