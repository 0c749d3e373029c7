-- The rules of a stream file over its raw rows, for a network, and the first fault.
use Rattle.std.specs.Prelude.{ℕ, ◌+◌, ◌-◌, ◌^◌, ◌==◌, Bool, true, false, not, ◌&&◌, ◌||◌, List, [], ◌∷◌, length}
use Rattle.std.specs.Prelude.{take, nat_le, nat_lt, Option, Some, None, is_some, option_map, option_and_then, position, slice_get}
use Rattle.std.specs.Prelude.{if◌then◌else◌}
use Rattle.std.specs.List.{list_all, list_any, find, common_prefix_len}
use Rattle.std.specs.Option.{option_map_or}
use Rattle.std.specs.Str.{bytes_eq}
use Rattle.pre_base.specs.declared.limits.TheConstants.{LEAST_FRAME, GREATEST_FRAME, OVERHEAD}
use Rattle.pre_base.specs.declared.numbers.ArcId.{ArcId}
use Rattle.pre_base.specs.declared.numbers.FileRow.{FileRow}
use Rattle.pre_base.specs.declared.numbers.FileRow.TheVariants as row
use Rattle.pre_text.specs.Words.{is_name}
use Rattle.pre_table.specs.declared.values.Whole.{Whole}
use Rattle.pre_table.specs.FirstFaults.{first_of, first_row}
use Rattle.pre_table.specs.Values.{natural, is_below, is_within, same_whole}
use Rattle.pre_topo.specs.declared.network.Network.{Network}
use Rattle.pre_topo.specs.declared.nodes.NodeKind.{NodeKind}
use Rattle.pre_topo.specs.declared.nodes.NodeKind.TheVariants.{Station, Bridge}
use Rattle.pre_topo.specs.declared.arcs.Arc.{Arc}
use Rattle.pre_streams.specs.declared.faults.StreamFault.{StreamFault}
use Rattle.pre_streams.specs.declared.faults.StreamFault.TheVariants.{Name, Route, Class, Range, Burst, Count}
use Rattle.pre_streams.specs.declared.arc_rules.ArcRule.{ArcRule}
use Rattle.pre_streams.specs.declared.arc_rules.ArcRule.TheVariants.{Express, Preemptable, Carries}
use Rattle.pre_streams.specs.declared.raw.RawStreams.{RawStreams}
use Rattle.pre_streams.specs.declared.raw.RawCurve.{RawCurve}
use Rattle.pre_streams.specs.declared.raw.RawFlow.{RawFlow}
use Rattle.pre_streams.specs.NamedRoutes.{node_place, arc_place, arcs_along, route_made}

-- the row at a place, where this many streams stand first
abbrev pub row_at : ℕ → ℕ → FileRow
row_at streams place = if nat_lt place streams then row.Stream place else row.Flow (place - streams)

-- names

abbrev pub is_named : List ℕ → RawFlow → Bool
is_named name r = bytes_eq r.name name

-- it is no name, or was given before
abbrev pub name_breaks : List RawFlow → ℕ → RawFlow → Bool
name_breaks rows place r = not (is_name r.name) || list_any (is_named r.name) (take place rows)

-- routes

abbrev pub is_station : NodeKind → Bool
is_station Station = true
is_station Bridge = false

abbrev pub is_station_at : Network → ℕ → Bool
is_station_at net node = option_map_or (λ n. is_station n.kind) (slice_get net.nodes node) false

-- the first and the last entry of a route
abbrev pub is_end : List (List ℕ) → ℕ → Bool
is_end route hop = (hop == 0) || (hop + 1 == length route)

-- a link joins the nodes of these names
abbrev pub is_linked : Network → List ℕ → List ℕ → Bool
is_linked net from to = option_map_or (λ a. option_map_or (λ b. is_some (arc_place net a b)) (node_place net to) false) (node_place net from) false

-- the first entry has none before it
abbrev pub is_reached : Network → List (List ℕ) → ℕ → List ℕ → Bool
is_reached net route hop name = (hop == 0) || option_map_or (λ before. is_linked net before name) (slice_get route (hop - 1)) false

-- stations stand at the ends, and bridges between
abbrev pub has_kind_for : Network → List (List ℕ) → ℕ → List ℕ → Bool
has_kind_for net route hop name = option_map_or (λ node. if is_end route hop then is_station_at net node else not (is_station_at net node)) (node_place net name) false

-- the entry isn't a node of the kind that its place asks for, was visited before, or has no link with the one before
abbrev pub entry_breaks : Network → List (List ℕ) → ℕ → List ℕ → Bool
entry_breaks net route hop name =
    not (has_kind_for net route hop name) || list_any (bytes_eq name) (take hop route) || not (is_reached net route hop name)

-- the first place at which two routes differ: where one is longer, that is the shorter one's length
abbrev pub difference : List (List ℕ) → List (List ℕ) → Option ℕ
difference a b = if (common_prefix_len bytes_eq a b == length a) && (common_prefix_len bytes_eq a b == length b) then None else Some (common_prefix_len bytes_eq a b)

abbrev pub has_vid : Whole → RawFlow → Bool
has_vid vid r = same_whole r.vid vid

-- where the row's route differs from that of the first row of its VID
abbrev pub other_route : List RawFlow → RawFlow → Option ℕ
other_route rows r = option_map_or (λ first. difference first.route r.route) (find (has_vid r.vid) rows) None

-- the first entry with a fault; where there is none, the place at which the route differs from an earlier one
abbrev pub hop_fault : Network → List RawFlow → RawFlow → Option ℕ
hop_fault net rows r = first_of (first_row (entry_breaks net r.route) r.route ∷ other_route rows r ∷ [])

-- the place of the first row with such a fault, and its hop
abbrev pub bad_route : Network → List RawFlow → Option (ℕ × ℕ)
bad_route net rows =
    option_and_then (λ place. option_map (λ hop. (place, hop)) (option_and_then (hop_fault net rows) (slice_get rows place))) (position (λ r. is_some (hop_fault net rows r)) rows)

-- what each arc of its route asks of a row: that its priority is express there, or preemptable, or that the arc carries
-- its greatest frame as a preemptable one
abbrev pub meets : ArcRule → Arc → Bool
meets (Express prio) a = not (is_below a.express_from prio)
meets (Preemptable prio) a = is_below a.express_from prio
meets (Carries max) a = is_within 0 a.largest max

abbrev pub meets_at : Network → ArcRule → ArcId → Bool
meets_at net rule id = option_map_or (meets rule) (slice_get net.arcs id.0) false

abbrev pub holds_along : Network → ArcRule → List (List ℕ) → Bool
holds_along net rule route = list_all (meets_at net rule) (arcs_along net (route_made net route))

-- a row is a stream where it has a curve
abbrev pub class_rule : List RawCurve → ℕ → RawFlow → ArcRule
class_rule curves place r = if nat_lt place (length curves) then Express r.prio else Preemptable r.prio

-- a stream that isn't express on each arc of its route, or a flow that isn't preemptable on each
abbrev pub class_breaks : Network → List RawCurve → ℕ → RawFlow → Bool
class_breaks net curves place r = not (holds_along net (class_rule curves place r) r.route)

-- ranges

abbrev pub length_in_range : ℕ → Bool
length_in_range count = nat_le 2 count && nat_le count 17

abbrev pub curve_in_range : RawCurve → Bool
curve_in_range c = is_within 84 (10 ^ 9) c.burst && is_within 1 (10 ^ 6) c.rate

abbrev pub row_in_range : RawFlow → Bool
row_in_range r = is_within 1 4094 r.vid && is_within 0 7 r.prio && length_in_range (length r.route) && is_within LEAST_FRAME GREATEST_FRAME r.max

-- each arc of a flow's route carries its greatest frame
abbrev pub is_carried : Network → List RawCurve → ℕ → RawFlow → Bool
is_carried net curves place r = nat_lt place (length curves) || holds_along net (Carries r.max) r.route

abbrev pub range_breaks : Network → List RawCurve → ℕ → RawFlow → Bool
range_breaks net curves place r = not (row_in_range r && option_map_or curve_in_range (slice_get curves place) true && is_carried net curves place r)

-- a burst without room for the greatest frame, with its preamble and gap
abbrev pub burst_breaks : List RawCurve → ℕ → RawFlow → Bool
burst_breaks curves place r = option_map_or (λ c. nat_lt (natural c.burst) (natural r.max + OVERHEAD)) (slice_get curves place) false

-- the first row that breaks a rule, in the words of the file
abbrev pub fault_at : (FileRow → StreamFault) → ℕ → Option ℕ → Option StreamFault
fault_at fault streams place = option_map (λ i. fault (row_at streams i)) place

unfoldable pub name_fault : RawStreams → Option StreamFault
name_fault raw = fault_at Name (length raw.curves) (first_row (name_breaks raw.rows) raw.rows)

unfoldable pub route_fault : Network → RawStreams → Option StreamFault
route_fault net raw = option_map (λ at. Route (row_at (length raw.curves) at.0) at.1) (bad_route net raw.rows)

unfoldable pub class_fault : Network → RawStreams → Option StreamFault
class_fault net raw = fault_at Class (length raw.curves) (first_row (class_breaks net raw.curves) raw.rows)

unfoldable pub range_fault : Network → RawStreams → Option StreamFault
range_fault net raw = fault_at Range (length raw.curves) (first_row (range_breaks net raw.curves) raw.rows)

unfoldable pub burst_fault : RawStreams → Option StreamFault
burst_fault raw = fault_at Burst (length raw.curves) (first_row (burst_breaks raw.curves) raw.rows)

-- at most 256 streams and 256 flows
abbrev pub counts_hold : RawStreams → Bool
counts_hold raw = nat_le (length raw.curves) 256 && nat_le (length raw.rows) (length raw.curves + 256)

-- the first fault, by rule and then by row
abbrev pub raw_fault : Network → RawStreams → Option StreamFault
raw_fault net raw =
    first_of (name_fault raw ∷ route_fault net raw ∷ class_fault net raw ∷ range_fault net raw ∷ burst_fault raw ∷ (if counts_hold raw then None else Some Count) ∷ [])
