-- The lines that a certificate's text has, in their order.
use Rattle.std.specs.Prelude.{ℕ, ◌/◌, ◌%◌, ◌==◌, ◌&&◌, Bool, true, false, List, [], ◌∷◌, ◌++◌, map, Option, Some, None, if◌then◌else◌}
use Rattle.std.specs.Option.{option_map_or}
use Rattle.pre_topo.specs.declared.network.Network.{Network}
use Rattle.pre_topo.specs.Named.{arc_named}
use Rattle.pre_streams.specs.declared.rows.Row.{Row}
use Rattle.pre_streams.specs.declared.rows.Streams.{Streams}
use Rattle.pre_streams.specs.Named.{row_named}
use Rattle.pre_bound.specs.Places.{arcs_of, ports_of, streams_of, hops_of}
use Rattle.pre_check.specs.declared.due.Due.{Due}
use Rattle.pre_check.specs.declared.due.Due.TheVariants as due

abbrev pub due_port : ℕ → Due
due_port place = due.Port (record { 0 = place / 8 }) (place % 8)

abbrev pub due_hop : ℕ × ℕ → Due
due_hop e = due.Hop (record { 0 = e.0 }) e.1

abbrev pub due_arcs : Network → List Row → List Due
due_arcs net rows = map (λ arc. due.Arc (record { 0 = arc })) (arcs_of net rows)

abbrev pub due_ports : Network → List Row → List Due
due_ports net rows = map due_port (ports_of net rows)

abbrev pub due_hops : List Row → List Due
due_hops rows = map due_hop (hops_of rows)

abbrev pub due_bounds : List Row → List Due
due_bounds rows = map (λ e. due.Bound (record { 0 = e.0 })) (streams_of rows)

-- the version, the arcs, the ports, the hops, the bounds and the end
abbrev pub due_lines : Network → List Row → List Due
due_lines net rows = due.First ∷ (due_arcs net rows ++ (due_ports net rows ++ (due_hops rows ++ (due_bounds rows ++ due.End ∷ []))))

-- the name is that of the arc
abbrev pub is_arc : Network → ℕ → List ℕ → Bool
is_arc net arc name = option_map_or (λ a. a == arc) (arc_named net name) false

-- the name is that of the stream
abbrev pub is_stream_named : Streams → ℕ → List ℕ → Bool
is_stream_named streams stream name = option_map_or (λ s. s == stream) (row_named streams name) false

abbrev pub is_first : Due → Bool
is_first due.First = true
is_first _ = false

abbrev pub is_end : Due → Bool
is_end due.End = true
is_end _ = false

-- the arc that is due, where the name is its
abbrev pub arc_due : Network → Due → List ℕ → Option ℕ
arc_due net (due.Arc arc) name = if is_arc net arc.0 name then Some arc.0 else None
arc_due net _ name = None

-- the port that is due, where the name and the priority are its
abbrev pub port_due : Network → Due → List ℕ → ℕ → Option (ℕ × ℕ)
port_due net (due.Port arc prio) name n = if is_arc net arc.0 name && prio == n then Some (arc.0, prio) else None
port_due net _ name n = None

-- the stream whose hop is due, where the name and the hop are those
abbrev pub hop_due : Streams → Due → List ℕ → ℕ → Option ℕ
hop_due streams (due.Hop stream hop) name n = if is_stream_named streams stream.0 name && hop == n then Some stream.0 else None
hop_due streams _ name n = None

-- the stream whose bound is due, where the name is its
abbrev pub bound_due : Streams → Due → List ℕ → Option ℕ
bound_due streams (due.Bound stream) name = if is_stream_named streams stream.0 name then Some stream.0 else None
bound_due streams _ name = None
