-- The rows that a certificate of a network and streams has, in their order.
use Rattle.std.specs.Prelude.{ℕ, ◌*◌, ◌/◌, ◌%◌, List, length, map, filter}
use Rattle.std.specs.List.{enumerate_from, flat_map, range_with_len}
use Rattle.pre_topo.specs.declared.network.Network.{Network}
use Rattle.pre_streams.specs.declared.rows.Row.{Row}
use Rattle.pre_bound.specs.Uses.{is_stream, has_arc, has_port}

-- the arcs that streams use, in order
abbrev pub arcs_of : Network → List Row → List ℕ
arcs_of net rows = filter (has_arc rows) (range_with_len 0 (length net.arcs))

-- The ports, arc by arc and then by priority. Eight places stand for an arc: place 8a + p is the arc a with the priority p.
abbrev pub ports_of : Network → List Row → List ℕ
ports_of net rows = filter (λ place. has_port rows (place / 8) (place % 8)) (range_with_len 0 (length net.arcs * 8))

-- the streams, each with its number
abbrev pub streams_of : List Row → List (ℕ × Row)
streams_of rows = filter (λ e. is_stream e.1) (enumerate_from 0 rows)

-- the hops of each stream's route, each with the stream's number
abbrev pub hops_of : List Row → List (ℕ × ℕ)
hops_of rows = flat_map (λ e. map (λ hop. (e.0, hop)) (range_with_len 0 (length e.1.arcs))) (streams_of rows)
