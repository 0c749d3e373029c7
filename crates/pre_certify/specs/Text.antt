-- The text of a certificate: a line for each of its rows, between its first line and its last.
use Rattle.std.specs.Prelude.{ℕ, List, [], ◌∷◌, ◌++◌, codes, slice_get, Option, Some, None, is_some, if◌then◌else◌}
use Rattle.std.specs.Option.{option_map_or}
use Rattle.std.specs.Fmt.{decimal}
use Rattle.std.specs.List.{flat_map}
use Rattle.pre_base.specs.declared.numbers.StreamId.{StreamId}
use Rattle.pre_text.specs.Writing.{line_of}
use Rattle.pre_topo.specs.declared.network.Network.{Network}
use Rattle.pre_topo.specs.Named.{arc_name}
use Rattle.pre_streams.specs.declared.rows.Row.{Row}
use Rattle.pre_bound.specs.declared.rows.ArcRow.{ArcRow}
use Rattle.pre_bound.specs.declared.rows.PortRow.{PortRow}
use Rattle.pre_bound.specs.declared.rows.HopRow.{HopRow}
use Rattle.pre_bound.specs.declared.certificate.Certificate.{Certificate}

-- the name of a stream, and nothing where there is no such row
abbrev pub stream_name : List Row → ℕ → List ℕ
stream_name rows stream = option_map_or (λ r. r.name) (slice_get rows stream) []

-- the text's version: with ranks it is 2, and without them 3
abbrev pub version_of : List ArcRow → ℕ
version_of [] = 2
version_of (row ∷ rows) = if is_some row.rank then 2 else 3

abbrev pub first_line : List ArcRow → List ℕ
first_line arcs = line_of (codes "certificate") (decimal (version_of arcs) ∷ [])

-- a rank where there is one, and no word else
abbrev pub rank_words : Option ℕ → List (List ℕ)
rank_words None = []
rank_words (Some rank) = decimal rank ∷ []

abbrev pub arc_line : Network → ArcRow → List ℕ
arc_line net row = line_of (codes "arc") (arc_name net row.arc.0 ∷ (rank_words row.rank ++ decimal row.largest ∷ []))

abbrev pub port_line : Network → PortRow → List ℕ
port_line net row =
    line_of (codes "port") (arc_name net row.arc.0 ∷ decimal row.prio ∷ decimal row.block ∷ decimal row.work ∷ decimal row.rate ∷ decimal row.delay ∷ decimal row.size ∷ [])

abbrev pub hop_line : List Row → HopRow → List ℕ
hop_line rows row = line_of (codes "hop") (stream_name rows row.stream.0 ∷ decimal row.hop ∷ decimal row.burst ∷ [])

abbrev pub bound_line : List Row → StreamId × ℕ → List ℕ
bound_line rows row = line_of (codes "bound") (stream_name rows row.0.0 ∷ decimal row.1 ∷ [])

abbrev pub last_line : List ℕ
last_line = line_of (codes "end") []

-- the lines of the arcs, of the ports, of the hops and of the bounds, in the order of the rows
abbrev pub arc_lines : Network → List ArcRow → List ℕ
arc_lines net rows = flat_map (arc_line net) rows

abbrev pub port_lines : Network → List PortRow → List ℕ
port_lines net rows = flat_map (port_line net) rows

abbrev pub hop_lines : List Row → List HopRow → List ℕ
hop_lines streams rows = flat_map (hop_line streams) rows

abbrev pub bound_lines : List Row → List (StreamId × ℕ) → List ℕ
bound_lines streams rows = flat_map (bound_line streams) rows

-- the whole text
abbrev pub certificate_text : Network → List Row → Certificate → List ℕ
certificate_text net rows c =
    first_line c.arcs ++ (arc_lines net c.arcs ++ (port_lines net c.ports ++ (hop_lines rows c.hops ++ (bound_lines rows c.bounds ++ last_line))))
