-- The rows of a certificate without ranks, as they are found.
use Rattle.std.specs.Prelude.{ℕ, List, None, length, map}
use Rattle.std.specs.List.{range_with_len, flat_map}
use Rattle.pre_topo.specs.declared.network.Network.{Network}
use Rattle.pre_streams.specs.declared.rows.Row.{Row}
use Rattle.pre_bound.specs.declared.rows.ArcRow.{ArcRow}
use Rattle.pre_bound.specs.declared.rows.HopRow.{HopRow}
use Rattle.pre_bound.specs.Uses.{largest_used}
use Rattle.pre_rounds.specs.Rounds.{Bursts}

abbrev pub arc_at : Network → List Row → ℕ → ArcRow
arc_at net rows arc = record { arc = record { 0 = arc }; rank = None; largest = largest_used net rows arc }

-- the rows of a stream's hops
abbrev pub hops_at : Bursts → ℕ → Row → List HopRow
hops_at bursts stream r = map (λ hop. record { stream = record { 0 = stream }; hop = hop; burst = bursts stream hop }) (range_with_len 0 (length r.arcs))

abbrev pub all_hops : Bursts → List (ℕ × Row) → List HopRow
all_hops bursts streams = flat_map (λ e. hops_at bursts e.0 e.1) streams
