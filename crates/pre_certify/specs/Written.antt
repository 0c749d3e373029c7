-- The rows of a certificate, as they are found.
use Rattle.std.specs.Prelude.{ℕ, List, Some, length, map, slice_index}
use Rattle.std.specs.List.{range_with_len, flat_map}
use Rattle.pre_base.specs.declared.numbers.StreamId.{StreamId}
use Rattle.pre_topo.specs.declared.network.Network.{Network}
use Rattle.pre_streams.specs.declared.rows.Row.{Row}
use Rattle.pre_bound.specs.declared.rows.ArcRow.{ArcRow}
use Rattle.pre_bound.specs.declared.rows.HopRow.{HopRow}
use Rattle.pre_bound.specs.Uses.{largest_used}
use Rattle.pre_bound.specs.Along.{Delays, burst_at}
use Rattle.pre_bound.specs.Values.{Values}
use Rattle.pre_bound.specs.Settled.{values_over}
use Rattle.pre_bound.specs.Passing.{ticks_before}

abbrev pub arc_at : Network → List Row → List ℕ → ℕ → ArcRow
arc_at net rows ranks arc = record { arc = record { 0 = arc }; rank = Some (slice_index ranks arc); largest = largest_used net rows arc }

-- the numbers of the ports
abbrev pub values_at : Network → List Row → Delays → Values
values_at net rows delays = values_over net rows (λ arc. 0) delays

-- the rows of a stream's hops
abbrev pub hops_at : Network → Delays → ℕ → Row → List HopRow
hops_at net delays stream r = map (λ hop. record { stream = record { 0 = stream }; hop = hop; burst = burst_at net delays r hop }) (range_with_len 0 (length r.arcs))

abbrev pub all_hops : Network → Delays → List (ℕ × Row) → List HopRow
all_hops net delays streams = flat_map (λ e. hops_at net delays e.0 e.1) streams

abbrev pub bound_at : Network → Delays → ℕ × Row → StreamId × ℕ
bound_at net delays e = (record { 0 = e.0 }, ticks_before net delays e.1 (length e.1.arcs))
