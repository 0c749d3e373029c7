-- Whether a clause holds at a row of a certificate.
use Rattle.std.specs.Prelude.{ℕ, ◌+◌, ◌-◌, ◌*◌, ◌/◌, ◌==◌, ◌&&◌, ◌||◌, nat_lt, nat_le, not, Bool, true, List, Option}
use Rattle.std.specs.Prelude.{None, slice_get, option_and_then, sum_by, filter, if◌then◌else◌}
use Rattle.std.specs.Option.{option_map, option_map_or}
use Rattle.std.specs.List.{list_all, enumerate_from}
use Rattle.pre_base.specs.declared.limits.TheConstants.{OVERHEAD}
use Rattle.pre_base.specs.declared.numbers.ArcId.{ArcId}
use Rattle.pre_base.specs.declared.numbers.StreamId.{StreamId}
use Rattle.pre_topo.specs.declared.network.Network.{Network}
use Rattle.pre_streams.specs.declared.rows.Row.{Row}
use Rattle.pre_bound.specs.declared.rows.ArcRow.{ArcRow}
use Rattle.pre_bound.specs.declared.rows.PortRow.{PortRow}
use Rattle.pre_bound.specs.declared.rows.HopRow.{HopRow}
use Rattle.pre_bound.specs.Uses.{rate_of, burst_of, hop_of, is_on, rates_on, cost_at, ring_at, preemptable_at, has_flow, largest_at}
use Rattle.pre_bound.specs.Along.{route_ticks}
use Rattle.pre_check.specs.Said.{rank_in, largest_in, delay_in, burst_in, are_ranked}

-- a hop behind another: its stream, the arc before and its own
abbrev pub steps_at : List Row → HopRow → Option (Row × ArcId × ArcId)
steps_at rows h =
    if h.hop == 0 then None
    else option_and_then (λ r. option_and_then (λ a. option_map (λ b. (r, a, b)) (slice_get r.arcs h.hop)) (slice_get r.arcs (h.hop - 1))) (slice_get rows h.stream.0)

abbrev pub rank_rises : List Row → List ArcRow → HopRow → Bool
rank_rises rows arcs h = if are_ranked arcs then option_map_or (λ s. nat_lt (rank_in arcs s.1.0) (rank_in arcs s.2.0)) (steps_at rows h) true else true

abbrev pub load_fits : Network → List Row → ArcRow → Bool
load_fits net rows row = nat_lt (cost_at net row.arc.0 * rates_on row.arc.0 0 8 rows) 1_000_000

abbrev pub burst_begins : List Row → HopRow → Bool
burst_begins rows h = if h.hop == 0 then option_map_or (λ r. nat_le (burst_of r) h.burst) (slice_get rows h.stream.0) true else true

-- the frames of lower priorities on the arc, each of which takes no longer than the block
abbrev pub lower_fit : Network → List Row → ℕ → ℕ → ℕ → Bool
lower_fit net rows arc prio block = list_all (λ r. not (is_on arc 0 prio r) || nat_le (cost_at net arc * (r.max + OVERHEAD)) block) rows

abbrev pub block_covers : Network → List Row → List ArcRow → PortRow → Bool
block_covers net rows arcs row =
    nat_le (cost_at net row.arc.0 * 84) row.block
    && (lower_fit net rows row.arc.0 row.prio row.block && nat_le (cost_at net row.arc.0 * preemptable_at net row.arc.0 (largest_in arcs row.arc.0)) row.block)

-- the sum of the bursts said at the arc of its streams with priorities from low up to below high
abbrev pub bursts_in : List Row → List HopRow → ℕ → ℕ → ℕ → ℕ
bursts_in rows hops arc low high = sum_by (λ e. burst_in hops e.0 (hop_of arc e.1)) (filter (λ e. is_on arc low high e.1) (enumerate_from 0 rows))

abbrev pub work_covers : Network → List Row → List HopRow → PortRow → Bool
work_covers net rows hops row =
    nat_le (cost_at net row.arc.0 * bursts_in rows hops row.arc.0 row.prio 8) row.work && row.rate == rates_on row.arc.0 (row.prio + 1) 8 rows

abbrev pub delay_covers : Network → PortRow → Bool
delay_covers net row =
    nat_lt (1_000_000 * (row.block + row.work)) ((row.delay + 1) * (1_000_000 - cost_at net row.arc.0 * row.rate)) && nat_le (84 * cost_at net row.arc.0) row.delay

abbrev pub growth_covers : Network → List Row → List PortRow → List HopRow → HopRow → Bool
growth_covers net rows ports hops h =
    option_map_or (λ s. nat_le (1_000_000 * burst_in hops h.stream.0 (h.hop - 1) + rate_of s.0 * (delay_in ports s.1.0 s.0.prio - 84 * cost_at net s.1.0)) (1_000_000 * h.burst)) (steps_at rows h) true

abbrev pub size_covers : List Row → List HopRow → PortRow → Bool
size_covers rows hops row =
    nat_lt (1_000_000 * bursts_in rows hops row.arc.0 row.prio (row.prio + 1) + rates_on row.arc.0 row.prio (row.prio + 1) rows * row.delay) (1_000_000 * (row.size + 1))

abbrev pub ring_fits : Network → PortRow → Bool
ring_fits net row = nat_le (row.size / 84) (ring_at net row.arc.0 row.prio)

abbrev pub bound_covers : Network → List Row → List PortRow → StreamId × ℕ → Bool
bound_covers net rows ports b = option_map_or (λ r. nat_le (route_ticks net (λ a. delay_in ports a r.prio) r.arcs) b.1) (slice_get rows b.0.0) true

abbrev pub largest_covers : Network → List Row → ArcRow → Bool
largest_covers net rows row = if has_flow rows row.arc.0 then nat_le (largest_at net row.arc.0) row.largest else true
