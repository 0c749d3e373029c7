-- The rounds: bursts of the streams at the hops of their routes, what they make of the ports, and the bursts of the next round.
use Rattle.std.specs.Prelude.{ℕ, zero, suc, ◌+◌, ◌*◌, List, slice_get, sum_by, filter, false}
use Rattle.std.specs.Option.{option_map_or}
use Rattle.std.specs.List.{enumerate_from}
use Rattle.pre_topo.specs.declared.network.Network.{Network}
use Rattle.pre_streams.specs.declared.rows.Row.{Row}
use Rattle.pre_bound.specs.declared.rows.PortRow.{PortRow}
use Rattle.pre_bound.specs.Solutions.{least_delay, least_growth, least_size}
use Rattle.pre_bound.specs.Uses.{rate_of, burst_of, hop_of, is_on, rates_on, cost_at, largest_used}
use Rattle.pre_bound.specs.Along.{route_ticks, least_block, rate_above}
use Rattle.pre_bound.specs.Values.{Values}

-- a burst for each row, by its number, and hop of its route
abbrev pub Bursts : Type 0
Bursts = ℕ → ℕ → ℕ

-- the sum of the bursts at the arc of its streams with priorities from low up to below high
abbrev pub bursts_over : Bursts → ℕ → ℕ → ℕ → List Row → ℕ
bursts_over bursts arc low high rows =
    sum_by (λ e. bursts e.0 (hop_of arc e.1)) (filter (λ e. is_on arc low high e.1) (enumerate_from 0 rows))

-- the least work, delay and size of a port over these bursts
abbrev pub work_over : Network → List Row → Bursts → ℕ → ℕ → ℕ
work_over net rows bursts arc prio = cost_at net arc * bursts_over bursts arc prio 8 rows

abbrev pub delay_over : Network → List Row → Bursts → ℕ → ℕ → ℕ
delay_over net rows bursts arc prio =
    least_delay (least_block net rows arc prio) (work_over net rows bursts arc prio) (rate_above rows arc prio) (cost_at net arc)

abbrev pub size_over : Network → List Row → Bursts → ℕ → ℕ → ℕ
size_over net rows bursts arc prio =
    least_size (bursts_over bursts arc prio (prio + 1) rows) (rates_on arc prio (prio + 1) rows) (delay_over net rows bursts arc prio)

-- the row of a port
abbrev pub port_over : Network → List Row → Bursts → ℕ → ℕ → PortRow
port_over net rows bursts arc prio = record {
  arc = record { 0 = arc };
  prio = prio;
  block = least_block net rows arc prio;
  work = work_over net rows bursts arc prio;
  rate = rate_above rows arc prio;
  delay = delay_over net rows bursts arc prio;
  size = size_over net rows bursts arc prio;
}

-- the declared burst at every hop
abbrev pub declared : List Row → Bursts
declared rows stream hop = option_map_or burst_of (slice_get rows stream) 0

-- the least burst of a row behind a hop, after its burst there and the delay of its port
abbrev pub grown_behind : Network → List Row → Bursts → ℕ → ℕ → Row → ℕ
grown_behind net rows bursts stream hop r =
    option_map_or (λ a. least_growth (bursts stream hop) (rate_of r) (delay_over net rows bursts a.0 r.prio) (cost_at net a.0)) (slice_get r.arcs hop) 0

-- the bursts of the next round
abbrev pub next_bursts : Network → List Row → Bursts → Bursts
next_bursts net rows bursts stream zero = declared rows stream 0
next_bursts net rows bursts stream (suc hop) = option_map_or (grown_behind net rows bursts stream hop) (slice_get rows stream) 0

-- the bursts of a round, counted from 0
unfoldable pub round_bursts : Network → List Row → ℕ → Bursts
round_bursts net rows zero = declared rows
round_bursts net rows (suc round) = next_bursts net rows (round_bursts net rows round)

-- the numbers of a round, without ranks
abbrev pub round_values : Network → List Row → ℕ → Values
round_values net rows round = record {
  ranked = false;
  rank = λ arc. 0;
  largest = largest_used net rows;
  block = least_block net rows;
  work = work_over net rows (round_bursts net rows round);
  rate = rate_above rows;
  delay = delay_over net rows (round_bursts net rows round);
  size = size_over net rows (round_bursts net rows round);
  burst = round_bursts net rows round;
  bound = λ stream. option_map_or (λ r. route_ticks net (λ a. delay_over net rows (round_bursts net rows round) a r.prio) r.arcs) (slice_get rows stream) 0;
}
