-- What delays at the ports make of a stream along its route, and of the streams together at a port.
use Rattle.std.specs.Prelude.{ℕ, ◌+◌, ◌-◌, ◌*◌, List, slice_get, take, sum_by, filter, fold}
use Rattle.std.specs.Option.{option_map_or}
use Rattle.pre_base.specs.declared.numbers.ArcId.{ArcId}
use Rattle.pre_topo.specs.declared.network.Network.{Network}
use Rattle.pre_topo.specs.Arcs.{latency_at}
use Rattle.pre_streams.specs.declared.rows.Row.{Row}
use Rattle.pre_bound.specs.Solutions.{least_delay, least_growth, least_size}
use Rattle.pre_bound.specs.Uses.{rate_of, burst_of, hop_of, is_on, rates_on, cost_at, block_octets}

-- a delay for each arc and priority
abbrev pub Delays : Type 0
Delays = ℕ → ℕ → ℕ

-- a burst, grown over arcs that were passed
abbrev pub grown_over : Network → (ℕ → ℕ) → ℕ → ℕ → List ArcId → ℕ
grown_over net delay rate burst passed = fold (λ b a. least_growth b rate (delay a.0) (cost_at net a.0)) burst passed

-- the burst of a stream at a hop: the declared one, grown over the hops before
abbrev pub burst_at : Network → Delays → Row → ℕ → ℕ
burst_at net delays r hop = grown_over net (λ a. delays a r.prio) (rate_of r) (burst_of r) (take hop r.arcs)

-- the burst with which a stream comes to an arc of its route
abbrev pub burst_on : Network → Delays → ℕ → Row → ℕ
burst_on net delays arc r = burst_at net delays r (hop_of arc r)

-- the sum of the bursts at the arc of its streams with priorities from low up to below high
abbrev pub bursts_on : Network → Delays → ℕ → ℕ → ℕ → List Row → ℕ
bursts_on net delays arc low high rows = sum_by (burst_on net delays arc) (filter (is_on arc low high) rows)

-- The ticks of a hop with this delay, from the arrival at the node before it to the arrival at the one behind: the latency
-- of a bridge (a station has none), the delay without the gap of 12 octets behind a frame, and the arc's own delay.
abbrev pub hop_ticks : Network → ℕ → ℕ → ℕ
hop_ticks net arc delay =
    option_map_or (λ a. latency_at net.nodes a.from.0 + (delay - 12 * a.cost) + a.delay) (slice_get net.arcs arc) 0

-- the sum of them over hops of a stream
abbrev pub route_ticks : Network → (ℕ → ℕ) → List ArcId → ℕ
route_ticks net delay hops = sum_by (λ a. hop_ticks net a.0 (delay a.0)) hops

-- a port's least numbers where the delays before it are these
abbrev pub least_block : Network → List Row → ℕ → ℕ → ℕ
least_block net rows arc prio = cost_at net arc * block_octets net rows arc prio

abbrev pub least_work : Network → List Row → Delays → ℕ → ℕ → ℕ
least_work net rows delays arc prio = cost_at net arc * bursts_on net delays arc prio 8 rows

abbrev pub rate_above : List Row → ℕ → ℕ → ℕ
rate_above rows arc prio = rates_on arc (prio + 1) 8 rows

abbrev pub port_delay : Network → List Row → Delays → ℕ → ℕ → ℕ
port_delay net rows delays arc prio =
    least_delay (least_block net rows arc prio) (least_work net rows delays arc prio) (rate_above rows arc prio) (cost_at net arc)

abbrev pub port_size : Network → List Row → Delays → ℕ → ℕ → ℕ
port_size net rows delays arc prio =
    least_size (bursts_on net delays arc prio (prio + 1) rows) (rates_on arc prio (prio + 1) rows) (port_delay net rows delays arc prio)
