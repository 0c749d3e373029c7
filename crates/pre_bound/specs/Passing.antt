-- Which numbers at a port pass the limit.
use Rattle.std.specs.Prelude.{ℕ, ◌+◌, nat_lt, ◌&&◌, ◌||◌, Bool, List, [], ◌∷◌, length, take}
use Rattle.std.specs.List.{list_any}
use Rattle.pre_topo.specs.declared.network.Network.{Network}
use Rattle.pre_streams.specs.declared.rows.Row.{Row}
use Rattle.pre_bound.specs.declared.rows.PortRow.{PortRow}
use Rattle.pre_bound.specs.Limits.{limit}
use Rattle.pre_bound.specs.Solutions.{least_growth, least_size}
use Rattle.pre_bound.specs.Uses.{rate_of, rates_on, hop_of, is_on, cost_at}
use Rattle.pre_bound.specs.Along.{Delays, burst_on, bursts_on, hop_ticks, route_ticks, least_block, least_work, rate_above, port_delay, port_size}

-- with this delay at the arc, the burst of the stream at its next hop, where it has one, passes the limit
abbrev pub next_passes : Network → Delays → ℕ → ℕ → Row → Bool
next_passes net delays arc delay r =
    nat_lt (hop_of arc r + 1) (length r.arcs) && nat_lt limit (least_growth (burst_on net delays arc r) (rate_of r) delay (cost_at net arc))

-- the ticks of the stream's hops before this one
abbrev pub ticks_before : Network → Delays → Row → ℕ → ℕ
ticks_before net delays r hop = route_ticks net (λ a. delays a r.prio) (take hop r.arcs)

-- the ticks of the stream's hops up to the one at this arc, which has this delay
abbrev pub ticks_through : Network → Delays → ℕ → ℕ → Row → ℕ
ticks_through net delays arc delay r = ticks_before net delays r (hop_of arc r) + hop_ticks net arc delay

-- a number that the port gives to one of its streams passes the limit
abbrev pub stream_passes : Network → Delays → ℕ → ℕ → ℕ → Row → Bool
stream_passes net delays arc prio delay r =
    is_on arc prio (prio + 1) r && (next_passes net delays arc delay r || nat_lt limit (ticks_through net delays arc delay r))

-- the least size over a delay at the port
abbrev pub size_over : Network → List Row → Delays → ℕ → ℕ → ℕ → ℕ
size_over net rows delays arc prio delay = least_size (bursts_on net delays arc prio (prio + 1) rows) (rates_on arc prio (prio + 1) rows) delay

-- the least block, work, delay or size of the port passes the limit
abbrev pub port_passes : Network → List Row → Delays → ℕ → ℕ → Bool
port_passes net rows delays arc prio =
    list_any (nat_lt limit) (least_block net rows arc prio ∷ least_work net rows delays arc prio ∷ port_delay net rows delays arc prio ∷ port_size net rows delays arc prio ∷ [])

-- A number passes the limit: the least block, work, delay or size of the port, the burst at the next hop of one of its
-- streams, or the ticks of one of them up to this hop.
abbrev pub passes : Network → List Row → Delays → ℕ → ℕ → Bool
passes net rows delays arc prio =
    port_passes net rows delays arc prio || list_any (stream_passes net delays arc prio (port_delay net rows delays arc prio)) rows

-- the row of a port
abbrev pub least_port : Network → List Row → Delays → ℕ → ℕ → PortRow
least_port net rows delays arc prio = record {
  arc = record { 0 = arc };
  prio = prio;
  block = least_block net rows arc prio;
  work = least_work net rows delays arc prio;
  rate = rate_above rows arc prio;
  delay = port_delay net rows delays arc prio;
  size = port_size net rows delays arc prio;
}
