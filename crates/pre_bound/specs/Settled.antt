-- Delays that are the least ones at every port, and the numbers that they give.
use Rattle.std.specs.Prelude.{◌≡◌, ℕ, ◌/◌, ◌<◌, ◌≤◌, true, List, length, slice_get, Contains}
use Rattle.std.specs.Option.{option_map_or}
use Rattle.pre_topo.specs.declared.network.Network.{Network}
use Rattle.pre_streams.specs.declared.rows.Row.{Row}
use Rattle.pre_bound.specs.Uses.{ring_at, largest_used}
use Rattle.pre_bound.specs.Along.{Delays, burst_at, route_ticks, least_block, least_work, rate_above, port_delay, port_size}
use Rattle.pre_bound.specs.Values.{Values}
use Rattle.pre_bound.specs.Good.{AtArcs, AtPorts, IsStream}

-- each port's delay is the least one over the delays at the hops before it
abbrev pub Settled : Network → List Row → Delays → Type 0
Settled net rows delays = AtPorts net rows (λ arc prio. delays arc prio ≡ port_delay net rows delays arc prio)

-- the numbers that ranks and delays give
abbrev pub values_over : Network → List Row → (ℕ → ℕ) → Delays → Values
values_over net rows rank delays = record {
  ranked = true;
  rank = rank;
  largest = largest_used net rows;
  block = least_block net rows;
  work = least_work net rows delays;
  rate = rate_above rows;
  delay = delays;
  size = port_size net rows delays;
  burst = λ stream hop. option_map_or (λ r. burst_at net delays r hop) (slice_get rows stream) 0;
  bound = λ stream. option_map_or (λ r. route_ticks net (λ a. delays a r.prio) r.arcs) (slice_get rows stream) 0;
}

-- each priority is one of the eight
abbrev pub PriosBelow : List Row → Type 0
PriosBelow rows = (r : Row) → Contains rows r → r.prio < 8

-- each ring has room for the least size of its port
abbrev pub HaveRoom : Network → List Row → Delays → Type 0
HaveRoom net rows delays = AtPorts net rows (λ arc prio. port_size net rows delays arc prio / 84 ≤ ring_at net arc prio)

-- each number is at most the other one, at the arcs, ports, hops and streams that a certificate has rows for
pub record ValuesAtMost (net : Network) (rows : List Row) (v w : Values) : Type 0 where
  pub rank : (arc : ℕ) → arc < length net.arcs → v.rank arc ≤ w.rank arc
  pub largest : AtArcs net rows (λ arc. v.largest arc ≤ w.largest arc)
  pub block : AtPorts net rows (λ arc prio. v.block arc prio ≤ w.block arc prio)
  pub work : AtPorts net rows (λ arc prio. v.work arc prio ≤ w.work arc prio)
  pub rate : AtPorts net rows (λ arc prio. v.rate arc prio ≤ w.rate arc prio)
  pub delay : AtPorts net rows (λ arc prio. v.delay arc prio ≤ w.delay arc prio)
  pub size : AtPorts net rows (λ arc prio. v.size arc prio ≤ w.size arc prio)
  pub burst : (stream : ℕ) (r : Row) → IsStream rows stream r → (hop : ℕ) → hop < length r.arcs → v.burst stream hop ≤ w.burst stream hop
  pub bound : (stream : ℕ) (r : Row) → IsStream rows stream r → v.bound stream ≤ w.bound stream
