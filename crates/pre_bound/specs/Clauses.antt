-- The eleven clauses of a good certificate, each at one row.
use Rattle.std.specs.Prelude.{◌≡◌, ℕ, ◌+◌, ◌*◌, ◌/◌, ◌<◌, ◌≤◌, List, IsTrue, Contains, sum_by, filter}
use Rattle.std.specs.List.{enumerate_from}
use Rattle.pre_base.specs.declared.limits.TheConstants.{OVERHEAD}
use Rattle.pre_topo.specs.declared.network.Network.{Network}
use Rattle.pre_streams.specs.declared.rows.Row.{Row}
use Rattle.pre_bound.specs.Solutions.{CoversDelay, CoversGrowth, CoversQueue}
use Rattle.pre_bound.specs.Uses.{rate_of, burst_of, hop_of, is_on, rates_on, cost_at, ring_at, preemptable_at, has_flow, largest_at}
use Rattle.pre_bound.specs.Along.{route_ticks}
use Rattle.pre_bound.specs.Values.{Values}

-- rank order, at the later of two arcs of a route: its rank is above that of the arc before it
abbrev pub RankOrder : Values → ℕ → ℕ → Type 0
RankOrder v arc next = v.rank arc < v.rank next

-- load, at an arc: its streams take less than all of its time
abbrev pub Load : Network → List Row → ℕ → Type 0
Load net rows arc = cost_at net arc * rates_on arc 0 8 rows < 1_000_000

-- first burst, at hop 0 of a stream: it is at least the declared one
abbrev pub FirstBurst : Values → ℕ → Row → Type 0
FirstBurst v stream r = burst_of r ≤ v.burst stream 0

-- block, at a port: it is as long as each thing that can hold the arc
pub record Block (net : Network) (rows : List Row) (v : Values) (arc prio : ℕ) : Type 0 where
  pub frame : cost_at net arc * 84 ≤ v.block arc prio
  pub lower : (r : Row) → Contains rows r → IsTrue (is_on arc 0 prio r) → cost_at net arc * (r.max + OVERHEAD) ≤ v.block arc prio
  pub preemptable : cost_at net arc * preemptable_at net arc (v.largest arc) ≤ v.block arc prio

-- the sum of the certified bursts at the arc of its streams with priorities from low up to below high
abbrev pub certified_bursts : Values → ℕ → ℕ → ℕ → List Row → ℕ
certified_bursts v arc low high rows =
    sum_by (λ e. v.burst e.0 (hop_of arc e.1)) (filter (λ e. is_on arc low high e.1) (enumerate_from 0 rows))

-- work, at a port: the bursts of the streams of its own and higher priorities, and the rates of the higher ones
pub record Work (net : Network) (rows : List Row) (v : Values) (arc prio : ℕ) : Type 0 where
  pub bursts : cost_at net arc * certified_bursts v arc prio 8 rows ≤ v.work arc prio
  pub rate : v.rate arc prio ≡ rates_on arc (prio + 1) 8 rows

-- delay, at a port: it covers the block and the work
abbrev pub Delay : Network → Values → ℕ → ℕ → Type 0
Delay net v arc prio = CoversDelay (v.block arc prio) (v.work arc prio) (v.rate arc prio) (cost_at net arc) (v.delay arc prio)

-- growth, at the next hop of a stream: its burst covers the one before, grown by the delay there
abbrev pub Growth : Network → Values → ℕ → Row → ℕ → ℕ → Type 0
Growth net v stream r hop arc = CoversGrowth (v.burst stream hop) (rate_of r) (v.delay arc r.prio) (cost_at net arc) (v.burst stream (hop + 1))

-- size, at a port: it covers what its own streams bring
abbrev pub Size : List Row → Values → ℕ → ℕ → Type 0
Size rows v arc prio =
    CoversQueue (certified_bursts v arc prio (prio + 1) rows) (rates_on arc prio (prio + 1) rows) (v.delay arc prio) (v.size arc prio)

-- ring, at a port: it has room for as many least frames as the size holds
abbrev pub Ring : Network → Values → ℕ → ℕ → Type 0
Ring net v arc prio = v.size arc prio / 84 ≤ ring_at net arc prio

-- bound, at a stream: it covers the hops of its route
abbrev pub Bound : Network → Values → ℕ → Row → Type 0
Bound net v stream r = route_ticks net (λ a. v.delay a r.prio) r.arcs ≤ v.bound stream

-- largest, at an arc: where a flow uses it, it is at least the greatest preemptable frame that the arc carries
abbrev pub Largest : Network → List Row → Values → ℕ → Type 0
Largest net rows v arc = IsTrue (has_flow rows arc) → largest_at net arc ≤ v.largest arc
