-- What a good certificate with ranks leaves no room for, a port that passes the limit and a ring that is too small; and that settled
-- delays are the same whatever settles them.
use Rattle.std.specs.Prelude.{◌≡◌, ℕ, ◌<◌, ◌≤◌, List, length, false}
use Rattle.pre_topo.specs.declared.network.Network.{Network}
use Rattle.pre_streams.specs.declared.rows.Row.{Row}
use Rattle.pre_streams.specs.declared.rows.Streams.{Streams}
use Rattle.pre_streams.specs.Fits.{Fits}
use Rattle.pre_bound.specs.Along.{Delays, port_delay}
use Rattle.pre_bound.specs.Values.{Values}
use Rattle.pre_bound.specs.Good.{AtPorts, AtStreams}
use Rattle.pre_bound.specs.Settled.{PriosBelow, Settled, HaveRoom}
use Rattle.pre_bound.specs.Listed.{HasGood}
use Rattle.pre_bound.specs.Limits.{limit}
use Rattle.pre_bound.specs.Passing.{passes, least_port}
use Rattle.pre_bound.specs.Order.{Rise}

-- no number of a port, a hop or a stream passes the limit
pub record ValuesWithin (net : Network) (rows : List Row) (v : Values) : Type 0 where
  pub block : AtPorts net rows (λ arc prio. v.block arc prio ≤ limit)
  pub work : AtPorts net rows (λ arc prio. v.work arc prio ≤ limit)
  pub delay : AtPorts net rows (λ arc prio. v.delay arc prio ≤ limit)
  pub size : AtPorts net rows (λ arc prio. v.size arc prio ≤ limit)
  pub burst : AtStreams rows (λ stream r. (hop : ℕ) → hop < length r.arcs → v.burst stream hop ≤ limit)
  pub bound : AtStreams rows (λ stream r. v.bound stream ≤ limit)

-- at arcs of lower ranks each port's delay is the least one over the delays at the hops before it
abbrev pub SettledBelow : Network → List Row → (ℕ → ℕ) → Delays → ℕ → Type 0
SettledBelow net rows rank delays arc = AtPorts net rows (λ before prio. rank before < rank arc → delays before prio ≡ port_delay net rows delays before prio)

-- where there is a good certificate with ranks, no port passes the limit over delays settled before it, by any ranks that rise
abbrev pub GoodPassNowhere : Type 0
GoodPassNowhere = (net : Network) (streams : Streams) (rank : ℕ → ℕ) (delays : Delays)
    → Fits net streams → PriosBelow streams.rows → Rise streams.rows rank → HasGood net streams
    → AtPorts net streams.rows (λ arc prio. SettledBelow net streams.rows rank delays arc → passes net streams.rows delays arc prio ≡ false)

-- and each ring has room for the least size of its port
abbrev pub GoodHaveRoom : Type 0
GoodHaveRoom = (net : Network) (streams : Streams) (delays : Delays)
    → Fits net streams → PriosBelow streams.rows → HasGood net streams → Settled net streams.rows delays → HaveRoom net streams.rows delays

-- a port has the same numbers over any delays that are settled before it, and passes the limit alike
abbrev pub SettledAlike : Type 0
SettledAlike = (net : Network) (streams : Streams) (rank : ℕ → ℕ) (delays other : Delays) (arc prio : ℕ)
    → Fits net streams → PriosBelow streams.rows → Rise streams.rows rank
    → SettledBelow net streams.rows rank delays arc → SettledBelow net streams.rows rank other arc
    → (least_port net streams.rows delays arc prio ≡ least_port net streams.rows other arc prio) × (passes net streams.rows delays arc prio ≡ passes net streams.rows other arc prio)
