-- What is true of every good certificate, and of the one that settled delays give.
use Rattle.std.specs.Prelude.{◌≡◌, ℕ, ◌+◌, ◌<◌, ◌≤◌, List, length, false}
use Rattle.pre_topo.specs.declared.network.Network.{Network}
use Rattle.pre_streams.specs.declared.rows.Row.{Row}
use Rattle.pre_streams.specs.declared.rows.Streams.{Streams}
use Rattle.pre_streams.specs.Fits.{Fits}
use Rattle.pre_bound.specs.declared.certificate.Certificate.{Certificate}
use Rattle.pre_bound.specs.Solutions.{least_delay, least_growth, least_size}
use Rattle.pre_bound.specs.Uses.{TakesAt, Follows, rate_of, cost_at, rates_on}
use Rattle.pre_bound.specs.Along.{Delays, least_block, burst_at}
use Rattle.pre_bound.specs.Values.{Values}
use Rattle.pre_bound.specs.Clauses.{Load, certified_bursts}
use Rattle.pre_bound.specs.Chains.{AreRanks}
use Rattle.pre_bound.specs.Good.{AreGood, AreInOrder, AtPorts, AtStreams}
use Rattle.pre_bound.specs.Settled.{PriosBelow, Settled, HaveRoom, ValuesAtMost, values_over}
use Rattle.pre_bound.specs.Listed.{Says, HasRanks}
use Rattle.pre_bound.specs.Least.{Least}
use Rattle.pre_bound.specs.Limits.{limit}
use Rattle.pre_bound.specs.Passing.{least_port, passes, ticks_before}
use Rattle.pre_bound.specs.Order.{Rise, SameBelow}

-- where no arc is overloaded and the rings have room, ranks and settled delays give good numbers, and the ranks are in order
abbrev pub SettledAreGood : Type 0
SettledAreGood = (net : Network) (streams : Streams) (rank : ℕ → ℕ) (delays : Delays)
    → Fits net streams → AreRanks net streams.rows rank → ((arc : ℕ) → arc < length net.arcs → Load net streams.rows arc)
    → Settled net streams.rows delays → HaveRoom net streams.rows delays
    → AreGood net streams.rows (values_over net streams.rows rank delays) × AreInOrder streams.rows (values_over net streams.rows rank delays)

-- and these are at most all good numbers with ranks in order
abbrev pub SettledAreLeast : Type 0
SettledAreLeast = (net : Network) (streams : Streams) (rank : ℕ → ℕ) (delays : Delays) (v : Values)
    → Fits net streams → PriosBelow streams.rows → AreRanks net streams.rows rank → Settled net streams.rows delays
    → AreGood net streams.rows v → AreInOrder streams.rows v → ValuesAtMost net streams.rows (values_over net streams.rows rank delays) v

-- so a certificate that says them is the least good one, and has ranks
abbrev pub SettledIsLeast : Type 0
SettledIsLeast = (net : Network) (streams : Streams) (rank : ℕ → ℕ) (delays : Delays) (c : Certificate)
    → Fits net streams → PriosBelow streams.rows → AreRanks net streams.rows rank → ((arc : ℕ) → arc < length net.arcs → Load net streams.rows arc)
    → Settled net streams.rows delays → HaveRoom net streams.rows delays
    → Says net streams.rows c (values_over net streams.rows rank delays) → Least net streams c × HasRanks c

-- Each number of good ones is at least the least solution over the numbers before it: a delay over its port's block and work,
-- a size over the bursts and the delay there, a burst over the one a hop before.
pub record AreAtLeast (net : Network) (rows : List Row) (v : Values) : Type 0 where
  pub block : AtPorts net rows (λ arc prio. least_block net rows arc prio ≤ v.block arc prio)
  pub delay : AtPorts net rows (λ arc prio. least_delay (v.block arc prio) (v.work arc prio) (v.rate arc prio) (cost_at net arc) ≤ v.delay arc prio)
  pub size : AtPorts net rows (λ arc prio. least_size (certified_bursts v arc prio (prio + 1) rows) (rates_on arc prio (prio + 1) rows) (v.delay arc prio) ≤ v.size arc prio)
  pub burst : AtStreams rows (λ stream r. (hop arc next : ℕ) → TakesAt r hop arc → TakesAt r (hop + 1) next
      → least_growth (v.burst stream hop) (rate_of r) (v.delay arc r.prio) (cost_at net arc) ≤ v.burst stream (hop + 1))

abbrev pub GoodAreAtLeast : Type 0
GoodAreAtLeast = (net : Network) (rows : List Row) (v : Values) → AreGood net rows v → AreAtLeast net rows v

-- so ports whose arcs of lower ranks have the same delays have the same numbers, and pass the limit alike
abbrev pub SameNumbers : Type 0
SameNumbers = (net : Network) (rows : List Row) (rank : ℕ → ℕ) (delays other : Delays) (arc prio : ℕ)
    → PriosBelow rows → Rise rows rank → SameBelow rank delays other arc
    → (least_port net rows delays arc prio ≡ least_port net rows other arc prio) × (passes net rows delays arc prio ≡ passes net rows other arc prio)

-- ranks that are longest chains rise
abbrev pub RanksRise : Type 0
RanksRise = (net : Network) (streams : Streams) (rank : ℕ → ℕ) → Fits net streams → AreRanks net streams.rows rank → Rise streams.rows rank

-- where no port passes the limit, the settled bursts and bounds don't
abbrev pub BurstsWithin : Type 0
BurstsWithin = (net : Network) (streams : Streams) (rank : ℕ → ℕ) (delays : Delays)
    → Fits net streams → PriosBelow streams.rows → AreRanks net streams.rows rank → Settled net streams.rows delays
    → AtPorts net streams.rows (λ arc prio. passes net streams.rows delays arc prio ≡ false)
    → AtStreams streams.rows (λ stream r. (hop : ℕ) → hop + 1 < length r.arcs → burst_at net delays r (hop + 1) ≤ limit)

abbrev pub BoundsWithin : Type 0
BoundsWithin = (net : Network) (streams : Streams) (rank : ℕ → ℕ) (delays : Delays)
    → Fits net streams → PriosBelow streams.rows → AreRanks net streams.rows rank → Settled net streams.rows delays
    → AtPorts net streams.rows (λ arc prio. passes net streams.rows delays arc prio ≡ false)
    → AtStreams streams.rows (λ stream r. ticks_before net delays r (length r.arcs) ≤ limit)

-- arcs that follow one another on routes are arcs of the network
abbrev pub FollowsWithin : Type 0
FollowsWithin = (net : Network) (streams : Streams) (arc next : ℕ)
    → Fits net streams → Follows streams.rows arc next → (arc < length net.arcs) × (next < length net.arcs)
