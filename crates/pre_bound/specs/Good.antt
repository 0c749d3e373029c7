-- Numbers that make a good certificate: the eleven clauses hold at all their rows, that on the order of ranks where there
-- are ranks.
use Rattle.std.specs.Prelude.{◌≡◌, ℕ, ◌+◌, ◌<◌, List, length, slice_get, Some, IsSome, IsTrue}
use Rattle.pre_topo.specs.declared.network.Network.{Network}
use Rattle.pre_streams.specs.declared.rows.Row.{Row}
use Rattle.pre_bound.specs.Uses.{Follows, TakesAt, has_arc, has_port}
use Rattle.pre_bound.specs.Values.{Values}
use Rattle.pre_bound.specs.Clauses.{RankOrder, Load, FirstBurst, Block, Work, Delay, Growth, Size, Ring, Bound, Largest}

-- the row of this number is a stream
pub record IsStream (rows : List Row) (stream : ℕ) (r : Row) : Type 0 where
  pub row : slice_get rows stream ≡ Some r
  pub express : IsSome r.curve

-- a fact at each arc that a stream uses
abbrev pub AtArcs : Network → List Row → (ℕ → Type 0) → Type 0
AtArcs net rows P = (arc : ℕ) → arc < length net.arcs → IsTrue (has_arc rows arc) → P arc

-- a fact at each port: at each arc and priority that a stream uses
abbrev pub AtPorts : Network → List Row → (ℕ → ℕ → Type 0) → Type 0
AtPorts net rows P = (arc prio : ℕ) → arc < length net.arcs → prio < 8 → IsTrue (has_port rows arc prio) → P arc prio

-- a fact at each stream
abbrev pub AtStreams : List Row → (ℕ → Row → Type 0) → Type 0
AtStreams rows P = (stream : ℕ) (r : Row) → IsStream rows stream r → P stream r

-- ranks rise along each route
abbrev pub AreInOrder : List Row → Values → Type 0
AreInOrder rows v = (arc next : ℕ) → Follows rows arc next → RankOrder v arc next

-- the other ten clauses
pub record AreGood (net : Network) (rows : List Row) (v : Values) : Type 0 where
  pub load : (arc : ℕ) → arc < length net.arcs → Load net rows arc
  pub first_burst : AtStreams rows (FirstBurst v)
  pub block : AtPorts net rows (Block net rows v)
  pub work : AtPorts net rows (Work net rows v)
  pub delay : AtPorts net rows (Delay net v)
  pub growth : AtStreams rows (λ stream r. (hop arc next : ℕ) → TakesAt r hop arc → TakesAt r (hop + 1) next → Growth net v stream r hop arc)
  pub size : AtPorts net rows (Size rows v)
  pub ring : AtPorts net rows (Ring net v)
  pub bound : AtStreams rows (Bound net v)
  pub largest : AtArcs net rows (Largest net rows v)
