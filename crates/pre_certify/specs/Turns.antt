-- The order in which ports are settled: by rank, then by arc, then by priority.
use Rattle.std.specs.Prelude.{◌≡◌, ℕ, ◌+◌, ◌*◌, ◌<◌, List, length, slice_index, false, IsTrue}
use Rattle.pre_topo.specs.declared.network.Network.{Network}
use Rattle.pre_streams.specs.declared.rows.Row.{Row}
use Rattle.pre_bound.specs.Uses.{has_port}
use Rattle.pre_bound.specs.Along.{Delays, port_delay}
use Rattle.pre_bound.specs.Good.{AtPorts}
use Rattle.pre_bound.specs.Passing.{passes}
use Rattle.pre_certify.specs.Tables.{delays_in, AreWithin}

-- The place of a port in this order: a network has at most 256 arcs, and an arc eight ports.
abbrev pub turn_of : (ℕ → ℕ) → ℕ → ℕ → ℕ
turn_of rank arc prio = rank arc * 2048 + (arc * 8 + prio)

-- ranks that stand in a list
abbrev pub ranks_in : List ℕ → ℕ → ℕ
ranks_in ranks arc = slice_index ranks arc

-- a port's delay is the least one over the delays at the hops before it, and no number there passes the limit
pub record IsSettled (net : Network) (rows : List Row) (delays : Delays) (arc prio : ℕ) : Type 0 where
  pub delay : delays arc prio ≡ port_delay net rows delays arc prio
  pub small : passes net rows delays arc prio ≡ false

-- so at each port whose turn is before this one
abbrev pub SettledBefore : Network → List Row → (ℕ → ℕ) → Delays → ℕ → Type 0
SettledBefore net rows rank delays turn = AtPorts net rows (λ arc prio. turn_of rank arc prio < turn → IsSettled net rows delays arc prio)

-- the port has this turn, and a number there passes the limit
pub record IsLargeAt (net : Network) (rows : List Row) (rank : ℕ → ℕ) (delays : Delays) (turn arc prio : ℕ) : Type 0 where
  pub within : (arc < length net.arcs) × (prio < 8)
  pub port : IsTrue (has_port rows arc prio)
  pub turn_is : turn_of rank arc prio ≡ turn
  pub large : IsTrue (passes net rows delays arc prio)

-- the table of the settled delays of all ports
pub record IsTable (net : Network) (rows : List Row) (table : List ℕ) : Type 0 where
  pub within : AreWithin table
  pub long : length table ≡ length net.arcs * 8
  pub settled : AtPorts net rows (IsSettled net rows (delays_in table))
