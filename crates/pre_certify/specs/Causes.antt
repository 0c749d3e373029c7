-- Why there is no certificate.
use Rattle.std.specs.Prelude.{◌≡◌, ◌≢◌, ℕ, ◌+◌, ◌*◌, ◌/◌, ◌<◌, ◌≤◌, List, [], ◌∷◌, length, All, AllPairs, IsTrue, false}
use Rattle.pre_base.specs.declared.numbers.ArcId.{ArcId}
use Rattle.pre_topo.specs.declared.network.Network.{Network}
use Rattle.pre_streams.specs.declared.rows.Row.{Row}
use Rattle.pre_bound.specs.Uses.{Follows, has_port, ring_at}
use Rattle.pre_bound.specs.Along.{Delays, port_size}
use Rattle.pre_bound.specs.Chains.{AreRanks}
use Rattle.pre_bound.specs.Good.{AtPorts}
use Rattle.pre_bound.specs.Settled.{Settled}
use Rattle.pre_bound.specs.Passing.{passes}
use Rattle.pre_certify.specs.Loads.{FirstOverload, NoOverload}
use Rattle.pre_certify.specs.Turns.{turn_of, SettledBefore}
use Rattle.pre_certify.specs.declared.unfit.Unfit.{Unfit}
use Rattle.pre_certify.specs.declared.unfit.Unfit.TheVariants.{Overload, Cycle, Large, Ring, Memory}

-- the arcs are walked one after the other on routes, from the first by these to the last
abbrev pub Walks : List Row → ℕ → List ArcId → ℕ → Type 0
Walks rows from [] to = Follows rows from to
Walks rows from (a ∷ arcs) to = Follows rows from a.0 × Walks rows a.0 arcs to

-- the last arc is followed by the first
abbrev pub Closes : List Row → List ArcId → Type 0
Closes rows [] = ⊥
Closes rows (a ∷ arcs) = Walks rows a.0 arcs a.0

-- no arc is below the first
abbrev pub LeastFirst : List ArcId → Type 0
LeastFirst [] = Unit {0}
LeastFirst (a ∷ arcs) = All (λ b. a.0 ≤ b.0) arcs

-- distinct arcs, each followed by the next on some stream's route and the last by the first, the least one first
pub record IsCycle (rows : List Row) (arcs : List ArcId) : Type 0 where
  pub closes : Closes rows arcs
  pub distinct : AllPairs (λ a b. a.0 ≢ b.0) arcs
  pub first : LeastFirst arcs

-- the first port, by rank, arc and priority, at which a number passes the limit
pub record FirstLarge (net : Network) (rows : List Row) (arc prio : ℕ) : Type 0 where
  pub rank : ℕ → ℕ
  pub ranks : AreRanks net rows rank
  pub delays : Delays
  pub before : SettledBefore net rows rank delays (turn_of rank arc prio)
  pub within : (arc < length net.arcs) × (prio < 8)
  pub port : IsTrue (has_port rows arc prio)
  pub large : IsTrue (passes net rows delays arc prio)

-- the ring of a port has room for its least size
abbrev pub HasRoom : Network → List Row → Delays → ℕ → ℕ → Type 0
HasRoom net rows delays arc prio = port_size net rows delays arc prio / 84 ≤ ring_at net arc prio

-- the port's ring has too little, and needs so much
pub record IsShortAt (net : Network) (rows : List Row) (delays : Delays) (arc prio need : ℕ) : Type 0 where
  pub port : IsTrue (has_port rows arc prio)
  pub need_is : need ≡ port_size net rows delays arc prio / 84
  pub short : ring_at net arc prio < need

-- the first port, by arc and priority, whose ring has too little room, and the room that it needs, in frames
pub record FirstShort (net : Network) (rows : List Row) (arc prio need : ℕ) : Type 0 where
  pub rank : ℕ → ℕ
  pub ranks : AreRanks net rows rank
  pub delays : Delays
  pub settled : Settled net rows delays
  pub small : AtPorts net rows (λ a p. passes net rows delays a p ≡ false)
  pub within : (arc < length net.arcs) × (prio < 8)
  pub here : IsShortAt net rows delays arc prio need
  pub before : AtPorts net rows (λ a p. a * 8 + p < arc * 8 + prio → HasRoom net rows delays a p)

-- the cause of each refusal
abbrev pub Cause : Network → List Row → Unfit → Type 0
Cause net rows (Overload arc) = FirstOverload net rows arc.0
Cause net rows (Cycle arcs) = NoOverload net rows × IsCycle rows arcs
Cause net rows (Large arc prio) = NoOverload net rows × FirstLarge net rows arc.0 prio
Cause net rows (Ring arc prio need) = NoOverload net rows × FirstShort net rows arc.0 prio need
Cause net rows Memory = Unit {0}
