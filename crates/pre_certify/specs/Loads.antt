-- Arcs whose streams want all of their time.
use Rattle.std.specs.Prelude.{◌≡◌, ℕ, ◌*◌, ◌<◌, nat_le, Bool, true, false, List, length}
use Rattle.pre_topo.specs.declared.network.Network.{Network}
use Rattle.pre_streams.specs.declared.rows.Row.{Row}
use Rattle.pre_bound.specs.Uses.{cost_at, rates_on}

-- the streams of the arc want all of its time, or more
abbrev pub is_overloaded : Network → List Row → ℕ → Bool
is_overloaded net rows arc = nat_le 1_000_000 (cost_at net arc * rates_on arc 0 8 rows)

-- the least arc that is overloaded
pub record FirstOverload (net : Network) (rows : List Row) (arc : ℕ) : Type 0 where
  pub within : arc < length net.arcs
  pub overloaded : is_overloaded net rows arc ≡ true
  pub before : (other : ℕ) → other < arc → is_overloaded net rows other ≡ false

abbrev pub NoOverload : Network → List Row → Type 0
NoOverload net rows = (arc : ℕ) → arc < length net.arcs → is_overloaded net rows arc ≡ false
