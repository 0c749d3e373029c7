-- Chains of arcs, each following another on some stream's route, and the ranks that they give.
use Rattle.std.specs.Prelude.{ℕ, zero, suc, ◌<◌, ◌≤◌, List, length}
use Rattle.pre_topo.specs.declared.network.Network.{Network}
use Rattle.pre_streams.specs.declared.rows.Row.{Row}
use Rattle.pre_bound.specs.Uses.{Follows}

-- a chain of so many steps ends at the arc
abbrev pub EndsChain : List Row → ℕ → ℕ → Type 0
EndsChain rows zero arc = Unit {0}
EndsChain rows (suc n) arc = (before : ℕ) × Follows rows before arc × EndsChain rows n before

-- the length of the longest chain that ends at the arc
pub record IsRank (rows : List Row) (arc rank : ℕ) : Type 0 where
  pub chain : EndsChain rows rank arc
  pub longest : (n : ℕ) → EndsChain rows n arc → n ≤ rank

abbrev pub AreRanks : Network → List Row → (ℕ → ℕ) → Type 0
AreRanks net rows rank = (arc : ℕ) → arc < length net.arcs → IsRank rows arc (rank arc)
