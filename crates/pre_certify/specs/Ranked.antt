-- Ranks that are the longest chains.
use Rattle.std.specs.Prelude.{◌≡◌, ℕ, ◌≤◌, List, length}
use Rattle.pre_topo.specs.declared.network.Network.{Network}
use Rattle.pre_streams.specs.declared.rows.Row.{Row}
use Rattle.pre_bound.specs.Chains.{AreRanks}
use Rattle.pre_certify.specs.Turns.{ranks_in}

pub record HaveRanks (net : Network) (rows : List Row) (ranks : List ℕ) : Type 0 where
  pub long : length ranks ≡ length net.arcs
  pub few : (arc : ℕ) → ranks_in ranks arc ≤ 256
  pub are : AreRanks net rows (ranks_in ranks)
