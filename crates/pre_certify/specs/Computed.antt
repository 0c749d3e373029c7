-- A certificate that says what settled delays give.
use Rattle.std.specs.Prelude.{ℕ, List}
use Rattle.pre_topo.specs.declared.network.Network.{Network}
use Rattle.pre_streams.specs.declared.rows.Row.{Row}
use Rattle.pre_bound.specs.declared.certificate.Certificate.{Certificate}
use Rattle.pre_bound.specs.Along.{Delays}
use Rattle.pre_bound.specs.Chains.{AreRanks}
use Rattle.pre_bound.specs.Settled.{Settled, values_over}
use Rattle.pre_bound.specs.Listed.{Says}

-- its ranks are the longest chains of arcs, and its numbers those that the least delay of each port gives
pub record SaysSettled (net : Network) (rows : List Row) (c : Certificate) : Type 0 where
  pub rank : ℕ → ℕ
  pub ranks : AreRanks net rows rank
  pub delays : Delays
  pub settled : Settled net rows delays
  pub says : Says net rows c (values_over net rows rank delays)
