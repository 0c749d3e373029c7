-- What `pair` gives.
use Rattle.std.specs.Prelude.{◌≡◌}
use Rattle.pre_topo.specs.declared.network.Network.{Network}
use Rattle.pre_topo.specs.Pair.{default_timing, pair_nodes, pair_arcs}

pub record IsPair (net : Network) : Type 0 where
  pub express_from : net.express_from ≡ 4
  pub timing : net.timing ≡ default_timing
  pub nodes : net.nodes ≡ pair_nodes
  pub arcs : net.arcs ≡ pair_arcs
