-- Where an arc leads.
use Rattle.std.specs.Prelude.{ℕ, ◌≡◌, slice_get, Some}
use Rattle.pre_topo.specs.declared.network.Network.{Network}
use Rattle.pre_topo.specs.declared.nodes.NodeKind.{NodeKind}
use Rattle.pre_topo.specs.declared.arcs.Arc.{Arc}
use Rattle.pre_streams.specs.Rows.{IsOfKind}

-- The arc leads to a node of this kind.
abbrev pub LeadsTo : Network → ℕ → NodeKind → Type 0
LeadsTo net arc kind = (a : Arc) × (slice_get net.arcs arc ≡ Some a) × IsOfKind net a.to kind
