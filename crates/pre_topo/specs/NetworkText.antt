-- The text of a whole network.
use Rattle.std.specs.Prelude.{ℕ, List, ◌++◌}
use Rattle.pre_topo.specs.declared.network.Network.{Network}
use Rattle.pre_topo.specs.Text.{head_text, nodes_text, links_text}

-- the whole file, the timing, nodes and links
abbrev pub network_text : Network → List ℕ
network_text net = head_text net.express_from net.timing ++ (nodes_text net.nodes ++ links_text net.nodes net.arcs)
