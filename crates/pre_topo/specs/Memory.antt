-- What a network takes of memory.
use Rattle.std.specs.Prelude.{ℕ, sum_by}
use Rattle.pre_topo.specs.declared.network.Network.{Network}
use Rattle.pre_topo.specs.Arcs.{slots_of_arc, wires_of_arc}

-- the frames that may be kept at once
abbrev pub slots : Network → ℕ
slots net = sum_by (slots_of_arc net.nodes) net.arcs

-- the octets that may be on all wires at once
abbrev pub wires : Network → ℕ
wires net = sum_by wires_of_arc net.arcs
