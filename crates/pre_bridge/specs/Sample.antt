-- The nodes and arcs of a small network that the tests run.
use Rattle.std.specs.Prelude.{ℕ, List}
use Rattle.pre_topo.specs.declared.nodes.Node.{Node}
use Rattle.pre_topo.specs.declared.nodes.NodeKind.TheVariants.{Bridge}
use Rattle.pre_topo.specs.declared.arcs.Arc.{Arc}
use Rattle.pre_topo.specs.Pair.{pair_arc}

-- a bridge of this name that keeps a frame for 100 ticks
abbrev pub bridge : List ℕ → Node
bridge name = record { name = name; kind = Bridge; latency = 100 }

-- an arc from one node to another, otherwise as that of the built-in network
abbrev pub between : ℕ → ℕ → Arc
between from to = record pair_arc { from = record { 0 = from }; to = record { 0 = to } }
