-- The rules that every network meets: 2 to 128 nodes of different names, 1 to 128 links of two arcs each, at most
-- one link between two nodes, and bounds on what the arcs take of memory.
use Rattle.std.specs.Prelude.{◌≡◌, ◌≢◌, ℕ, ◌+◌, ◌*◌, ◌%◌, ◌≤◌, List, length, sum_by, slice_get, All, AllPairs, Some}
use Rattle.pre_topo.specs.declared.nodes.Node.{Node}
use Rattle.pre_topo.specs.declared.nodes.Timing.{Timing}
use Rattle.pre_topo.specs.declared.arcs.Arc.{Arc}
use Rattle.pre_topo.specs.Nodes.{IsNode, IsTiming}
use Rattle.pre_topo.specs.Arcs.{IsArc, JoinsOther, turned, slots_of_arc, wires_of_arc}

pub record IsNetwork (express_from : ℕ) (timing : Timing) (nodes : List Node) (arcs : List Arc) : Type 0 where
  pub express : (1 ≤ express_from) × (express_from ≤ 7)
  pub timed : IsTiming timing
  pub each_node : All IsNode nodes
  pub each_arc : All (IsArc nodes) arcs
  pub names : AllPairs (λ m n. m.name ≢ n.name) nodes
  pub ends : AllPairs JoinsOther arcs
  pub links : (i : ℕ) (a b : Arc) → slice_get arcs (2 * i) ≡ Some a → slice_get arcs (2 * i + 1) ≡ Some b → b ≡ turned a
  pub node_count : (2 ≤ length nodes) × (length nodes ≤ 128)
  pub arc_count : (2 ≤ length arcs) × (length arcs ≤ 256) × (length arcs % 2 ≡ 0)
  pub slots : sum_by (slots_of_arc nodes) arcs ≤ 60000
  pub wires : sum_by wires_of_arc arcs ≤ 67108864
