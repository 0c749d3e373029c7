-- The network of the tests: two stations, and between them a bridge.
use Rattle.std.proofs.Common.{◌≡◌, ◌≢◌, ℕ, ◌*◌, ◌+◌, List, [], ◌∷◌, Some, codes, rules, All, AllPairs, slice_get}
use Rattle.pre_topo.specs.declared.nodes.Node.{Node}
use Rattle.pre_topo.specs.declared.arcs.Arc.{Arc}
use Rattle.pre_topo.specs.Pair.{station, default_timing}
use Rattle.pre_bridge.specs.Sample.{bridge, between}
use Rattle.pre_topo.specs.Arcs.{IsArc, JoinsOther, turned}
use Rattle.pre_topo.specs.Nodes.{IsNode}
use Rattle.pre_topo.specs.Rules.{IsNetwork}

abbrev pub line_nodes : List Node
line_nodes = station (codes "a") ∷ bridge (codes "m") ∷ station (codes "b") ∷ []

abbrev pub line_arcs : List Arc
line_arcs = between 0 1 ∷ between 1 0 ∷ between 1 2 ∷ between 2 1 ∷ []

each_node : All IsNode line_nodes
each_node = search rules

each_arc : All (IsArc line_nodes) line_arcs
each_arc = search rules

names : AllPairs (λ (m n : Node). m.name ≢ n.name) line_nodes
names = search rules

ends : AllPairs JoinsOther line_arcs
ends = search rules

links : (i : ℕ) (a b : Arc) → slice_get line_arcs (2 * i) ≡ Some a → slice_get line_arcs (2 * i + 1) ≡ Some b → b ≡ turned a
links = search rules

pub line_fits : IsNetwork 4 default_timing line_nodes line_arcs
line_fits = record {
  express = search rules;
  timed = search rules;
  each_node = each_node;
  each_arc = each_arc;
  names = names;
  ends = ends;
  links = links;
  node_count = search rules;
  arc_count = search rules;
  slots = search rules;
  wires = search rules;
}
