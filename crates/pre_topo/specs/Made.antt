-- The network that raw rows without a fault make.
use Rattle.std.specs.Prelude.{ℕ, List, [], ◌∷◌, map, unwrap_or, position}
use Rattle.std.specs.List.{flat_map}
use Rattle.pre_table.specs.declared.values.Whole.{Whole}
use Rattle.pre_table.specs.Values.{natural}
use Rattle.pre_topo.specs.declared.arcs.Arc.{Arc}
use Rattle.pre_topo.specs.declared.arcs.Mode.TheVariants as mode
use Rattle.pre_topo.specs.declared.arcs.Policy.TheVariants as policy
use Rattle.pre_topo.specs.declared.nodes.Node.{Node}
use Rattle.pre_topo.specs.declared.nodes.NodeKind.TheVariants.{Station}
use Rattle.pre_topo.specs.declared.nodes.Timing.{Timing}
use Rattle.pre_topo.specs.declared.raw.RawTiming.{RawTiming}
use Rattle.pre_topo.specs.declared.raw.RawNode.{RawNode}
use Rattle.pre_topo.specs.declared.raw.RawLink.{RawLink}
use Rattle.pre_topo.specs.Arcs.{turned}
use Rattle.pre_topo.specs.FileRules.{is_named, kind_of, mode_of, policy_of}

abbrev pub timing_made : RawTiming → Timing
timing_made t = record { interval = natural t.interval; ttl = natural t.ttl; unit = natural t.unit; verify = natural t.verify }

abbrev pub node_made : RawNode → Node
node_made n = record { name = n.name; kind = unwrap_or (kind_of n.kind) Station; latency = natural n.latency }

-- the place of the node of this name
abbrev pub node_named : List RawNode → List ℕ → ℕ
node_named nodes name = unwrap_or (position (is_named name) nodes) 0

-- a link's arc from its first end to its second, with the file's least express priority where the link has none
abbrev pub arc_made : Whole → List RawNode → RawLink → Arc
arc_made top nodes l = record {
  from = record { 0 = node_named nodes l.first };
  to = record { 0 = node_named nodes l.second };
  cost = natural l.cost;
  delay = natural l.delay;
  mode = unwrap_or (mode_of l.mode) mode.Off;
  policy = unwrap_or (policy_of l.policy) policy.Quiet;
  add_frag = natural l.add_frag;
  rings = map natural l.rings;
  express_from = natural (unwrap_or l.express_from top);
  largest = natural l.largest;
}

-- and the one back
abbrev pub arcs_of_link : Whole → List RawNode → RawLink → List Arc
arcs_of_link top nodes l = arc_made top nodes l ∷ turned (arc_made top nodes l) ∷ []

abbrev pub nodes_made : List RawNode → List Node
nodes_made nodes = map node_made nodes

abbrev pub arcs_made : Whole → List RawNode → List RawLink → List Arc
arcs_made top nodes links = flat_map (arcs_of_link top nodes) links
