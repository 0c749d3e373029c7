-- What holds of raw rows without a fault of names, ends, ranges or counts.
use Rattle.std.specs.Prelude.{◌≡◌, ◌≤◌, false, List, length, All, AllPairs, IsTrue}
use Rattle.std.specs.Str.{bytes_eq}
use Rattle.pre_text.specs.Words.{is_name}
use Rattle.pre_table.specs.Values.{is_within}
use Rattle.pre_topo.specs.declared.raw.RawNetwork.{RawNetwork}
use Rattle.pre_topo.specs.declared.raw.RawNode.{RawNode}
use Rattle.pre_topo.specs.declared.raw.RawLink.{RawLink}
use Rattle.pre_topo.specs.FileRules.{is_node, joins, timing_in_range, node_in_range, link_in_range}

pub record NodesHold (nodes : List RawNode) : Type 0 where
  pub range : All (λ n. IsTrue (node_in_range n)) nodes
  pub names : All (λ n. IsTrue (is_name n.name)) nodes
  pub apart : AllPairs (λ m n. bytes_eq m.name n.name ≡ false) nodes

-- both ends are nodes, and not one
pub record EndsHold (nodes : List RawNode) (l : RawLink) : Type 0 where
  pub first : IsTrue (is_node nodes l.first)
  pub second : IsTrue (is_node nodes l.second)
  pub apart : bytes_eq l.first l.second ≡ false

pub record LinksHold (nodes : List RawNode) (links : List RawLink) : Type 0 where
  pub range : All (λ l. IsTrue (link_in_range l)) links
  pub ends : All (EndsHold nodes) links
  pub apart : AllPairs (λ l m. joins m.first m.second l ≡ false) links

pub record Holds (raw : RawNetwork) : Type 0 where
  pub express : IsTrue (is_within 1 7 raw.express_from)
  pub timing : IsTrue (timing_in_range raw.timing)
  pub nodes : NodesHold raw.nodes
  pub links : LinksHold raw.nodes raw.links
  pub node_count : (2 ≤ length raw.nodes) × (length raw.nodes ≤ 128)
  pub link_count : (1 ≤ length raw.links) × (length raw.links ≤ 128)
