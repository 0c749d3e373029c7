-- The rules of a node and of the timing.
use Rattle.std.specs.Prelude.{◌≡◌, ◌≤◌, ◌^◌, IsTrue}
use Rattle.pre_text.specs.Words.{is_name}
use Rattle.pre_topo.specs.declared.nodes.Node.{Node}
use Rattle.pre_topo.specs.declared.nodes.NodeKind.TheVariants.{Station}
use Rattle.pre_topo.specs.declared.nodes.Timing.{Timing}

-- each time is in its range
pub record IsTiming (t : Timing) : Type 0 where
  pub interval : (1 ≤ t.interval) × (t.interval ≤ 10 ^ 12)
  pub ttl : (1 ≤ t.ttl) × (t.ttl ≤ 65535)
  pub unit : (1 ≤ t.unit) × (t.unit ≤ 10 ^ 9)
  pub verify : (1 ≤ t.verify) × (t.verify ≤ 10 ^ 12)

-- a node has a well-formed name, and only a bridge keeps a frame for a while
pub record IsNode (n : Node) : Type 0 where
  pub name : IsTrue (is_name n.name)
  pub latency : n.latency ≤ 10 ^ 9
  pub station : n.kind ≡ Station → n.latency ≡ 0
