-- What the fields of a row stand for, before they are copied.
use Rattle.std.specs.Prelude.{map}
use Rattle.std.specs.Option.{option_map_or}
use Rattle.toml.specs.Data.{no_members}
use Rattle.toml.specs.View.{view, table_view}
use Rattle.pre_topo.specs.declared.raw.RawNode.{RawNode}
use Rattle.pre_topo.specs.declared.raw.RawLink.{RawLink}
use Rattle.pre_topo.specs.declared.fields.NodeFields.{NodeFields}
use Rattle.pre_topo.specs.declared.fields.LinkFields.{LinkFields}
use Rattle.pre_topo.specs.declared.fields.TopFields.{TopFields}
use Rattle.pre_topo.specs.Raw.{TopRow}

abbrev pub node_seen : NodeFields → RawNode
node_seen f = record { name = f.name.now; kind = f.kind.now; latency = f.latency }

abbrev pub link_seen : LinkFields → RawLink
link_seen f = record {
  first = f.first.now;
  second = f.second.now;
  cost = f.cost;
  delay = f.delay;
  mode = f.mode.now;
  policy = f.policy.now;
  add_frag = f.add_frag;
  rings = f.rings;
  express_from = f.express_from;
  largest = f.largest;
}

abbrev pub top_seen : TopFields → TopRow
top_seen f = record { express_from = f.express_from; timing = option_map_or (λ t. table_view t.now) f.timing no_members; nodes = map view f.nodes.now; links = map view f.links.now }
