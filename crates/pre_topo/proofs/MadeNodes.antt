-- Numbers in range, and nodes that are made of rows without a fault.
use Rattle.std.proofs.Common.{◌≡◌, ◌≢◌, ℕ, ◌<◌, ◌≤◌, ◌^◌, false, ◌&&◌, List, length, get_or, Option, Some, None}
use Rattle.std.proofs.Common.{All, AllPairs, nat_le, sym, ◌∙◌, ap, arith, IsTrue, unwrap_or}
use Rattle.std.specs.Option.{option_map_or}
use Rattle.std.specs.Str.{bytes_eq}
use Rattle.std.proofs.lemmas.Bool.{and_parts, leb-true, true≢false}
use Rattle.std.proofs.lemmas.List.{get_or-map, length-map}
use Rattle.std.proofs.lemmas.List.Elements.{All-map}
use Rattle.pre_table.specs.declared.values.Whole.{Whole}
use Rattle.pre_table.specs.declared.values.Whole.TheVariants.{Negative, Natural}
use Rattle.pre_table.specs.Values.{natural, is_within}
use Rattle.pre_topo.specs.declared.nodes.Node.{Node}
use Rattle.pre_topo.specs.declared.nodes.NodeKind.{NodeKind}
use Rattle.pre_topo.specs.declared.nodes.NodeKind.TheVariants.{Station, Bridge}
use Rattle.pre_topo.specs.declared.raw.RawTiming.{RawTiming}
use Rattle.pre_topo.specs.declared.raw.RawNode.{RawNode}
use Rattle.pre_topo.specs.FileRules.{kind_of, most_latency, timing_in_range}
use Rattle.pre_topo.specs.Holds.{NodesHold}
use Rattle.pre_topo.specs.Made.{timing_made, node_made, nodes_made}
use Rattle.pre_topo.specs.Nodes.{IsNode, IsTiming}
use Rattle.pre_topo.proofs.Joined.{bytes_eq-same}

pub within : (low high : ℕ) (w : Whole) → IsTrue (is_within low high w) → (low ≤ natural w) × (natural w ≤ high)
within low high (Negative n) is = cc
within low high (Natural n) is =
    let (least, most) = and_parts (nat_le low n) (nat_le n high) is in
    (leb-true low n least, leb-true n high most)

pub timing_is : (t : RawTiming) → IsTrue (timing_in_range t) → IsTiming (timing_made t)
timing_is t is =
    let (three, verify) = and_parts ((is_within 1 (10 ^ 12) t.interval && is_within 1 65535 t.ttl) && is_within 1 (10 ^ 9) t.unit) (is_within 1 (10 ^ 12) t.verify) is in
    let (two, unit) = and_parts (is_within 1 (10 ^ 12) t.interval && is_within 1 65535 t.ttl) (is_within 1 (10 ^ 9) t.unit) three in
    let (interval, ttl) = and_parts (is_within 1 (10 ^ 12) t.interval) (is_within 1 65535 t.ttl) two in
    record {
      interval = within 1 (10 ^ 12) t.interval interval;
      ttl = within 1 65535 t.ttl ttl;
      unit = within 1 (10 ^ 9) t.unit unit;
      verify = within 1 (10 ^ 12) t.verify verify;
    }

latency_fits : (o : Option NodeKind) (latency : Whole) → IsTrue (option_map_or (λ kind. is_within 0 (most_latency kind) latency) o false) → (natural latency ≤ 10 ^ 9) × (unwrap_or o Station ≡ Station → natural latency ≡ 0)
latency_fits None latency is = cc
latency_fits (Some Station) latency is =
    let range = within 0 0 latency is in
    (omega (arith, range.1), λ _. omega (arith, range.1))
latency_fits (Some Bridge) latency is = ((within 0 (10 ^ 9) latency is).1, λ same. cc)

pub nodes_are : (nodes : List RawNode) → NodesHold nodes → All IsNode (nodes_made nodes)
nodes_are nodes hold =
    All-map IsNode node_made nodes (λ k d in_. let fits = latency_fits (kind_of (get_or nodes k d).kind) (get_or nodes k d).latency (hold.range k d in_) in
    record { name = hold.names k d in_; latency = fits.0; station = fits.1 })

differ : (xs ys : List ℕ) → bytes_eq xs ys ≡ false → xs ≢ ys
differ xs ys is same = true≢false (sym (bytes_eq-same xs ys same) ∙ is)

pub names_differ : (nodes : List RawNode) → NodesHold nodes → AllPairs (λ m n. m.name ≢ n.name) (nodes_made nodes)
names_differ nodes hold i j d before in_ same =
    let short : j < length nodes = rw length-map at in_ in
    let shorter : i < length nodes = omega arith in
    let default : RawNode = record { name = d.name; kind = d.name; latency = Natural 0 } in
    let first = get_or-map node_made nodes i default d shorter in
    let second = get_or-map node_made nodes j default d short in
    differ (get_or nodes i default).name (get_or nodes j default).name (hold.apart i j default before short)
    (ap (λ (n : Node). n.name) (sym first) ∙ same ∙ ap (λ (n : Node). n.name) second)
