-- Raw rows without a fault of names, ends, ranges or counts.
use Rattle.std.proofs.Common.{◌≡◌, ℕ, ◌<◌, ◌≤◌, false, not, ◌&&◌, ◌||◌, List, length, take, get_or, None, All, AllPairs, nat_le, arith, IsTrue}
use Rattle.std.specs.List.{list_any}
use Rattle.std.specs.Str.{bytes_eq}
use Rattle.std.proofs.lemmas.Bool.{not-false, or_parts, and_parts, leb-true}
use Rattle.pre_text.specs.Words.{is_name}
use Rattle.pre_table.specs.Values.{is_within}
use Rattle.pre_topo.specs.declared.raw.RawNetwork.{RawNetwork}
use Rattle.pre_topo.specs.declared.raw.RawNode.{RawNode}
use Rattle.pre_topo.specs.declared.raw.RawLink.{RawLink}
use Rattle.pre_topo.specs.FileRules.{name_breaks, name_fault, is_named, is_node, joins, ends_break, end_fault, timing_in_range, node_in_range, link_in_range, range_fault, counts_hold, rows_fault}
use Rattle.pre_topo.specs.Holds.{EndsHold, Holds}
use Rattle.pre_table.proofs.NoFaults.{first_none, map_none, unless_none, none_fails, none_breaks, none_before}

module _ (nodes : List RawNode) where
  pub names_hold : name_fault nodes ≡ None → All (λ n. IsTrue (is_name n.name)) nodes × AllPairs (λ m n. bytes_eq m.name n.name ≡ false) nodes
  unfolding name_fault
  names_hold none = (
    λ k d within. not-false (is_name (get_or nodes k d).name) (parts k d within).0,
    λ i j d before within. none_before (is_named (get_or nodes j d).name) nodes j (parts j d within).1 i d before (omega arith),
  )
    where
      parts : (k : ℕ) (d : RawNode) → k < length nodes → (not (is_name (get_or nodes k d).name) ≡ false) × (list_any (is_named (get_or nodes k d).name) (take k nodes) ≡ false)
      parts k d within = or_parts (not (is_name (get_or nodes k d).name)) (list_any (is_named (get_or nodes k d).name) (take k nodes)) (none_breaks (name_breaks nodes) nodes (map_none _ _ none) k d within)

  module _ (links : List RawLink) (none : end_fault nodes links ≡ None) where
    ends_parts : (k : ℕ) (d : RawLink) → k < length links → (((not (is_node nodes (get_or links k d).first) || not (is_node nodes (get_or links k d).second)) || bytes_eq (get_or links k d).first (get_or links k d).second) ≡ false) × (list_any (joins (get_or links k d).first (get_or links k d).second) (take k links) ≡ false)
    unfolding end_fault
    ends_parts k d within =
        let l = get_or links k d in
        or_parts ((not (is_node nodes l.first) || not (is_node nodes l.second)) || bytes_eq l.first l.second) (list_any (joins l.first l.second) (take k links)) (none_breaks (ends_break nodes links) links (map_none _ _ none) k d within)

    pub each_holds : All (EndsHold nodes) links
    each_holds k d within =
        let l = get_or links k d in
        let (ends, same) = or_parts (not (is_node nodes l.first) || not (is_node nodes l.second)) (bytes_eq l.first l.second) (ends_parts k d within).0 in
        let (first, second) = or_parts (not (is_node nodes l.first)) (not (is_node nodes l.second)) ends in
        record { first = not-false (is_node nodes l.first) first; second = not-false (is_node nodes l.second) second; apart = same }

    pub apart_holds : AllPairs (λ l m. joins m.first m.second l ≡ false) links
    apart_holds i j d before within =
        none_before (joins (get_or links j d).first (get_or links j d).second) links j (ends_parts j d within).1 i d before (omega arith)

pub record RangesHold (raw : RawNetwork) : Type 0 where
  pub express : IsTrue (is_within 1 7 raw.express_from)
  pub timing : IsTrue (timing_in_range raw.timing)
  pub nodes : All (λ n. IsTrue (node_in_range n)) raw.nodes
  pub links : All (λ l. IsTrue (link_in_range l)) raw.links

ranges_hold : (raw : RawNetwork) → range_fault raw ≡ None → RangesHold raw
unfolding range_fault
ranges_hold raw none =
    let (top, behind_top) = first_none _ _ none in
    let (timing, behind_timing) = first_none _ _ behind_top in
    let (nodes, behind_nodes) = first_none _ _ behind_timing in
    let (links, behind_links) = first_none _ _ behind_nodes in
    record {
      express = unless_none (is_within 1 7 raw.express_from) _ top;
      timing = unless_none (timing_in_range raw.timing) _ timing;
      nodes = none_fails node_in_range raw.nodes (map_none _ _ nodes);
      links = none_fails link_in_range raw.links (map_none _ _ links);
    }

counts_parts : (nodes links : ℕ) → IsTrue (counts_hold nodes links) → ((2 ≤ nodes) × (nodes ≤ 128)) × ((1 ≤ links) × (links ≤ 128))
counts_parts nodes links hold =
    let (three, links_most) = and_parts ((nat_le 2 nodes && nat_le nodes 128) && nat_le 1 links) (nat_le links 128) hold in
    let (two, links_least) = and_parts (nat_le 2 nodes && nat_le nodes 128) (nat_le 1 links) three in
    let (nodes_least, nodes_most) = and_parts (nat_le 2 nodes) (nat_le nodes 128) two in
    ((leb-true 2 nodes nodes_least, leb-true nodes 128 nodes_most), (leb-true 1 links links_least, leb-true links 128 links_most))

pub faultless : (raw : RawNetwork) → rows_fault raw ≡ None → Holds raw
faultless raw none =
    let (names, behind_names) = first_none (name_fault raw.nodes) _ none in
    let (ends, behind_ends) = first_none (end_fault raw.nodes raw.links) _ behind_names in
    let (range, behind_range) = first_none (range_fault raw) _ behind_ends in
    let (count, behind_count) = first_none _ _ behind_range in
    let counts = counts_parts (length raw.nodes) (length raw.links) (unless_none (counts_hold (length raw.nodes) (length raw.links)) _ count) in
    let ranges = ranges_hold raw range in
    let named = names_hold raw.nodes names in
    record {
      express = ranges.express;
      timing = ranges.timing;
      nodes = record { range = ranges.nodes; names = named.0; apart = named.1 };
      links = record { range = ranges.links; ends = each_holds raw.nodes raw.links ends; apart = apart_holds raw.nodes raw.links ends };
      node_count = counts.0;
      link_count = counts.1;
    }
