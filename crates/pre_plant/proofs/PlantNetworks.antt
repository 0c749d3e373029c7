-- The network of every plant meets the rules of networks.
use Rattle.std.proofs.Common.{◌≡◌, ◌≢◌, ℕ, ◌+◌, ◌-◌, ◌*◌, ◌%◌, ◌<◌, ◌≤◌, inl, inr, [], ◌∷◌, length}
use Rattle.std.proofs.Common.{get_or, slice_get, Some, sum_by, All, AllPairs, refl, sym, ◌∙◌, ap, arith, lit≤, length-append}
use Rattle.std.proofs.lemmas.Bool.{cases_lt}
use Rattle.std.proofs.lemmas.List.Elements.{All-append, All-cons, All-nil, All-from_recursion}
use Rattle.std.proofs.lemmas.List.Kept.{AllPairs-cons}
use Rattle.std.proofs.lemmas.Option.{slice_get_within, same_Some}
use Rattle.pre_topo.specs.declared.arcs.Arc.{Arc}
use Rattle.pre_topo.specs.declared.nodes.Node.{Node}
use Rattle.pre_topo.specs.Arcs.{IsArc, JoinsOther, turned, slots_of_arc, wires_of_arc}
use Rattle.pre_topo.specs.Nodes.{IsNode, IsTiming}
use Rattle.pre_topo.specs.Rules.{IsNetwork}
use Rattle.pre_plant.specs.Lists.{list_of, joined_of}
use Rattle.pre_plant.specs.Networks.{plant_timing, bridge, station, plant_nodes, arc_between, link_between, chain_link, station_link, plant_arcs}
use Rattle.pre_plant.proofs.ListLaws.{length-list_of, All-list_of, All-joined_of, AllPairs-list_of, AllPairs-joined_of, AllPairs-append}
use Rattle.pre_plant.proofs.Naming.{bridge_named, station_named, one_letter, two_letters}
use Rattle.pre_plant.proofs.Places.{arc_up, arc_down, arc_out, arc_in}

timing_is : IsTiming plant_timing
timing_is = record { interval = (lit≤ tt, lit≤ tt); ttl = (lit≤ tt, lit≤ tt); unit = (lit≤ tt, lit≤ tt); verify = (lit≤ tt, lit≤ tt) }

-- ---- nodes

bridge_is : (i : ℕ) → i < 12 → IsNode (bridge i)
bridge_is i lt = record { name = bridge_named i lt; latency = lit≤ tt; station = λ e. absurd cc }

station_is : (j : ℕ) → j < 40 → IsNode (station j)
station_is j lt = record { name = station_named j lt; latency = lit≤ tt; station = λ e. refl }

each_node : All IsNode plant_nodes
unfolding plant_nodes
each_node = All-append IsNode (list_of 12 bridge) (list_of 40 station) (All-list_of IsNode bridge 12 bridge_is) (All-list_of IsNode station 40 station_is)

OtherName : Node → Node → Type 0
OtherName m n = m.name ≢ n.name

names_differ : AllPairs (λ m n. m.name ≢ n.name) plant_nodes
unfolding plant_nodes OtherName
names_differ =
    AllPairs-append OtherName (list_of 12 bridge) (list_of 40 station)
    (AllPairs-list_of OtherName bridge 12 (λ i j before lt. one_letter 98 i j before (omega arith)))
    (AllPairs-list_of OtherName station 40 (λ i j before lt. one_letter 115 i j before (omega arith)))
    (All-list_of (λ m. All (OtherName m) (list_of 40 station)) bridge 12
    (λ i lt. All-list_of (OtherName (bridge i)) station 40 (λ j inside. two_letters 98 115 _ _ (λ e. omega (arith, e)))))

pub nodes_count : length plant_nodes ≡ 52
unfolding plant_nodes
nodes_count = omega (arith, length-append (list_of 12 bridge) (list_of 40 station), length-list_of bridge 12, length-list_of station 40)

-- ---- arcs

arc_is : (from to : ℕ) → from < 52 → to < 52 → from ≢ to → IsArc plant_nodes (arc_between from to)
arc_is from to from_in to_in apart = record {
  from = omega (arith, nodes_count);
  to = omega (arith, nodes_count);
  apart = apart;
  cost = (lit≤ tt, lit≤ tt);
  delay = lit≤ tt;
  add_frag = lit≤ tt;
  rings = All-from_recursion (λ r. (1 ≤ r) × (r ≤ 4096)) (8 ∷ 8 ∷ 8 ∷ 8 ∷ 112 ∷ 112 ∷ 112 ∷ 112 ∷ []) (
    (lit≤ tt, lit≤ tt),
    (
      (lit≤ tt, lit≤ tt),
      (
        (lit≤ tt, lit≤ tt),
        (
          (
            lit≤ tt,
            lit≤ tt,
          ),
          ((lit≤ tt, lit≤ tt), ((lit≤ tt, lit≤ tt), ((lit≤ tt, lit≤ tt), ((lit≤ tt, lit≤ tt), tt)))),
        ),
      ),
    ),
  );
  express_from = (lit≤ tt, lit≤ tt);
  largest = (lit≤ tt, lit≤ tt);
}

two_hold : (P : Arc → Type 0) (first second : ℕ) → P (arc_between first second) → P (arc_between second first) → All P (link_between first second)
two_hold P first second one two = All-cons P (arc_between first second) (arc_between second first ∷ []) one (All-cons P (arc_between second first) [] two (All-nil P))

link_is : (first second : ℕ) → first < 52 → second < 52 → first ≢ second → All (IsArc plant_nodes) (link_between first second)
link_is first second first_in second_in apart =
    two_hold (IsArc plant_nodes) first second (arc_is first second first_in second_in apart) (arc_is second first second_in first_in (λ e. apart (sym e)))

each_arc_is : All (IsArc plant_nodes) plant_arcs
unfolding plant_arcs
each_arc_is =
    All-append (IsArc plant_nodes) (joined_of 11 chain_link) (joined_of 40 station_link)
    (All-joined_of (IsArc plant_nodes) chain_link 11 (λ i lt. link_is i (i + 1) (omega arith) (omega arith) (λ e. omega (arith, e))))
    (All-joined_of (IsArc plant_nodes) station_link 40 (λ j lt. link_is (12 + j) (j % 12) (omega arith) (omega arith) (λ e. omega (arith, e))))

-- no two links join the same nodes
OtherEnds : Arc → Arc → Type 0
OtherEnds x y = x.from.0 ≡ y.from.0 → x.to.0 ≢ y.to.0

one_link : (first second : ℕ) → first ≢ second → AllPairs OtherEnds (link_between first second)
unfolding OtherEnds
one_link first second apart =
    AllPairs-cons OtherEnds (arc_between first second) (arc_between second first ∷ [])
    (All-cons (OtherEnds (arc_between first second)) (arc_between second first) [] (λ e f. apart e) (All-nil (OtherEnds (arc_between first second))))
    (λ i j d lt within. absurd (omega (arith, lt, within)))

two_links : (a b c d : ℕ) → (a ≡ c → b ≢ d) → (a ≡ d → b ≢ c) → All (λ x. All (OtherEnds x) (link_between c d)) (link_between a b)
unfolding OtherEnds
two_links a b c d straight crossed =
    two_hold (λ x. All (OtherEnds x) (link_between c d)) a b
    (two_hold (OtherEnds (arc_between a b)) c d straight crossed)
    (two_hold (OtherEnds (arc_between b a)) c d (λ e f. crossed f e) (λ e f. straight f e))

ends_differ : AllPairs JoinsOther plant_arcs
unfolding plant_arcs OtherEnds
ends_differ =
    AllPairs-append OtherEnds (joined_of 11 chain_link) (joined_of 40 station_link)
    (AllPairs-joined_of OtherEnds chain_link 11 (λ i lt. one_link i (i + 1) (λ e. omega (arith, e)))
    (λ i j before lt. two_links i (i + 1) j (j + 1) (λ e f. omega (arith, e, before)) (λ e f. omega (arith, e, before))))
    (AllPairs-joined_of OtherEnds station_link 40 (λ j lt. one_link (12 + j) (j % 12) (λ e. omega (arith, e)))
    (λ i j before lt. two_links (12 + i) (i % 12) (12 + j) (j % 12) (λ e f. omega (arith, e, before)) (λ e f. omega (arith, e))))
    (All-joined_of (λ x. All (OtherEnds x) (joined_of 40 station_link)) chain_link 11
    (λ i lt k d within. All-joined_of (OtherEnds (get_or (chain_link i) k d)) station_link 40
    (λ j inside. two_links i (i + 1) (12 + j) (j % 12) (λ e f. omega (arith, e, lt)) (λ e f. omega (arith, f, lt)) k d within)))

pub arcs_count : length plant_arcs ≡ 102
unfolding plant_arcs joined_of
arcs_count = refl

-- the arcs of a link are one turned
paired : (i : ℕ) (x y : Arc) → slice_get plant_arcs (2 * i) ≡ Some x → slice_get plant_arcs (2 * i + 1) ≡ Some y → y ≡ turned x
paired i x y there back =
    elim (cases_lt i 11) [
      | inl lt ↦ sym (same_Some _ _ (sym (arc_down i lt) ∙ back)) ∙ ap turned (same_Some _ _ (sym (arc_up i lt) ∙ there))
      | inr le ↦
          let within = slice_get_within plant_arcs (2 * i) x there in
          let lt : i - 11 < 40 = omega (arith, within, arcs_count) in
          let out : 2 * i ≡ 22 + 2 * (i - 11) = omega (arith, le) in
          let in_ : 2 * i + 1 ≡ 23 + 2 * (i - 11) = omega (arith, le) in
          sym (same_Some _ _ (sym (arc_in (i - 11) lt) ∙ sym (ap (slice_get plant_arcs) in_) ∙ back)) ∙ ap turned (same_Some _ _ (sym (arc_out (i - 11) lt) ∙ sym (ap
          (slice_get plant_arcs) out) ∙ there))
    ]

pub slots_sum : sum_by (slots_of_arc plant_nodes) plant_arcs ≡ 49_328
unfolding plant_nodes plant_arcs list_of joined_of
slots_sum = refl

pub wires_sum : sum_by wires_of_arc plant_arcs ≡ 205_326
unfolding plant_arcs joined_of
wires_sum = refl

pub plant_network_is : IsNetwork 4 plant_timing plant_nodes plant_arcs
plant_network_is = record {
  express = (lit≤ tt, lit≤ tt);
  timed = timing_is;
  each_node = each_node;
  each_arc = each_arc_is;
  names = names_differ;
  ends = ends_differ;
  links = paired;
  node_count = (omega (arith, nodes_count), omega (arith, nodes_count));
  arc_count = (omega (arith, arcs_count), omega (arith, arcs_count), omega (arith, arcs_count));
  slots = omega (arith, slots_sum);
  wires = omega (arith, wires_sum);
}
