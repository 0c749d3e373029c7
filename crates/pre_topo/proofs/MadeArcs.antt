-- Arcs that are made of links without a fault.
use Rattle.std.proofs.Common.{◌≡◌, ◌≢◌, ℕ, zero, suc, ◌+◌, ◌*◌, ◌<◌, ◌≤◌, ◌^◌, Bool, true, false, ◌&&◌, List, []}
use Rattle.std.proofs.Common.{◌∷◌, length, map, get_or, slice_get, Option, Some, None, unwrap_or, All, AllPairs, is_some, refl, sym, ◌∙◌, ap}
use Rattle.std.proofs.Common.{arith, IsTrue}
use Rattle.std.specs.List.{list_any, list_all, position_or_len}
use Rattle.std.specs.Option.{option_map_or}
use Rattle.std.specs.Str.{bytes_eq}
use Rattle.std.specs.Cmp.Lexicographic.{same_text}
use Rattle.std.proofs.lemmas.Bool.{and_parts, or_parts, true≢false, lt-ltb, and_from}
use Rattle.std.proofs.lemmas.Option.{same_Some}
use Rattle.std.proofs.lemmas.List.{length-map}
use Rattle.std.proofs.lemmas.List.Elements.{All-map, All-cons, All-nil, All-head, All-tail}
use Rattle.std.proofs.lemmas.List.Sums.{AllPass-from_list_all, passes_at_first}
use Rattle.pre_base.specs.declared.limits.TheConstants.{LEAST_FRAME, GREATEST_FRAME}
use Rattle.pre_table.specs.declared.values.Whole.{Whole}
use Rattle.pre_table.specs.declared.values.Whole.TheVariants.{Natural}
use Rattle.pre_table.specs.Values.{natural, is_within}
use Rattle.pre_topo.specs.declared.arcs.Arc.{Arc}
use Rattle.pre_topo.specs.declared.raw.RawNode.{RawNode}
use Rattle.pre_topo.specs.declared.raw.RawLink.{RawLink}
use Rattle.pre_topo.specs.Arcs.{IsArc, JoinsOther, turned}
use Rattle.pre_topo.specs.FileRules.{is_named, is_node, joins, link_in_range, mode_of, policy_of}
use Rattle.pre_topo.specs.Holds.{EndsHold}
use Rattle.pre_topo.specs.Made.{node_named, arc_made, arcs_made, nodes_made}
use Rattle.pre_topo.proofs.Joined.{bytes_eq-same}
use Rattle.pre_topo.proofs.MadeNodes.{within}

passes_somewhere : {X : Type 0} (p : X → Bool) (xs : List X) → IsTrue (list_any p xs) → position_or_len p xs < length xs
passes_somewhere p [] any = cc
passes_somewhere p (x ∷ xs) any = by_cases (p x) refl (passes_somewhere p xs)
  where
    by_cases : (b : Bool) → b ≡ p x → (IsTrue (list_any p xs) → position_or_len p xs < length xs) → position_or_len p (x ∷ xs) < length (x ∷ xs)
    by_cases true is more = rw (← is) (omega arith)
    by_cases false is more =
        let behind : IsTrue (list_any p xs) = rw (← is) at any in
        rw (← is) (omega (arith, more behind))

AllPairs-nil : {X : Type 0} (R : X → X → Type 0) → AllPairs R []
AllPairs-nil R i j d before in_ = absurd (omega arith)

AllPairs-cons : {X : Type 0} (R : X → X → Type 0) (x : X) (xs : List X) → All (R x) xs → AllPairs R xs → AllPairs R (x ∷ xs)
AllPairs-cons R x xs first rest zero zero d before in_ = absurd (omega arith)
AllPairs-cons R x xs first rest zero (suc j) d before in_ = first j d (omega arith)
AllPairs-cons R x xs first rest (suc i) zero d before in_ = absurd (omega arith)
AllPairs-cons R x xs first rest (suc i) (suc j) d before in_ = rest i j d (omega arith) (omega arith)

AllPairs-head : {X : Type 0} (R : X → X → Type 0) (x : X) (xs : List X) → AllPairs R (x ∷ xs) → All (R x) xs
AllPairs-head R x xs all k d in_ = all 0 (suc k) d (omega arith) (omega arith)

AllPairs-tail : {X : Type 0} (R : X → X → Type 0) (x : X) (xs : List X) → AllPairs R (x ∷ xs) → AllPairs R xs
AllPairs-tail R x xs all i j d before in_ = all (suc i) (suc j) d (omega arith) (omega arith)

module _ (top : Whole) (express : IsTrue (is_within 1 7 top)) (nodes : List RawNode) where
  node_place : (name : List ℕ) → IsTrue (is_node nodes name) → node_named nodes name ≡ position_or_len (is_named name) nodes
  node_place name is = rw (lt-ltb (position_or_len (is_named name) nodes) (length nodes) (passes_somewhere (is_named name) nodes is)) refl

  node_within : (name : List ℕ) → IsTrue (is_node nodes name) → node_named nodes name < length nodes
  node_within name is = rw (node_place name is) (passes_somewhere (is_named name) nodes is)

  node_has : (name : List ℕ) (d : RawNode) → IsTrue (is_node nodes name) → (get_or nodes (node_named nodes name) d).name ≡ name
  node_has name d is =
      same_text (get_or nodes (node_named nodes name) d).name name
      (rw (node_place name is) (sym (passes_at_first (is_named name) nodes d (passes_somewhere (is_named name) nodes is))))

  -- one node has one name
  same_node : (a b : List ℕ) → IsTrue (is_node nodes a) → IsTrue (is_node nodes b) → node_named nodes a ≡ node_named nodes b → bytes_eq a b ≡ true
  same_node a b is_a is_b same =
      let d : RawNode = record { name = a; kind = a; latency = Natural 0 } in
      bytes_eq-same a b (sym (node_has a d is_a) ∙ ap (λ i. (get_or nodes i d).name) same ∙ node_has b d is_b)

  record Ranges (l : RawLink) : Type 0 where
    cost : (1 ≤ natural l.cost) × (natural l.cost ≤ 1000)
    delay : natural l.delay ≤ 10 ^ 9
    add_frag : natural l.add_frag ≤ 3
    rings : All (λ r. (1 ≤ r) × (r ≤ 4096)) (map natural l.rings)
    express_from : (1 ≤ natural (unwrap_or l.express_from top)) × (natural (unwrap_or l.express_from top) ≤ 7)
    largest : (LEAST_FRAME ≤ natural l.largest) × (natural l.largest ≤ GREATEST_FRAME)

  -- a link's own least express priority, or the file's
  own_or_top : (o : Option Whole) → IsTrue (option_map_or (is_within 1 7) o true) → (1 ≤ natural (unwrap_or o top)) × (natural (unwrap_or o top) ≤ 7)
  own_or_top None is = within 1 7 top express
  own_or_top (Some w) is = within 1 7 w is

  ranges_of : (l : RawLink) → IsTrue (link_in_range l) → Ranges l
  ranges_of l is =
      let cost_to_rings = ((((is_within 1 1000 l.cost && is_within 0 (10 ^ 9) l.delay) && is_some (mode_of l.mode)) && is_some (policy_of l.policy)) && is_within 0 3 l.add_frag) && list_all (is_within 1 4096) l.rings in
      let (seven, largest) = and_parts (cost_to_rings && option_map_or (is_within 1 7) l.express_from true) (is_within LEAST_FRAME GREATEST_FRAME l.largest) is in
      let (six, own) = and_parts cost_to_rings (option_map_or (is_within 1 7) l.express_from true) seven in
      let (five, rings) = and_parts ((((is_within 1 1000 l.cost && is_within 0 (10 ^ 9) l.delay) && is_some (mode_of l.mode)) && is_some (policy_of l.policy)) && is_within 0 3 l.add_frag) (list_all (is_within 1 4096) l.rings) six in
      let (four, add_frag) = and_parts (((is_within 1 1000 l.cost && is_within 0 (10 ^ 9) l.delay) && is_some (mode_of l.mode)) && is_some (policy_of l.policy)) (is_within 0 3 l.add_frag) five in
      let (three, policy) = and_parts ((is_within 1 1000 l.cost && is_within 0 (10 ^ 9) l.delay) && is_some (mode_of l.mode)) (is_some (policy_of l.policy)) four in
      let (two, mode) = and_parts (is_within 1 1000 l.cost && is_within 0 (10 ^ 9) l.delay) (is_some (mode_of l.mode)) three in
      let (cost, delay) = and_parts (is_within 1 1000 l.cost) (is_within 0 (10 ^ 9) l.delay) two in
      record {
        cost = within 1 1000 l.cost cost;
        delay = (within 0 (10 ^ 9) l.delay delay).1;
        add_frag = (within 0 3 l.add_frag add_frag).1;
        rings = All-map (λ r. (1 ≤ r) × (r ≤ 4096)) natural l.rings (λ k d in_. within 1 4096 (get_or l.rings k d) (AllPass-from_list_all (is_within 1 4096) l.rings rings k d in_));
        express_from = own_or_top l.express_from own;
        largest = within LEAST_FRAME GREATEST_FRAME l.largest largest;
      }

  arc_is : (l : RawLink) → IsTrue (link_in_range l) → EndsHold nodes l → IsArc (nodes_made nodes) (arc_made top nodes l)
  arc_is l range ends =
      let ranges = ranges_of l range in
      record {
        from = rw length-map (node_within l.first ends.first);
        to = rw length-map (node_within l.second ends.second);
        apart = λ same. true≢false (sym (same_node l.first l.second ends.first ends.second same) ∙ ends.apart);
        cost = ranges.cost;
        delay = ranges.delay;
        add_frag = ranges.add_frag;
        rings = ranges.rings;
        express_from = ranges.express_from;
        largest = ranges.largest;
      }

  turned_is : (a : Arc) → IsArc (nodes_made nodes) a → IsArc (nodes_made nodes) (turned a)
  turned_is a is = record { from = is.to; to = is.from; apart = λ same. is.apart (sym same); cost = is.cost; delay = is.delay; add_frag = is.add_frag; rings = is.rings; express_from = is.express_from; largest = is.largest }

  pub arcs_are : (links : List RawLink) → All (λ l. IsTrue (link_in_range l)) links → All (EndsHold nodes) links → All (IsArc (nodes_made nodes)) (arcs_made top nodes links)
  arcs_are [] range ends = All-nil (IsArc (nodes_made nodes))
  arcs_are (l ∷ links) range ends =
      let there = arc_is l (All-head (λ l. IsTrue (link_in_range l)) l links range) (All-head (EndsHold nodes) l links ends) in
      let rest = arcs_are links (All-tail (λ l. IsTrue (link_in_range l)) l links range) (All-tail (EndsHold nodes) l links ends) in
      All-cons (IsArc (nodes_made nodes)) (arc_made top nodes l) (turned (arc_made top nodes l) ∷ arcs_made top nodes links) there
      (All-cons (IsArc (nodes_made nodes)) (turned (arc_made top nodes l)) (arcs_made top nodes links) (turned_is (arc_made top nodes l) there) rest)

  pub arcs_count : (links : List RawLink) → length (arcs_made top nodes links) ≡ 2 * length links
  arcs_count [] = refl
  arcs_count (l ∷ links) = omega (arith, arcs_count links)

  -- arcs 2i and 2i + 1 are the two of link i
  pub arcs_paired : (links : List RawLink) (i : ℕ) (a b : Arc) → slice_get (arcs_made top nodes links) (2 * i) ≡ Some a → slice_get (arcs_made top nodes links) (2 * i + 1) ≡ Some b → b ≡ turned a
  arcs_paired [] i a b first second = cc
  arcs_paired (l ∷ links) zero a b first second = sym (same_Some _ _ second) ∙ ap turned (same_Some _ _ first)
  arcs_paired (l ∷ links) (suc i) a b first second =
      let even : 2 * suc i ≡ suc (suc (2 * i)) = omega arith in
      let odd : 2 * suc i + 1 ≡ suc (suc (2 * i + 1)) = omega arith in
      arcs_paired links i a b (sym (ap (λ n. slice_get (arcs_made top nodes (l ∷ links)) n) even) ∙ first) (sym (ap (λ n. slice_get (arcs_made top nodes (l ∷ links)) n) odd) ∙ second)

  module _ (l m : RawLink) (l_ends : EndsHold nodes l) (m_ends : EndsHold nodes m) (apart : joins m.first m.second l ≡ false) where
    straight : node_named nodes l.first ≡ node_named nodes m.first → node_named nodes l.second ≢ node_named nodes m.second
    straight first second =
        let both = and_from (bytes_eq l.first m.first) (bytes_eq l.second m.second) (same_node l.first m.first l_ends.first m_ends.first first) (same_node l.second m.second l_ends.second m_ends.second second) in
        true≢false (sym both ∙ (or_parts (bytes_eq l.first m.first && bytes_eq l.second m.second) (bytes_eq l.first m.second && bytes_eq l.second m.first) apart).0)

    crossed : node_named nodes l.first ≡ node_named nodes m.second → node_named nodes l.second ≢ node_named nodes m.first
    crossed first second =
        let both = and_from (bytes_eq l.first m.second) (bytes_eq l.second m.first) (same_node l.first m.second l_ends.first m_ends.second first) (same_node l.second m.first l_ends.second m_ends.first second) in
        true≢false (sym both ∙ (or_parts (bytes_eq l.first m.first && bytes_eq l.second m.second) (bytes_eq l.first m.second && bytes_eq l.second m.first) apart).1)

  from_there : (l : RawLink) (links : List RawLink) → EndsHold nodes l → All (EndsHold nodes) links → All (λ m. joins m.first m.second l ≡ false) links → All (JoinsOther (arc_made top nodes l)) (arcs_made top nodes links)
  from_there l [] l_ends ends apart = All-nil (JoinsOther (arc_made top nodes l))
  from_there l (m ∷ links) l_ends ends apart =
      let m_ends = All-head (EndsHold nodes) m links ends in
      let m_apart = All-head (λ (m : RawLink). joins m.first m.second l ≡ false) m links apart in
      All-cons (JoinsOther (arc_made top nodes l)) (arc_made top nodes m) (turned (arc_made top nodes m) ∷ arcs_made top nodes links) (straight l m l_ends m_ends m_apart)
      (All-cons (JoinsOther (arc_made top nodes l)) (turned (arc_made top nodes m)) (arcs_made top nodes links) (crossed l m l_ends m_ends m_apart)
      (from_there l links l_ends (All-tail (EndsHold nodes) m links ends) (All-tail (λ (m : RawLink). joins m.first m.second l ≡ false) m links apart)))

  from_back : (l : RawLink) (links : List RawLink) → EndsHold nodes l → All (EndsHold nodes) links → All (λ m. joins m.first m.second l ≡ false) links → All (JoinsOther (turned (arc_made top nodes l))) (arcs_made top nodes links)
  from_back l [] l_ends ends apart = All-nil (JoinsOther (turned (arc_made top nodes l)))
  from_back l (m ∷ links) l_ends ends apart =
      let m_ends = All-head (EndsHold nodes) m links ends in
      let m_apart = All-head (λ (m : RawLink). joins m.first m.second l ≡ false) m links apart in
      All-cons (JoinsOther (turned (arc_made top nodes l))) (arc_made top nodes m) (turned (arc_made top nodes m) ∷ arcs_made top nodes links) (λ p q. crossed l m l_ends m_ends m_apart q p)
      (All-cons (JoinsOther (turned (arc_made top nodes l))) (turned (arc_made top nodes m)) (arcs_made top nodes links) (λ p q. straight l m l_ends m_ends m_apart q p)
      (from_back l links l_ends (All-tail (EndsHold nodes) m links ends) (All-tail (λ (m : RawLink). joins m.first m.second l ≡ false) m links apart)))

  -- no two arcs lead from one node to one node
  pub arcs_apart : (links : List RawLink) → All (EndsHold nodes) links → AllPairs (λ l m. joins m.first m.second l ≡ false) links → AllPairs JoinsOther (arcs_made top nodes links)
  arcs_apart [] ends apart = AllPairs-nil JoinsOther
  arcs_apart (l ∷ links) ends apart =
      let l_ends = All-head (EndsHold nodes) l links ends in
      let rest_ends = All-tail (EndsHold nodes) l links ends in
      let l_apart = AllPairs-head (λ (l m : RawLink). joins m.first m.second l ≡ false) l links apart in
      let there = from_there l links l_ends rest_ends l_apart in
      let back = from_back l links l_ends rest_ends l_apart in
      let rest = arcs_apart links rest_ends (AllPairs-tail (λ (l m : RawLink). joins m.first m.second l ≡ false) l links apart) in
      let loop : JoinsOther (arc_made top nodes l) (turned (arc_made top nodes l)) = λ p q. true≢false (sym (same_node l.first l.second l_ends.first l_ends.second p) ∙ l_ends.apart) in
      AllPairs-cons JoinsOther (arc_made top nodes l) (turned (arc_made top nodes l) ∷ arcs_made top nodes links)
      (All-cons (JoinsOther (arc_made top nodes l)) (turned (arc_made top nodes l)) (arcs_made top nodes links) loop there)
      (AllPairs-cons JoinsOther (turned (arc_made top nodes l)) (arcs_made top nodes links) back rest)
