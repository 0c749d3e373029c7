-- Routes whose entries all pass.
use Rattle.std.proofs.Common.{◌≡◌, ◌≢◌, ℕ, zero, suc, ◌+◌, ◌-◌, ◌<◌, ◌≤◌, ◌==◌, Bool, true, false, not, ◌||◌, List, [], ◌∷◌, length, map}
use Rattle.std.proofs.Common.{take, get_or, slice_get, Option, Some, None, is_some, option_map, unwrap_or, AllPairs, nat_le, cond, if◌then◌else◌, refl, sym, ◌∙◌, ap, subst}
use Rattle.std.proofs.Common.{arith, IsTrue}
use Rattle.std.specs.List.{list_any}
use Rattle.std.specs.Option.{option_map_or}
use Rattle.std.specs.Str.{bytes_eq}
use Rattle.std.specs.Cmp.Lexicographic.{same_text, other_text}
use Rattle.std.proofs.lemmas.Bool.{not-false, or_parts, or_right, or_from, and_parts, leb-true, eqb-true, eq-eqb, ne_eqb, true≢false, not-true}
use Rattle.std.proofs.lemmas.Option.{same_Some, slice_get-map, slice_get-get_or, slice_get_within}
use Rattle.std.proofs.lemmas.List.{length-map, get_or-map}
use Rattle.std.proofs.lemmas.List.Quantifiers.{position-Some}
use Rattle.pre_base.specs.declared.numbers.NodeId.{NodeId}
use Rattle.pre_base.specs.declared.numbers.ArcId.{ArcId}
use Rattle.pre_table.specs.FirstFaults.{first_row}
use Rattle.pre_topo.specs.declared.network.Network.{Network}
use Rattle.pre_topo.specs.declared.nodes.Node.{Node}
use Rattle.pre_topo.specs.declared.nodes.NodeKind.{NodeKind}
use Rattle.pre_topo.specs.declared.nodes.NodeKind.TheVariants.{Station, Bridge}
use Rattle.pre_topo.specs.Pair.{station, pair_arc}
use Rattle.pre_streams.specs.NamedRoutes.{has_name, node_place, leads, arc_place, node_id, arc_id, arcs_along, route_made}
use Rattle.pre_streams.specs.FileRules.{is_station, is_station_at, is_end, is_linked, is_reached, has_kind_for, entry_breaks, length_in_range}
use Rattle.pre_streams.specs.Rows.{IsOfKind, Leads, IsRoute}
use Rattle.pre_table.proofs.NoFaults.{none_breaks, none_before}

pub same_octets : (xs ys : List ℕ) → xs ≡ ys → bytes_eq xs ys ≡ true
same_octets xs ys same = by_cases (bytes_eq xs ys) refl
  where
    by_cases : (b : Bool) → b ≡ bytes_eq xs ys → bytes_eq xs ys ≡ true
    by_cases true is = sym is
    by_cases false is = absurd (other_text xs ys is same)

-- what passes a test on a value that may be missing is there
there : {X : Type 0} (p : X → Bool) (o : Option X) → option_map_or p o false ≡ true → (x : X) × (o ≡ Some x) × (p x ≡ true)
there p None is = cc
there p (Some x) is = (x, refl, is)

behind_true : (b c : Bool) → b ≡ false → (b || c) ≡ true → c ≡ true
behind_true true c unlike is = cc
behind_true false c unlike is = is

pub some_there : {X : Type 0} (o : Option X) → is_some o ≡ true → (x : X) × (o ≡ Some x)
some_there None is = cc
some_there (Some x) is = (x, refl)

kind_is_station : (k : NodeKind) → is_station k ≡ true → k ≡ Station
kind_is_station Station is = refl
kind_is_station Bridge is = cc

kind_is_bridge : (k : NodeKind) → is_station k ≡ false → k ≡ Bridge
kind_is_bridge Station is = cc
kind_is_bridge Bridge is = refl

at_map : {X Y : Type 0} (f : X → Y) (xs : List X) (k : ℕ) (d : X) (y : Y) → slice_get (map f xs) k ≡ Some y → (k < length xs) × (y ≡ f (get_or xs k d))
at_map f xs k d y at =
    let within : k < length xs = rw length-map at (slice_get_within (map f xs) k y at) in
    (within, same_Some y (f (get_or xs k d)) (sym at ∙ slice_get-map f xs k ∙ ap (option_map f) (slice_get-get_or xs k d within)))

module _ (net : Network) where
  -- a node of this name stands at this place
  record Stands (name : List ℕ) : Type 0 where
    place : ℕ
    is : node_place net name ≡ Some place
    node : Node
    at : slice_get net.nodes place ≡ Some node
    named : node.name ≡ name

  stands : (name : List ℕ) (p : ℕ) → node_place net name ≡ Some p → Stands name
  stands name p is =
      let (within, passes, before) = position-Some (has_name name) net.nodes p (station []) is in
      record { place = p; is = is; node = get_or net.nodes p (station []); at = slice_get-get_or net.nodes p (station []) within; named = same_text (get_or net.nodes p (station [])).name name (sym passes) }

  id_of : (name : List ℕ) (s : Stands name) → node_id net name ≡ record { 0 = s.place }
  id_of name s = ap (λ (o : Option ℕ). let id : NodeId = record { 0 = unwrap_or o 0 } in id) s.is

  is_station_of : (name : List ℕ) (s : Stands name) → is_station_at net s.place ≡ is_station s.node.kind
  is_station_of name s = ap (λ (o : Option Node). option_map_or (λ n. is_station n.kind) o false) s.at

  arcs_count : (ids : List NodeId) → 0 < length ids → length (arcs_along net ids) + 1 ≡ length ids
  arcs_count [] some = absurd (omega arith)
  arcs_count (m ∷ []) some = refl
  arcs_count (m ∷ n ∷ rest) some = omega (arith, arcs_count (n ∷ rest) (omega arith))

  arc_at : (ids : List NodeId) (i : ℕ) (a : ArcId) (m n : NodeId) → slice_get (arcs_along net ids) i ≡ Some a → slice_get ids i ≡ Some m → slice_get ids (suc i) ≡ Some n → a ≡ arc_id net m n
  arc_at [] i a m n hop from to = cc
  arc_at (x ∷ []) i a m n hop from to = cc
  arc_at (x ∷ y ∷ rest) zero a m n hop from to =
      sym (same_Some (arc_id net x y) a hop) ∙ ap (λ v. arc_id net v y) (same_Some x m from) ∙ ap (λ v. arc_id net m v) (same_Some y n to)
  arc_at (x ∷ y ∷ rest) (suc i) a m n hop from to = arc_at (y ∷ rest) i a m n hop from to

  module _ (route : List (List ℕ)) (clean : first_row (entry_breaks net route) route ≡ None) where
    entry : ℕ → List ℕ
    entry k = get_or route k []

    record Passes (k : ℕ) : Type 0 where
      kind : has_kind_for net route k (get_or route k []) ≡ true
      new : list_any (bytes_eq (get_or route k [])) (take k route) ≡ false
      reached : is_reached net route k (get_or route k []) ≡ true

    passes : (k : ℕ) → k < length route → Passes k
    passes k within =
        let name = get_or route k [] in
        let (two, reached) = or_parts (not (has_kind_for net route k name) || list_any (bytes_eq name) (take k route)) (not (is_reached net route k name)) (none_breaks (entry_breaks net route) route clean k [] within) in
        let (kind, new) = or_parts (not (has_kind_for net route k name)) (list_any (bytes_eq name) (take k route)) two in
        record { kind = not-false (has_kind_for net route k name) kind; new = new; reached = not-false (is_reached net route k name) reached }

    kind_test : ℕ → ℕ → Bool
    kind_test k node = if is_end route k then is_station_at net node else not (is_station_at net node)

    entry_stands : (k : ℕ) → k < length route → Stands (get_or route k [])
    entry_stands k within =
        let found = there (λ node. if is_end route k then is_station_at net node else not (is_station_at net node)) (node_place net (get_or route k [])) (passes k within).kind in
        stands (get_or route k []) found.0 found.1

    station_at : (k : ℕ) → k < length route → is_end route k ≡ true → IsOfKind net (node_id net (get_or route k [])) Station
    station_at k within end =
        let name = get_or route k [] in
        let s = entry_stands k within in
        let test : has_kind_for net route k name ≡ is_station_at net s.place = ap (λ (o : Option ℕ). option_map_or (λ node. if is_end route k then is_station_at net node else not (is_station_at net node)) o false) s.is ∙ ap (λ b. cond b (is_station_at net s.place) (not (is_station_at net s.place))) end in
        subst (λ id. IsOfKind net id Station) (sym (id_of name s))
        (s.node, s.at, kind_is_station s.node.kind (sym (is_station_of name s) ∙ sym test ∙ (passes k within).kind))

    bridge_at : (k : ℕ) → k < length route → is_end route k ≡ false → IsOfKind net (node_id net (get_or route k [])) Bridge
    bridge_at k within inner =
        let name = get_or route k [] in
        let s = entry_stands k within in
        let test : has_kind_for net route k name ≡ not (is_station_at net s.place) = ap (λ (o : Option ℕ). option_map_or (λ node. if is_end route k then is_station_at net node else not (is_station_at net node)) o false) s.is ∙ ap (λ b. cond b (is_station_at net s.place) (not (is_station_at net s.place))) inner in
        subst (λ id. IsOfKind net id Bridge) (sym (id_of name s))
        (s.node, s.at, kind_is_bridge s.node.kind (sym (is_station_of name s) ∙ not-true (is_station_at net s.place) (sym test ∙ (passes k within).kind)))

    same_place : (i j : ℕ) → i < length route → j < length route → (node_id net (get_or route i [])).0 ≡ (node_id net (get_or route j [])).0 → get_or route i [] ≡ get_or route j []
    same_place i j i_in j_in same =
        let s = entry_stands i i_in in
        let t = entry_stands j j_in in
        let places : s.place ≡ t.place = sym (ap (λ (id : NodeId). id.0) (id_of (get_or route i []) s)) ∙ same ∙ ap (λ (id : NodeId). id.0) (id_of (get_or route j []) t) in
        let nodes : s.node ≡ t.node = same_Some s.node t.node (sym s.at ∙ ap (λ p. slice_get net.nodes p) places ∙ t.at) in
        sym s.named ∙ ap (λ (n : Node). n.name) nodes ∙ t.named

    once : AllPairs (λ m n. m.0 ≢ n.0) (route_made net route)
    once i j d before in_ same =
        let j_in : j < length route = rw length-map at in_ in
        let i_in : i < length route = omega arith in
        let first = get_or-map (node_id net) route i [] d i_in in
        let second = get_or-map (node_id net) route j [] d j_in in
        let names = same_place i j i_in j_in (sym (ap (λ (id : NodeId). id.0) first) ∙ same ∙ ap (λ (id : NodeId). id.0) second) in
        let visited = none_before (bytes_eq (get_or route j [])) route j (passes j j_in).new i [] before i_in in
        true≢false (sym (same_octets (get_or route j []) (get_or route i []) (sym names)) ∙ visited)

    -- a link joins each entry with the next
    leads_on : (i : ℕ) → suc i < length route → Leads net (arc_id net (node_id net (get_or route i [])) (node_id net (get_or route (suc i) []))) (node_id net (get_or route i [])) (node_id net (get_or route (suc i) []))
    leads_on i within =
        let before : i < length route = omega arith in
        let s = entry_stands i before in
        let t = entry_stands (suc i) within in
        let back : suc i - 1 ≡ i = omega arith in
        let behind : slice_get route (suc i - 1) ≡ Some (get_or route i []) = ap (λ n. slice_get route n) back ∙ slice_get-get_or route i [] before in
        let reached = (passes (suc i) within).reached in
        let from_before : is_linked net (get_or route i []) (get_or route (suc i) []) ≡ true = sym (ap (λ (o : Option (List ℕ)). option_map_or (λ before. is_linked net before (get_or route (suc i) [])) o false) behind) ∙ behind_true (suc i == 0) _ (ne_eqb (suc i) 0 (λ e. omega (arith, e))) reached in
        let from_s : option_map_or (λ b. is_some (arc_place net s.place b)) (node_place net (get_or route (suc i) [])) false ≡ true = sym (ap (λ (o : Option ℕ). option_map_or (λ a. option_map_or (λ b. is_some (arc_place net a b)) (node_place net (get_or route (suc i) [])) false) o false) s.is) ∙ from_before in
        let arc : is_some (arc_place net s.place t.place) ≡ true = sym (ap (λ (o : Option ℕ). option_map_or (λ b. is_some (arc_place net s.place b)) o false) t.is) ∙ from_s in
        let found = some_there (arc_place net s.place t.place) arc in
        let (in_, leading, first) = position-Some (leads s.place t.place) net.arcs found.0 pair_arc found.1 in
        let a = get_or net.arcs found.0 pair_arc in
        let (from, to) = and_parts (a.from.0 == s.place) (a.to.0 == t.place) leading in
        let from_is : a.from ≡ node_id net (get_or route i []) = ap (λ (n : ℕ). let id : NodeId = record { 0 = n } in id) (eqb-true a.from.0 s.place from) ∙ sym (id_of (get_or route i []) s) in
        let to_is : a.to ≡ node_id net (get_or route (suc i) []) = ap (λ (n : ℕ). let id : NodeId = record { 0 = n } in id) (eqb-true a.to.0 t.place to) ∙ sym (id_of (get_or route (suc i) []) t) in
        let id_is : arc_place net (node_id net (get_or route i [])).0 (node_id net (get_or route (suc i) [])).0 ≡ Some found.0 = ap (λ (n : ℕ). arc_place net n (node_id net (get_or route (suc i) [])).0) (ap (λ (id : NodeId). id.0) (id_of (get_or route i []) s)) ∙ ap (λ (n : ℕ). arc_place net s.place n) (ap (λ (id : NodeId). id.0) (id_of (get_or route (suc i) []) t)) ∙ found.1 in
        let at : slice_get net.arcs (arc_id net (node_id net (get_or route i [])) (node_id net (get_or route (suc i) []))).0 ≡ Some a = ap (λ (o : Option ℕ). slice_get net.arcs (unwrap_or o 0)) id_is ∙ slice_get-get_or net.arcs found.0 pair_arc in_ in
        (a, at, from_is, to_is)

    pub route_is : IsTrue (length_in_range (length route)) → IsRoute net (route_made net route) (arcs_along net (route_made net route))
    route_is long =
        let (least, most) = and_parts (nat_le 2 (length route)) (nat_le (length route) 17) long in
        let two : 2 ≤ length route = leb-true 2 (length route) least in
        let few : length route ≤ 17 = leb-true (length route) 17 most in
        let ids : length (route_made net route) ≡ length route = length-map route (node_id net) in
        let hops = arcs_count (route_made net route) (omega arith) in
        record {
          long = (omega arith, omega arith);
          hops = hops;
          first = λ n at. let (in_, is) = at_map (node_id net) route 0 [] n at in subst (λ id. IsOfKind net id Station) (sym is) (station_at 0 in_ refl);
          last = λ n at. let (in_, is) = at_map (node_id net) route (length (arcs_along net (route_made net route))) [] n at in
              subst (λ id. IsOfKind net id Station) (sym is)
              (station_at (length (arcs_along net (route_made net route))) in_ (or_right (length (arcs_along net (route_made net route)) == 0) (length (arcs_along net (route_made net route)) + 1 == length route) (eq-eqb _ _ (hops ∙ ids))));
          between = λ i n low high at. let (in_, is) = at_map (node_id net) route i [] n at in
              subst (λ id. IsOfKind net id Bridge) (sym is)
              (bridge_at i in_ (or_from (i == 0) (i + 1 == length route) (ne_eqb i 0 (λ e. omega (arith, e, low))) (ne_eqb (i + 1) (length route) (λ e. omega (arith, e, high, hops, ids)))));
          once = once;
          leads = λ i a m n hop from to.
              let next : i + 1 ≡ suc i = omega arith in
              let to_ : slice_get (route_made net route) (suc i) ≡ Some n = sym (ap (λ k. slice_get (route_made net route) k) next) ∙ to in
              let (m_in, m_is) = at_map (node_id net) route i [] m from in
              let (n_in, n_is) = at_map (node_id net) route (suc i) [] n to_ in
              let a_is : a ≡ arc_id net m n = arc_at (route_made net route) i a m n hop from to_ in
              subst (λ x. Leads net x m n) (sym a_is)
              (subst (λ v. Leads net (arc_id net m v) m v) (sym n_is)
              (subst (λ v. Leads net (arc_id net v (node_id net (get_or route (suc i) []))) v (node_id net (get_or route (suc i) []))) (sym m_is) (leads_on i n_in)));
        }
