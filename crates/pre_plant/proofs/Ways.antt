-- The way between two stations is a route of the network.
use Rattle.std.proofs.Common.{◌≡◌, ◌≢◌, ℕ, zero, suc, ◌+◌, ◌-◌, ◌*◌, ◌%◌, ◌<◌, ◌≤◌, ◌⊎◌, inl, inr}
use Rattle.std.proofs.Common.{List, [], ◌∷◌, ◌++◌, length, get_or, slice_get, Some, AllPairs, refl, sym, ◌∙◌}
use Rattle.std.proofs.Common.{ap, subst, arith, length-append, cond}
use Rattle.std.proofs.lemmas.Bool.{cases_lt, le-leb, lt-leb}
use Rattle.std.proofs.lemmas.Option.{slice_get-get_or, slice_get_within, same_Some}
use Rattle.pre_base.specs.declared.numbers.ArcId.{ArcId}
use Rattle.pre_base.specs.declared.numbers.NodeId.{NodeId}
use Rattle.pre_topo.specs.declared.arcs.Arc.{Arc}
use Rattle.pre_topo.specs.declared.network.Network.{Network}
use Rattle.pre_topo.specs.declared.nodes.Node.{Node}
use Rattle.pre_topo.specs.declared.nodes.NodeKind.TheVariants.{Station, Bridge}
use Rattle.pre_streams.specs.Rows.{IsOfKind, Leads, IsRoute, OnEach}
use Rattle.pre_plant.specs.Lists.{list_of}
use Rattle.pre_plant.specs.Networks.{bridge, station, plant_nodes, plant_arcs, arc_between, IsPlantNetwork}
use Rattle.pre_plant.specs.Rows.{distance, bridge_on_way, arc_on_way, node_of, arc_of, route_between, arcs_between}
use Rattle.pre_plant.proofs.ListLaws.{length-list_of}
use Rattle.pre_plant.proofs.Places.{slice_get_left, slice_get_right, slice_get-list_of, bridge_at, station_at, arc_up, arc_down, arc_out, arc_in, IsPlantArc, each_arc, holds_at}

-- ---- a list with a first and a last item around those at each number

module _ {X : Type 0} (x y : X) (f : ℕ → X) (m : ℕ) where
  abbrev pub framed : List X
  framed = x ∷ (list_of m f ++ y ∷ [])

  pub length-framed : length framed ≡ m + 2
  length-framed = omega (arith, length-append (list_of m f) (y ∷ []), length-list_of f m)

  pub framed_first : slice_get framed 0 ≡ Some x
  framed_first = refl

  pub framed_between : (k : ℕ) → k < m → slice_get framed (k + 1) ≡ Some (f k)
  framed_between k lt =
      let on : suc k ≡ k + 1 = omega arith in
      subst (λ i. slice_get framed i ≡ Some (f k)) on (slice_get_left (list_of m f) (y ∷ []) k (f k) (slice_get-list_of f m k lt))

  pub framed_last : slice_get framed (m + 1) ≡ Some y
  framed_last =
      let on : suc (m + 0) ≡ m + 1 = omega arith in
      subst (λ i. slice_get framed i ≡ Some y) on (slice_get_right (list_of m f) (y ∷ []) m 0 y (length-list_of f m) refl)

  -- the item at a place is the first, one between or the last
  abbrev pub At : ℕ → X → Type 0
  At i z = ((i ≡ 0) × (z ≡ x)) ⊎ ((((k : ℕ) × (i ≡ k + 1) × (k < m) × (z ≡ f k))) ⊎ ((i ≡ m + 1) × (z ≡ y)))

  pub framed_at : (i : ℕ) (z : X) → slice_get framed i ≡ Some z → At i z
  framed_at zero z at = inl (refl, sym (same_Some x z at))
  framed_at (suc i) z at =
      elim (cases_lt i m) [
        | inl lt ↦
            let on : suc i ≡ i + 1 = omega arith in
            inr (inl (i, on, lt, sym (same_Some (f i) z (sym (framed_between i lt) ∙ ap (λ k. slice_get framed k) (sym on) ∙ at))))
        | inr le ↦
            let within = slice_get_within framed (suc i) z at in
            let on : suc i ≡ m + 1 = omega (arith, length-framed, within) in
            inr (inr (on, sym (same_Some y z (sym framed_last ∙ ap (λ k. slice_get framed k) (sym on) ∙ at))))
      ]

-- ---- the way along the chain

way_up : (a b k : ℕ) → a ≤ b → (bridge_on_way a b k ≡ a + k) × (arc_on_way a b k ≡ 2 * (a + k))
way_up a b k le = let up = le-leb a b le in (ap (λ t. cond t (a + k) (a - k)) up, ap (λ t. cond t (2 * (a + k)) (2 * (a - (k + 1)) + 1)) up)

way_down : (a b k : ℕ) → b < a → (bridge_on_way a b k ≡ a - k) × (arc_on_way a b k ≡ 2 * (a - (k + 1)) + 1)
way_down a b k lt = let down = lt-leb a b lt in (ap (λ t. cond t (a + k) (a - k)) down, ap (λ t. cond t (2 * (a + k)) (2 * (a - (k + 1)) + 1)) down)

-- it begins at a, ends at b, and keeps to the chain
way_first : (a b : ℕ) → bridge_on_way a b 0 ≡ a
way_first a b =
    elim (cases_lt b a) [
      | inl lt ↦ omega (arith, (way_down a b 0 lt).0)
      | inr le ↦ (way_up a b 0 le).0 ∙ omega arith
    ]

way_last : (a b : ℕ) → bridge_on_way a b (distance a b) ≡ b
way_last a b =
    elim (cases_lt b a) [
      | inl lt ↦ omega (arith, (way_down a b (distance a b) lt).0)
      | inr le ↦ omega (arith, (way_up a b (distance a b) le).0)
    ]

way_within : (a b k : ℕ) → a < 12 → b < 12 → k ≤ distance a b → bridge_on_way a b k < 12
way_within a b k a_in b_in far =
    elim (cases_lt b a) [
      | inl lt ↦ omega (arith, (way_down a b k lt).0)
      | inr le ↦ omega (arith, (way_up a b k le).0)
    ]

way_once : (a b i j : ℕ) → i < j → j ≤ distance a b → bridge_on_way a b i ≢ bridge_on_way a b j
way_once a b i j before far same =
    elim (cases_lt b a) [
      | inl lt ↦ omega (arith, same, (way_down a b i lt).0, (way_down a b j lt).0)
      | inr le ↦ omega (arith, same, (way_up a b i le).0, (way_up a b j le).0)
    ]

-- an arc of the chain leads from each bridge on the way to the next
way_leads : (a b k : ℕ) → a < 12 → b < 12 → k < distance a b → slice_get plant_arcs (arc_on_way a b k) ≡ Some (arc_between (bridge_on_way a b k) (bridge_on_way a b (k + 1)))
way_leads a b k a_in b_in far =
    elim (cases_lt b a) [
      | inl lt ↦
          let next : a - k ≡ a - (k + 1) + 1 = omega (arith, far) in
          subst (λ n. slice_get plant_arcs n ≡ Some (arc_between (bridge_on_way a b k) (bridge_on_way a b (k + 1)))) (sym (way_down a b k lt).1)
          (subst (λ from. slice_get plant_arcs (2 * (a - (k + 1)) + 1) ≡ Some (arc_between from (bridge_on_way a b (k + 1)))) (sym ((way_down a b k lt).0 ∙ next))
          (subst (λ to. slice_get plant_arcs (2 * (a - (k + 1)) + 1) ≡ Some (arc_between (a - (k + 1) + 1) to)) (sym (way_down a b (k + 1) lt).0)
          (arc_down (a - (k + 1)) (omega arith))))
      | inr le ↦
          let next : a + (k + 1) ≡ a + k + 1 = omega arith in
          subst (λ n. slice_get plant_arcs n ≡ Some (arc_between (bridge_on_way a b k) (bridge_on_way a b (k + 1)))) (sym (way_up a b k le).1)
          (subst (λ from. slice_get plant_arcs (2 * (a + k)) ≡ Some (arc_between from (bridge_on_way a b (k + 1)))) (sym (way_up a b k le).0)
          (subst (λ to. slice_get plant_arcs (2 * (a + k)) ≡ Some (arc_between (a + k) to)) (sym ((way_up a b (k + 1) le).0 ∙ next))
          (arc_up (a + k) (omega (arith, far)))))
    ]

-- ---- the way from station to station

module _ (net : Network) (is : IsPlantNetwork net) (s d : ℕ) (s_in : s < 40) (d_in : d < 40) (apart : s ≢ d) where
  abbrev a : ℕ
  a = s % 12

  abbrev b : ℕ
  b = d % 12

  abbrev links : ℕ
  links = distance a b

  abbrev way : ℕ → NodeId
  way k = node_of (bridge_on_way a b k)

  abbrev hop : ℕ → ArcId
  hop k = arc_of (arc_on_way a b k)

  abbrev nodes : List NodeId
  nodes = framed (node_of (12 + s)) (node_of (12 + d)) way (links + 1)

  abbrev arcs : List ArcId
  arcs = framed (arc_of (22 + 2 * s)) (arc_of (23 + 2 * d)) hop links

  a_in : a < 12
  a_in = omega arith

  b_in : b < 12
  b_in = omega arith

  at_place : (i : ℕ) (n : Node) → slice_get plant_nodes i ≡ Some n → slice_get net.nodes i ≡ Some n
  at_place i n at = ap (λ (ns : List Node). slice_get ns i) is.nodes ∙ at

  is_station : (j : ℕ) → j < 40 → IsOfKind net (node_of (12 + j)) Station
  is_station j lt = (station j, at_place (12 + j) (station j) (station_at j lt), refl)

  is_bridge : (k : ℕ) → k ≤ links → IsOfKind net (way k) Bridge
  is_bridge k le = let in_ = way_within a b k a_in b_in le in (bridge (bridge_on_way a b k), at_place (bridge_on_way a b k) (bridge (bridge_on_way a b k)) (bridge_at (bridge_on_way a b k) in_), refl)

  leads_between : (i from to : ℕ) → slice_get plant_arcs i ≡ Some (arc_between from to) → Leads net (arc_of i) (node_of from) (node_of to)
  leads_between i from to at = (arc_between from to, ap (λ (as_ : List Arc). slice_get as_ i) is.arcs ∙ at, refl, refl)

  leads_out : Leads net (arc_of (22 + 2 * s)) (node_of (12 + s)) (way 0)
  leads_out = subst (λ n. Leads net (arc_of (22 + 2 * s)) (node_of (12 + s)) (node_of n)) (sym (way_first a b)) (leads_between (22 + 2 * s) (12 + s) a (arc_out s s_in))

  leads_on : (k : ℕ) → k < links → Leads net (hop k) (way k) (way (k + 1))
  leads_on k lt = leads_between (arc_on_way a b k) (bridge_on_way a b k) (bridge_on_way a b (k + 1)) (way_leads a b k a_in b_in lt)

  leads_in : Leads net (arc_of (23 + 2 * d)) (way links) (node_of (12 + d))
  leads_in = subst (λ n. Leads net (arc_of (23 + 2 * d)) (node_of n) (node_of (12 + d))) (sym (way_last a b)) (leads_between (23 + 2 * d) b (12 + d) (arc_in d d_in))

  at_node : (i : ℕ) (n : NodeId) → slice_get nodes i ≡ Some n → At (node_of (12 + s)) (node_of (12 + d)) way (links + 1) i n
  at_node i n at = framed_at (node_of (12 + s)) (node_of (12 + d)) way (links + 1) i n at

  nodes_long : length nodes ≡ links + 3
  nodes_long = omega (arith, length-framed (node_of (12 + s)) (node_of (12 + d)) way (links + 1))

  arcs_long : length arcs ≡ links + 2
  arcs_long = length-framed (arc_of (22 + 2 * s)) (arc_of (23 + 2 * d)) hop links

  first : (n : NodeId) → slice_get nodes 0 ≡ Some n → IsOfKind net n Station
  first n at = subst (λ m. IsOfKind net m Station) (same_Some (node_of (12 + s)) n at) (is_station s s_in)

  last : (n : NodeId) → slice_get nodes (length arcs) ≡ Some n → IsOfKind net n Station
  last n at =
      elim (at_node (length arcs) n at) [
        | inl at_first ↦ absurd (omega (arith, arcs_long, at_first.0))
        | inr (inl mid) ↦ absurd (omega (arith, arcs_long, mid.1, mid.2))
        | inr (inr at_last) ↦ subst (λ m. IsOfKind net m Station) (sym at_last.1) (is_station d d_in)
      ]

  between : (i : ℕ) (n : NodeId) → 0 < i → i < length arcs → slice_get nodes i ≡ Some n → IsOfKind net n Bridge
  between i n low high at =
      elim (at_node i n at) [
        | inl at_first ↦ absurd (omega (arith, low, at_first.0))
        | inr (inl mid) ↦ subst (λ m. IsOfKind net m Bridge) (sym mid.3) (is_bridge mid.0 (omega (arith, mid.2)))
        | inr (inr at_last) ↦ absurd (omega (arith, high, arcs_long, at_last.0))
      ]

  way_in : (k : ℕ) → k < links + 1 → bridge_on_way a b k < 12
  way_in k lt = way_within a b k a_in b_in (omega arith)

  once_at : (i j : ℕ) (m n : NodeId) → i < j → At (node_of (12 + s)) (node_of (12 + d)) way (links + 1) i m → At (node_of (12 + s)) (node_of (12 + d)) way (links + 1) j n → m.0 ≢ n.0
  once_at i j m n before one two same =
      elim one [
        | inl p ↦
            elim two [
              | inl q ↦ omega (arith, before, p.0, q.0)
              | inr (inl q) ↦ omega (arith, way_in q.0 q.2, ap (λ (x : NodeId). x.0) p.1, ap (λ (x : NodeId). x.0) q.3, same)
              | inr (inr q) ↦ apart (omega (arith, ap (λ (x : NodeId). x.0) p.1, ap (λ (x : NodeId). x.0) q.1, same))
            ]
        | inr (inl p) ↦
            elim two [
              | inl q ↦ omega (arith, before, q.0)
              | inr (inl q) ↦ way_once a b p.0 q.0 (omega (arith, before, p.1, q.1)) (omega (arith, q.2)) (sym (ap (λ (x : NodeId). x.0) p.3) ∙ same ∙ ap (λ (x : NodeId). x.0) q.3)
              | inr (inr q) ↦ omega (arith, way_in p.0 p.2, ap (λ (x : NodeId). x.0) p.3, ap (λ (x : NodeId). x.0) q.1, same)
            ]
        | inr (inr p) ↦
            elim two [
              | inl q ↦ omega (arith, before, q.0)
              | inr (inl q) ↦ omega (arith, before, p.0, q.1, q.2)
              | inr (inr q) ↦ omega (arith, before, p.0, q.0)
            ]
      ]

  once : AllPairs (λ m n. m.0 ≢ n.0) nodes
  once i j e before within =
      once_at i j (get_or nodes i e) (get_or nodes j e) before
      (at_node i (get_or nodes i e) (slice_get-get_or nodes i e (omega arith)))
      (at_node j (get_or nodes j e) (slice_get-get_or nodes j e within))

  -- it is enough that the hop leads between the nodes that stand at two places
  leads_at : (i : ℕ) (h : ArcId) (m n p q : NodeId) → Leads net h p q → slice_get nodes i ≡ Some p → slice_get nodes (i + 1) ≡ Some q → slice_get nodes i ≡ Some m
      → slice_get nodes (i + 1) ≡ Some n → Leads net h m n
  leads_at i h m n p q leads p_at q_at m_at n_at =
      subst (λ x. Leads net h x n) (same_Some p m (sym p_at ∙ m_at)) (subst (λ x. Leads net h p x) (same_Some q n (sym q_at ∙ n_at)) leads)

  leads_each : (i : ℕ) (h : ArcId) (m n : NodeId) → slice_get arcs i ≡ Some h → slice_get nodes i ≡ Some m → slice_get nodes (i + 1) ≡ Some n → Leads net h m n
  leads_each i h m n h_at m_at n_at =
      let x = node_of (12 + s) in
      let y = node_of (12 + d) in
      elim (framed_at (arc_of (22 + 2 * s)) (arc_of (23 + 2 * d)) hop links i h h_at) [
        | inl p ↦
            let from : slice_get nodes i ≡ Some x = ap (λ k. slice_get nodes k) p.0 in
            let on : i + 1 ≡ 0 + 1 = omega (arith, p.0) in
            let to : slice_get nodes (i + 1) ≡ Some (way 0) = ap (λ k. slice_get nodes k) on ∙ framed_between x y way (links + 1) 0 (omega arith) in
            leads_at i h m n x (way 0) (subst (λ z. Leads net z x (way 0)) (sym p.1) leads_out) from to m_at n_at
        | inr (inl p) ↦
            let k = p.0 in
            let from : slice_get nodes i ≡ Some (way k) = ap (λ z. slice_get nodes z) p.1 ∙ framed_between x y way (links + 1) k (omega (arith, p.2)) in
            let on : i + 1 ≡ k + 1 + 1 = omega (arith, p.1) in
            let to : slice_get nodes (i + 1) ≡ Some (way (k + 1)) = ap (λ z. slice_get nodes z) on ∙ framed_between x y way (links + 1) (k + 1) (omega (arith, p.2)) in
            leads_at i h m n (way k) (way (k + 1)) (subst (λ z. Leads net z (way k) (way (k + 1))) (sym p.3) (leads_on k p.2)) from to m_at n_at
        | inr (inr p) ↦
            let from : slice_get nodes i ≡ Some (way links) = ap (λ z. slice_get nodes z) p.0 ∙ framed_between x y way (links + 1) links (omega arith) in
            let on : i + 1 ≡ links + 1 + 1 = omega (arith, p.0) in
            let to : slice_get nodes (i + 1) ≡ Some y = ap (λ z. slice_get nodes z) on ∙ framed_last x y way (links + 1) in
            leads_at i h m n (way links) y (subst (λ z. Leads net z (way links) y) (sym p.1) leads_in) from to m_at n_at
      ]

  framed_is_route : IsRoute net nodes arcs
  framed_is_route = record {
    long = (omega (arith, nodes_long), omega (arith, nodes_long, a_in, b_in));
    hops = omega (arith, nodes_long, arcs_long);
    first = first;
    last = last;
    between = between;
    once = once;
    leads = leads_each;
  }

  pub way_is_route : IsRoute net (route_between s d) (arcs_between s d)
  unfolding route_between arcs_between
  way_is_route = framed_is_route

-- what holds of every arc of the network holds on every way
pub on_every_way : (net : Network) → IsPlantNetwork net → (hops : List ArcId) (rule : Arc → Type 0) → ((x : Arc) → IsPlantArc x → rule x) → OnEach net hops rule
on_every_way net is hops rule holds k e within x at =
    holds x (holds_at IsPlantArc plant_arcs (get_or hops k e).0 x each_arc (sym (ap (λ (as_ : List Arc). slice_get as_ (get_or hops k e).0) is.arcs) ∙ at))
