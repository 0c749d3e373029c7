-- The next arc from a node by a VID, where the streams fit a network.
use Rattle.std.proofs.Common.{◌≡◌, ◌≢◌, ◌↔◌, ℕ, ◌+◌, ◌<◌, ◌⊎◌, inl, inr, List, length, get_or, slice_get, Option}
use Rattle.std.proofs.Common.{Some, None, IfSome, All, AllPairs, refl, sym, ◌∙◌, ap, subst, arith}
use Rattle.std.proofs.lemmas.Bool.{cases_order}
use Rattle.std.proofs.lemmas.List.{get_or_default}
use Rattle.std.proofs.lemmas.Option.{none-some, slice_get_within, slice_get-get_or, get_or_from_slice_get, same_Some}
use Rattle.pre_base.specs.declared.numbers.NodeId.{NodeId}
use Rattle.pre_base.specs.declared.numbers.ArcId.{ArcId}
use Rattle.pre_topo.specs.declared.network.Network.{Network}
use Rattle.pre_streams.specs.declared.rows.Row.{Row}
use Rattle.pre_streams.specs.declared.rows.Streams.{Streams}
use Rattle.pre_streams.specs.Fits.{Fits, SharesRoute}
use Rattle.pre_streams.specs.Hops.{IsNextArc, TakesArc, VidTakesArc}
use Rattle.pre_streams.specs.Rows.{Leads, IsRoute}

-- a node stands once on a route, so that one arc leaves it
one_place : (route : List NodeId) (arcs : List ArcId) (node : NodeId) (a b : ArcId) (i j : ℕ) → AllPairs (λ (m n : NodeId). m.0 ≢ n.0) route
    → slice_get route i ≡ Some node → slice_get arcs i ≡ Some a → slice_get route j ≡ Some node → slice_get arcs j ≡ Some b → a ≡ b
one_place route arcs node a b i j once i_node i_arc j_node j_arc = by_cases (cases_order i j)
  where
    apart : (p q : ℕ) → slice_get route p ≡ Some node → slice_get route q ≡ Some node → p < q → ⊥
    apart p q p_node q_node less =
        once p q node less (slice_get_within route q node q_node) (ap (λ (n : NodeId). n.0) (get_or_from_slice_get route p node node p_node ∙ sym (get_or_from_slice_get route q node node q_node)))

    by_cases : (i ≡ j) ⊎ ((i < j) ⊎ (j < i)) → a ≡ b
    by_cases (inl same) = same_Some a b (sym i_arc ∙ ap (slice_get arcs) same ∙ j_arc)
    by_cases (inr (inl less)) = absurd (apart i j i_node j_node less)
    by_cases (inr (inr more)) = absurd (apart j i j_node i_node more)

module _ (net : Network) (streams : Streams) (fits : Fits net streams) where
  route_at : (k : ℕ) (d : Row) → k < length streams.rows → IsRoute net (get_or streams.rows k d).route (get_or streams.rows k d).arcs
  route_at k d within = (fits.each k d within).route

  -- rows with one VID take one route
  one_route : (k l : ℕ) (d e : Row) → k < length streams.rows → l < length streams.rows → (get_or streams.rows k d).vid ≡ (get_or streams.rows l e).vid
      → ((get_or streams.rows k d).route ≡ (get_or streams.rows l e).route) × ((get_or streams.rows k d).arcs ≡ (get_or streams.rows l e).arcs)
  one_route k l d e k_in l_in = by_cases (cases_order k l)
    where
      by_cases : (k ≡ l) ⊎ ((k < l) ⊎ (l < k)) → SharesRoute (get_or streams.rows k d) (get_or streams.rows l e)
      by_cases (inl same) vid =
          let is : get_or streams.rows k d ≡ get_or streams.rows l e = ap (λ n. get_or streams.rows n d) same ∙ get_or_default streams.rows l d e l_in in
          (ap (λ (r : Row). r.route) is, ap (λ (r : Row). r.arcs) is)
      by_cases (inr (inl less)) vid =
          let is = get_or_default streams.rows l d e l_in in
          let shared = fits.routes k l d less l_in (vid ∙ ap (λ (r : Row). r.vid) (sym is)) in
          (shared.0 ∙ ap (λ (r : Row). r.route) is, shared.1 ∙ ap (λ (r : Row). r.arcs) is)
      by_cases (inr (inr more)) vid =
          let is = get_or_default streams.rows k e d k_in in
          let shared = fits.routes l k e more k_in (sym vid ∙ ap (λ (r : Row). r.vid) (sym is)) in
          (sym (shared.0 ∙ ap (λ (r : Row). r.route) is), sym (shared.1 ∙ ap (λ (r : Row). r.arcs) is))

  module _ (node : NodeId) (vid : ℕ) where
    -- an arc that one row of the VID takes, each takes
    each_takes : (arc : ArcId) → VidTakesArc streams.rows node vid arc → (k : ℕ) (d : Row) → k < length streams.rows → (get_or streams.rows k d).vid ≡ vid → TakesArc node arc (get_or streams.rows k d)
    each_takes arc (l, r, l_in, at, (r_vid, (i, i_node, i_arc))) k d k_in k_vid =
        let there : (get_or streams.rows l r).vid ≡ vid = ap (λ (q : Row). q.vid) at ∙ r_vid in
        let shared = one_route k l d r k_in l_in (k_vid ∙ sym there) in
        let route : (get_or streams.rows k d).route ≡ r.route = shared.0 ∙ ap (λ (q : Row). q.route) at in
        let arcs : (get_or streams.rows k d).arcs ≡ r.arcs = shared.1 ∙ ap (λ (q : Row). q.arcs) at in
        (i, ap (λ nodes. slice_get nodes i) route ∙ i_node, ap (λ hops. slice_get hops i) arcs ∙ i_arc)

    some_takes : (arc : ArcId) (k : ℕ) (d : Row) → k < length streams.rows → (get_or streams.rows k d).vid ≡ vid → TakesArc node arc (get_or streams.rows k d) → VidTakesArc streams.rows node vid arc
    some_takes arc k d k_in k_vid takes = (k, get_or streams.rows k d, k_in, get_or_default streams.rows k (get_or streams.rows k d) d k_in, (k_vid, takes))

    one_arc : (a b : ArcId) (k : ℕ) (d : Row) → k < length streams.rows → TakesArc node a (get_or streams.rows k d) → TakesArc node b (get_or streams.rows k d) → a ≡ b
    one_arc a b k d k_in (i, i_node, i_arc) (j, j_node, j_arc) =
        one_place (get_or streams.rows k d).route (get_or streams.rows k d).arcs node a b i j (route_at k d k_in).once i_node i_arc j_node j_arc

    pub follows : (next : Option ArcId) → IsNextArc streams.rows node vid next → All (λ r. r.vid ≡ vid → (arc : ArcId) → (next ≡ Some arc) ↔ TakesArc node arc r) streams.rows
    follows None is k d k_in k_vid arc = (λ some. absurd (none-some arc some), λ takes. absurd (is arc (some_takes arc k d k_in k_vid takes)))
    follows (Some a) is k d k_in k_vid arc = (
      λ some. subst (λ b. TakesArc node b (get_or streams.rows k d)) (same_Some a arc some) (each_takes a is k d k_in k_vid),
      λ takes. ap Some (one_arc a arc k d k_in (each_takes a is k d k_in k_vid) takes),
    )

    pub none : (next : Option ArcId) → IsNextArc streams.rows node vid next → (next ≡ None) ↔ All (λ r. r.vid ≡ vid → (arc : ArcId) → ¬ TakesArc node arc r) streams.rows
    none None is = (λ _ k d k_in k_vid arc takes. is arc (some_takes arc k d k_in k_vid takes), λ _. refl)
    none (Some a) (l, r, l_in, at, (r_vid, takes)) = (
      λ none. absurd (none-some a (sym none)),
      λ never. absurd (never l r l_in (ap (λ (q : Row). q.vid) at ∙ r_vid) a (subst (TakesArc node a) (sym at) takes)),
    )

    pub leads : (next : Option ArcId) → IsNextArc streams.rows node vid next → IfSome next (λ arc. (to : NodeId) × Leads net arc node to)
    leads None is = tt
    leads (Some a) (l, r, l_in, at, (r_vid, (i, i_node, i_arc))) =
        let route = subst (λ (q : Row). IsRoute net q.route q.arcs) at (route_at l r l_in) in
        let further = slice_get-get_or r.route (i + 1) node (omega (arith, slice_get_within r.arcs i a i_arc, route.hops)) in
        (get_or r.route (i + 1) node, route.leads i a node (get_or r.route (i + 1) node) i_arc i_node further)
