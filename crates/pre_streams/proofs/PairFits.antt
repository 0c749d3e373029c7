-- The built-in streams fit the built-in network.
use Rattle.std.proofs.Common.{◌≡◌, ◌≢◌, ℕ, zero, suc, ◌+◌, ◌<◌, ◌≤◌, List, [], ◌∷◌, codes, slice_index_or}
use Rattle.std.proofs.Common.{slice_get, Some, None, IsNone, unwrap_or, count_by, is_some, is_none, All, AllPairs, refl, sym, ◌∙◌, ap, subst}
use Rattle.std.proofs.Common.{arith, lit≤}
use Rattle.std.proofs.lemmas.Bool.{true≢false, false≢true}
use Rattle.std.proofs.lemmas.Option.{none-some, same_Some}
use Rattle.pre_base.specs.declared.numbers.NodeId.{NodeId}
use Rattle.pre_base.specs.declared.numbers.ArcId.{ArcId}
use Rattle.pre_curve.specs.declared.curves.Curve.{Curve}
use Rattle.pre_topo.specs.declared.network.Network.{Network}
use Rattle.pre_topo.specs.declared.nodes.Node.{Node}
use Rattle.pre_topo.specs.declared.nodes.NodeKind.TheVariants.{Station}
use Rattle.pre_topo.specs.declared.arcs.Arc.{Arc}
use Rattle.pre_topo.specs.PairNetwork as network
use Rattle.pre_topo.specs.Pair.{station, pair_arc}
use Rattle.pre_streams.specs.declared.rows.Row.{Row}
use Rattle.pre_streams.specs.Rows.{IsOfKind, Leads, IsRoute, IsRow, OnEach}
use Rattle.pre_streams.specs.declared.rows.Streams.{Streams}
use Rattle.pre_streams.specs.Fits.{Fits, SharesRoute}
use Rattle.pre_streams.specs.PairStreams.{IsPair}
use Rattle.pre_streams.specs.Pair.{pair_route, pair_hops, pair_row, IsPairCurve}

node_0 : NodeId
node_0 = record { 0 = 0 }

node_1 : NodeId
node_1 = record { 0 = 1 }

module _ (net : Network) (is : network.IsPair net) where
  station_at_0 : IsOfKind net (record { 0 = 0 }) Station
  station_at_0 = (station (codes "a"), ap (λ (ns : List Node). slice_get ns 0) is.nodes, refl)

  station_at_1 : IsOfKind net (record { 0 = 1 }) Station
  station_at_1 = (station (codes "b"), ap (λ (ns : List Node). slice_get ns 1) is.nodes, refl)

  first : (n : NodeId) → slice_get pair_route 0 ≡ Some n → IsOfKind net n Station
  first n at = subst (λ m. IsOfKind net m Station) (ap (λ o. unwrap_or o n) at) station_at_0

  last : (n : NodeId) → slice_get pair_route 1 ≡ Some n → IsOfKind net n Station
  last n at = subst (λ m. IsOfKind net m Station) (ap (λ o. unwrap_or o n) at) station_at_1

  leads_0 : Leads net (record { 0 = 0 }) (record { 0 = 0 }) (record { 0 = 1 })
  leads_0 = (pair_arc, ap (λ (arcs : List Arc). slice_get arcs 0) is.arcs, refl, refl)

  leads : (i : ℕ) (a : ArcId) (m n : NodeId) → slice_get pair_hops i ≡ Some a → slice_get pair_route i ≡ Some m → slice_get pair_route (i + 1) ≡ Some n → Leads net a m n
  leads zero a m n hop from to =
      subst (λ x. Leads net x m n) (ap (λ o. unwrap_or o a) hop)
      (subst (λ x. Leads net (record { 0 = 0 }) x n) (ap (λ o. unwrap_or o m) from)
      (subst (λ x. Leads net (record { 0 = 0 }) (record { 0 = 0 }) x) (ap (λ o. unwrap_or o n) to) leads_0))
  leads (suc i) a m n hop from to = absurd (none-some a hop)

  once : AllPairs (λ m n. m.0 ≢ n.0) pair_route
  once i j d less within = by_cases i j (omega (arith, less, within)) (omega (arith, less, within))
    where
      by_cases : (i j : ℕ) → i ≡ 0 → j ≡ 1 → (slice_index_or pair_route i d).0 ≢ (slice_index_or pair_route j d).0
      by_cases i j p q = rw (p, q) (omega arith)

  route : IsRoute net pair_route pair_hops
  route = record {
    long = (lit≤ tt, lit≤ tt);
    hops = refl;
    first = first;
    last = last;
    between = λ i n low high at. absurd (omega (arith, low, high));
    once = once;
    leads = leads;
  }

  on_the_hop : (rule : Arc → Type 0) → rule pair_arc → OnEach net pair_hops rule
  on_the_hop rule holds zero d within a at = subst rule (same_Some pair_arc a (sym (ap (λ (arcs : List Arc). slice_get arcs 0) is.arcs) ∙ at)) holds
  on_the_hop rule holds (suc i) d within a at = absurd (omega (arith, within))

  stream_row : (curve : Curve) → IsPairCurve curve → IsRow net (pair_row (codes "x") 10 6 (Some curve))
  stream_row curve of = record {
    name = refl;
    vid = (lit≤ tt, lit≤ tt);
    stream = λ _. on_the_hop (λ a. a.express_from ≤ 6) (lit≤ tt);
    flow = λ e. absurd (true≢false e);
    largest = λ e. absurd (true≢false e);
    route = route;
    max = (lit≤ tt, lit≤ tt);
    curve = record { burst = (omega (arith, of.burst), omega (arith, of.burst)); rate = (omega (arith, of.rate), omega (arith, of.rate)); frame = omega (arith, of.burst) };
  }

  flow_row : IsRow net (pair_row (codes "y") 20 0 None)
  flow_row = record {
    name = refl;
    vid = (lit≤ tt, lit≤ tt);
    stream = λ e. absurd (false≢true e);
    flow = λ _. on_the_hop (λ a. 0 < a.express_from) (lit≤ tt);
    largest = λ _. on_the_hop (λ a. 1522 ≤ a.largest) (lit≤ tt);
    route = route;
    max = (lit≤ tt, lit≤ tt);
    curve = tt;
  }

-- what holds of two elements in order
both : {X : Type 0} (R : X → X → Type 0) (x y : X) → R x y → AllPairs R (x ∷ y ∷ [])
both R x y r zero zero d less within = absurd (omega (arith, less))
both R x y r zero (suc zero) d less within = r
both R x y r zero (suc (suc j)) d less within = absurd (omega (arith, within))
both R x y r (suc i) zero d less within = absurd (omega (arith, less))
both R x y r (suc i) (suc zero) d less within = absurd (omega (arith, less))
both R x y r (suc i) (suc (suc j)) d less within = absurd (omega (arith, within))

each_of_two : {X : Type 0} (P : X → Type 0) (x y : X) → P x → P y → All P (x ∷ y ∷ [])
each_of_two P x y p q zero d within = p
each_of_two P x y p q (suc zero) d within = q
each_of_two P x y p q (suc (suc k)) d within = absurd (omega (arith, within))

x≢y : codes "x" ≢ codes "y"
x≢y same = absurd (omega (arith, ap (λ (l : List ℕ). slice_index_or l 0 0) same))

pub pair_fits : (net : Network) (streams : Streams) → network.IsPair net → IsPair streams → Fits net streams
pair_fits net streams is (curve, of, rows) = record {
  each = subst (λ (rs : List Row). All (IsRow net) rs) (sym rows) (each_of_two (IsRow net) _ _ (stream_row net is curve of) (flow_row net is));
  names = subst (λ (rs : List Row). AllPairs (λ q r. q.name ≢ r.name) rs) (sym rows) (both (λ q r. q.name ≢ r.name) _ _ x≢y);
  routes = subst (λ (rs : List Row). AllPairs SharesRoute rs) (sym rows) (both SharesRoute _ _ (λ e. (refl, refl)));
  streams_first = subst (λ (rs : List Row). AllPairs (λ q r. IsNone q.curve → IsNone r.curve) rs) (sym rows) (both (λ q r. IsNone q.curve → IsNone r.curve) _ _ (λ e. refl));
  streams_count = subst (λ (rs : List Row). count_by (λ r. is_some r.curve) rs ≤ 256) (sym rows) (lit≤ tt);
  flows_count = subst (λ (rs : List Row). count_by (λ r. is_none r.curve) rs ≤ 256) (sym rows) (lit≤ tt);
}
