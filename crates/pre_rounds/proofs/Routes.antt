-- Streams that fit a network go by few arcs of it, none twice.
use Rattle.std.proofs.Common.{◌≡◌, ℕ, ◌+◌, ◌<◌, Some, sym, ◌∙◌, ap, subst, arith, inl, inr, length, get_or}
use Rattle.std.specs.Prelude.{slice_get, Contains}
use Rattle.std.proofs.lemmas.Bool.{cases_order}
use Rattle.std.proofs.lemmas.Option.{slice_get-get_or}
use Rattle.pre_base.specs.declared.numbers.NodeId.{NodeId}
use Rattle.pre_base.specs.declared.numbers.ArcId.{ArcId}
use Rattle.pre_topo.specs.declared.network.Network.{Network}
use Rattle.pre_topo.specs.declared.arcs.Arc.{Arc}
use Rattle.pre_streams.specs.declared.rows.Row.{Row}
use Rattle.pre_streams.specs.declared.rows.Streams.{Streams}
use Rattle.pre_streams.specs.Rows.{IsRoute}
use Rattle.pre_streams.specs.Fits.{Fits}
use Rattle.pre_bound.specs.Uses.{TakesAt, hop_of}
use Rattle.pre_bound.specs.Settled.{PriosBelow}
use Rattle.pre_bound.proofs.Hops.{TakesAt-place, TakesAt-hop_of, takes-from}
use Rattle.pre_bound.proofs.Within.{ArcsWithin-fits}
use Rattle.pre_rounds.specs.Routed.{AreRouted}

module _ (net : Network) (r : Row) (route : IsRoute net r.route r.arcs) where
  start : NodeId
  start = record { 0 = 0 }

  -- the node from which a hop's arc leads
  leads_from : (i a : ℕ) → TakesAt r i a → (x : Arc) × (slice_get net.arcs a ≡ Some x) × (x.from ≡ get_or r.route i start)
  leads_from i a at =
      let d : ArcId = record { 0 = a } in
      let place = TakesAt-place r i a at in
      let inside : i < length r.arcs = place.0 in
      let here = slice_get-get_or r.arcs i d inside in
      let from = slice_get-get_or r.route i start (omega (arith, route.hops)) in
      let to = slice_get-get_or r.route (i + 1) start (omega (arith, route.hops)) in
      let leads = route.leads i (get_or r.arcs i d) (get_or r.route i start) (get_or r.route (i + 1) start) here from to in
      (leads.0, subst (λ n. slice_get net.arcs n ≡ Some leads.0) (place.1 d) leads.1, leads.2)

  not_twice : (i j a : ℕ) → TakesAt r i a → TakesAt r j a → i < j → ⊥
  not_twice i j a one two less =
      let from = leads_from i a one in
      let again = leads_from j a two in
      let both : Some from.0 ≡ Some again.0 = sym from.1 ∙ again.1 in
      let arc : from.0 ≡ again.0 = cc in
      let place = TakesAt-place r j a two in
      route.once i j start less (omega (arith, route.hops, place.0)) (ap (λ (n : NodeId). n.0) (sym from.2 ∙ ap (λ (x : Arc). x.from) arc ∙ again.2))

  pub taken_once : (i a : ℕ) → TakesAt r i a → hop_of a r ≡ i
  taken_once i a at =
      let first = TakesAt-hop_of r a (takes-from r i a at) in
      elim (cases_order (hop_of a r) i) [
        | inl same ↦ same
        | inr apart ↦
            elim apart [
              | inl less ↦ absurd (not_twice (hop_of a r) i a first at less)
              | inr more ↦ absurd (not_twice i (hop_of a r) a at first more)
            ]
      ]

pub are_routed : (net : Network) (streams : Streams) → Fits net streams → PriosBelow streams.rows → AreRouted net streams.rows
are_routed net streams fits prios = record {
  few = streams.few;
  short = λ r listed. let route = route_of r listed in omega (arith, route.hops, route.long.1);
  prio = prios;
  within = ArcsWithin-fits net streams fits;
  once = λ r listed hop arc at. taken_once net r (route_of r listed) hop arc at;
}
  where
    route_of : (r : Row) → Contains streams.rows r → IsRoute net r.route r.arcs
    route_of r listed = subst (λ x. IsRoute net x.route x.arcs) listed.2 ((fits.each listed.0 r listed.1).route)
