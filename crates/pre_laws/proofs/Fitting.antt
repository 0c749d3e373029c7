-- Where streams and script meet the rules of their files, frames are routed.
use Rattle.std.proofs.Common.{ℕ, zero, suc, ◌≡◌, ◌≢◌, ◌+◌, ◌<◌, List, [], ◌∷◌, length, map, sym, ◌∙◌, ap, arith, subst, Some}
use Rattle.std.specs.Prelude.{slice_get, slice_index_or, AllPairs}
use Rattle.std.specs.Option.{option_map_or}
use Rattle.std.proofs.lemmas.List.{length-map}
use Rattle.std.proofs.lemmas.Option.{slice_get-get_or}
use Rattle.std.proofs.Math.ListN.{get_or-map}
use Rattle.pre_base.specs.declared.numbers.NodeId.{NodeId}
use Rattle.pre_base.specs.declared.numbers.ArcId.{ArcId}
use Rattle.pre_topo.specs.declared.network.Network.{Network}
use Rattle.pre_topo.specs.declared.arcs.Arc.{Arc}
use Rattle.pre_streams.specs.declared.rows.Row.{Row}
use Rattle.pre_streams.specs.Rows.{IsRow, Leads}
use Rattle.pre_streams.specs.Fits as streams
use Rattle.pre_script.specs.Fits as script
use Rattle.pre_history.specs.Scenario.{Scenario, row, send, no_row, no_send}
use Rattle.pre_history.specs.Comings.{hops}
use Rattle.pre_history.proofs.Lists.{within}
use Rattle.pre_laws.specs.Routed.{IsRouted}

hop_leads : (net : Network) (r : Row) → IsRow net r → (i : ℕ) (d : ArcId) (n : NodeId) → i < length r.arcs → Leads net (slice_index_or r.arcs i d) (slice_index_or r.route i n) (slice_index_or r.route (i + 1) n)
hop_leads net r is i d n lt =
    is.route.leads i (slice_index_or r.arcs i d) (slice_index_or r.route i n) (slice_index_or r.route (i + 1) n)
    (slice_get-get_or r.arcs i d lt)
    (slice_get-get_or r.route i n (omega (arith, lt, is.route.hops)))
    (slice_get-get_or r.route (i + 1) n (omega (arith, lt, is.route.hops)))

-- two hops by one arc begin at one node
arcs_differ : (net : Network) (r : Row) → IsRow net r → AllPairs (λ (a : ArcId) (b : ArcId). a.0 ≢ b.0) r.arcs
arcs_differ net r is i j d lt lt' same =
    let n : NodeId = record { 0 = 0 } in
    let first = hop_leads net r is i d n (omega (arith, lt, lt')) in
    let second = hop_leads net r is j d n lt' in
    let one : Some first.0 ≡ Some second.0 = sym first.1 ∙ (ap (slice_get net.arcs) same ∙ second.1) in
    let from : slice_index_or r.route i n ≡ slice_index_or r.route j n = sym first.2 ∙ (ap (λ o. option_map_or (λ (a : Arc). a.from) o n) one ∙ second.2) in
    is.route.once i j n lt (omega (arith, lt', is.route.hops)) (ap (λ m. m.0) from)

index_map : (xs : List ArcId) (i : ℕ) (d : ℕ) → slice_index_or (map (λ (a : ArcId). a.0) xs) i d ≡ (slice_index_or xs i (record { 0 = d })).0
index_map xs i d = get_or-map (λ (a : ArcId). a.0) xs i (record { 0 = d })

pub read_one : {X : Type 0} (xs : List X) (i : ℕ) (x d : X) → slice_get xs i ≡ Some x → slice_index_or xs i d ≡ x
read_one [] i x d at = absurd (cc at)
read_one (y ∷ xs) zero x d at = cc at
read_one (y ∷ xs) (suc i) x d at = read_one xs i x d at

module _ (w : Scenario) (fits : streams.Fits w.net w.streams) (says : script.Fits w.net w.streams w.script) where
  pub sent : (f : ℕ) → f < length w.script.sends → script.IsSend w.net w.streams (send w f)
  sent f lt = says.sends f no_send lt

  pub row_is : (f : ℕ) → f < length w.script.sends → IsRow w.net (row w f)
  row_is f lt = let s = sent f lt in fits.each (send w f).send.stream.0 no_row (within w.streams.rows (send w f).send.stream.0 s.row s.known)

  hops_long : (f : ℕ) → length (hops w f) ≡ length (row w f).arcs
  hops_long f = length-map (row w f).arcs (λ (a : ArcId). a.0)

  pub is_routed : IsRouted w
  is_routed = record {
    routes = λ f lt. let rules = (row_is f lt).route in let long = hops_long f in let a = rules.long.0 in let b = rules.hops in omega (arith, long, a, b);
    once = λ f lt i j d i_lt j_lt same.
        let long = hops_long f in
        arcs_differ w.net (row w f) (row_is f lt) i j (record { 0 = d }) i_lt (omega (arith, j_lt, long))
        (sym (index_map (row w f).arcs i d) ∙ (same ∙ index_map (row w f).arcs j d));
    arcs = λ f a lt on. let long = hops_long f in let i_lt = on.1 in
        let leads = hop_leads w.net (row w f) (row_is f lt) on.0 (record { 0 = a }) (record { 0 = 0 }) (omega (arith, long, i_lt)) in
        let known = within w.net.arcs (slice_index_or (row w f).arcs on.0 (record { 0 = a })).0 leads.0 leads.1 in
        subst (λ n. n < length w.net.arcs) (sym (index_map (row w f).arcs on.0 a) ∙ on.2) known;
    sizes = λ f lt.
        let s = sent f lt in
        let row_same : row w f ≡ s.row = read_one w.streams.rows (send w f).send.stream.0 s.row no_row s.known in
        let max_is = ap (λ (r : Row). r.max) row_same in
        let most = s.most in
        let high = (row_is f lt).max.1 in
        (s.least, omega (arith, most, max_is, high));
  }
