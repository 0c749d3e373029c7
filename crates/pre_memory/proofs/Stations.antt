-- Bridges inside a route, and stations at its ends.
use Rattle.std.proofs.Common.{ℕ, ◌≡◌, ◌<◌, ◌+◌, ◌*◌, ◌%◌, ◌/◌, inl, inr, cond, length, sym, ◌∙◌, ap, arith, subst, Some, All, get_or, ◌-◌}
use Rattle.std.specs.Prelude.{slice_get}
use Rattle.std.proofs.lemmas.Bool.{eq-eqb, ne_eqb, cases_eq}
use Rattle.std.proofs.lemmas.Option.{slice_get_within}
use Rattle.pre_base.specs.declared.numbers.ArcId.{ArcId}
use Rattle.pre_base.specs.declared.numbers.NodeId.{NodeId}
use Rattle.pre_topo.specs.declared.network.Network.{Network}
use Rattle.pre_topo.specs.declared.nodes.Node.{Node}
use Rattle.pre_topo.specs.declared.nodes.NodeKind.{NodeKind}
use Rattle.pre_topo.specs.declared.nodes.NodeKind.TheVariants.{Station, Bridge}
use Rattle.pre_topo.specs.declared.arcs.Arc.{Arc}
use Rattle.pre_topo.specs.Arcs.{reverse_of}
use Rattle.pre_streams.specs.declared.rows.Row.{Row}
use Rattle.pre_streams.specs.declared.rows.Streams.{Streams}
use Rattle.pre_streams.specs.Fits.{Fits}
use Rattle.pre_streams.specs.Rows.{IsOfKind, IsRoute}
use Rattle.pre_history.proofs.Lists.{there, one_at}
use Rattle.pre_bridge.specs.Table.{onward}
use Rattle.pre_memory.specs.Stations.{LeadsTo}

abbrev GoesAlong : Network → Streams → Row → Type 0
GoesAlong net streams r = (i : ℕ) (arc : ArcId) → slice_get r.arcs i ≡ Some arc → onward net streams arc.0 r.vid ≡ slice_get r.arcs (i + 1)

-- an arc of a route that goes on behind it leads to a bridge
pub inner : (net : Network) (r : Row) → IsRoute net r.route r.arcs → (i : ℕ) (arc : ArcId) → slice_get r.arcs i ≡ Some arc → i + 1 < length r.arcs → LeadsTo net arc.0 Bridge
inner net r route i arc at less =
    let from = there r.route i (omega (arith, less, route.hops)) in
    let to = there r.route (i + 1) (omega (arith, less, route.hops)) in
    let leads = route.leads i arc from.0 to.0 at from.1 to.1 in
    let kind : IsOfKind net to.0 Bridge = route.between (i + 1) to.0 (omega arith) less to.1 in
    (leads.0, leads.1, subst (λ (n : NodeId). IsOfKind net n Bridge) {y = leads.0.to} (sym leads.3) kind)

row_on : (net : Network) (streams : Streams) (r : Row) → IsRoute net r.route r.arcs → GoesAlong net streams r → (i : ℕ) (arc next : ArcId) → slice_get r.arcs i ≡ Some arc → onward net streams arc.0 r.vid ≡ Some next → LeadsTo net arc.0 Bridge
row_on net streams r route along i arc next at goes = inner net r route i arc at (slice_get_within r.arcs (i + 1) next (sym (along i arc at) ∙ goes))

pub on : (net : Network) (streams : Streams) → Fits net streams → All (GoesAlong net streams) streams.rows
    → All (λ r. (i : ℕ) (arc next : ArcId) → slice_get r.arcs i ≡ Some arc → onward net streams arc.0 r.vid ≡ Some next → LeadsTo net arc.0 Bridge) streams.rows
on net streams fits along k d lt = row_on net streams (get_or streams.rows k d) (fits.each k d lt).route (along k d lt)

-- the other arc of a link leads to where this one comes from
other_way : (net : Network) (arc : ℕ) (a : Arc) → slice_get net.arcs arc ≡ Some a → (b : Arc) × (slice_get net.arcs (reverse_of arc) ≡ Some b) × (b.to ≡ a.from)
other_way net arc a at = elim (cases_eq (arc % 2) 0) [ inl even ↦ go_even even | inr odd ↦ go_odd odd ]
  where
    within : arc < length net.arcs
    within = slice_get_within net.arcs arc a at

    go_even : arc % 2 ≡ 0 → (b : Arc) × (slice_get net.arcs (reverse_of arc) ≡ Some b) × (b.to ≡ a.from)
    go_even even =
        let i = arc / 2 in
        let whole : arc ≡ 2 * i = omega (arith, even) in
        let rev : reverse_of arc ≡ 2 * i + 1 = ap (λ c. cond c (arc + 1) (arc - 1)) (eq-eqb (arc % 2) 0 even) ∙ omega (arith, whole) in
        let b = there net.arcs (2 * i + 1) (omega (arith, whole, within, net.rules.arc_count.2)) in
        let same = net.rules.links i a b.0 (ap (slice_get net.arcs) (sym whole) ∙ at) b.1 in
        (b.0, ap (slice_get net.arcs) rev ∙ b.1, ap (λ (x : Arc). x.to) same)

    go_odd : (arc % 2 ≡ 0 → ⊥) → (b : Arc) × (slice_get net.arcs (reverse_of arc) ≡ Some b) × (b.to ≡ a.from)
    go_odd odd =
        let i = arc / 2 in
        let whole : arc ≡ 2 * i + 1 = omega (arith, odd) in
        let rev : reverse_of arc ≡ 2 * i = ap (λ c. cond c (arc + 1) (arc - 1)) (ne_eqb (arc % 2) 0 odd) ∙ omega (arith, whole) in
        let b = there net.arcs (2 * i) (omega (arith, whole, within)) in
        let same = net.rules.links i b.0 a b.1 (ap (slice_get net.arcs) (sym whole) ∙ at) in
        (b.0, ap (slice_get net.arcs) rev ∙ b.1, ap (λ (x : Arc). x.from) (sym same))

pub row_first : (net : Network) (r : Row) → IsRoute net r.route r.arcs → (arc : ArcId) → slice_get r.arcs 0 ≡ Some arc → LeadsTo net (reverse_of arc.0) Station
row_first net r route arc at =
    let from = there r.route 0 (omega (arith, route.long.0)) in
    let to = there r.route 1 (omega (arith, route.long.0)) in
    let leads = route.leads 0 arc from.0 to.0 at from.1 to.1 in
    let back = other_way net arc.0 leads.0 leads.1 in
    (back.0, back.1, subst (λ (n : NodeId). IsOfKind net n Station) (sym (back.2 ∙ leads.2)) (route.first from.0 from.1))

pub first : (net : Network) (streams : Streams) → Fits net streams → All (λ r. (arc : ArcId) → slice_get r.arcs 0 ≡ Some arc → LeadsTo net (reverse_of arc.0) Station) streams.rows
first net streams fits k d lt = row_first net (get_or streams.rows k d) (fits.each k d lt).route

station_bridge : (k : NodeKind) → k ≡ Station → k ≡ Bridge → ⊥
station_bridge k s b = cc (s, b)

pub apart : (net : Network) (arc : ℕ) → LeadsTo net arc Station → LeadsTo net arc Bridge → ⊥
apart net arc (a, at, (m, m_at, m_is)) (b, bt, (n, n_at, n_is)) =
    let same : a ≡ b = one_at net.arcs arc a b at bt in
    let node : m ≡ n = one_at net.nodes a.to.0 m n m_at (ap (λ (x : Arc). slice_get net.nodes x.to.0) same ∙ n_at) in
    station_bridge m.kind m_is (ap (λ (x : Node). x.kind) node ∙ n_is)
