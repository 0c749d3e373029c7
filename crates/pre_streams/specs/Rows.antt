-- The rules of a stream or flow, and of its route through a network.
use Rattle.std.specs.Prelude.{◌≡◌, ◌≢◌, ℕ, ◌+◌, ◌<◌, ◌≤◌, ◌^◌, List, length, slice_get, Some, IfSome, All, AllPairs, IsTrue, IsSome, IsNone}
use Rattle.pre_text.specs.Words.{is_name}
use Rattle.pre_base.specs.declared.limits.TheConstants.{LEAST_FRAME, GREATEST_FRAME, OVERHEAD}
use Rattle.pre_base.specs.declared.numbers.NodeId.{NodeId}
use Rattle.pre_base.specs.declared.numbers.ArcId.{ArcId}
use Rattle.pre_curve.specs.declared.curves.Curve.{Curve}
use Rattle.pre_topo.specs.declared.network.Network.{Network}
use Rattle.pre_topo.specs.declared.nodes.Node.{Node}
use Rattle.pre_topo.specs.declared.nodes.NodeKind.{NodeKind}
use Rattle.pre_topo.specs.declared.nodes.NodeKind.TheVariants.{Station, Bridge}
use Rattle.pre_topo.specs.declared.arcs.Arc.{Arc}
use Rattle.pre_streams.specs.declared.rows.Row.{Row}

-- the node is of this kind
abbrev pub IsOfKind : Network → NodeId → NodeKind → Type 0
IsOfKind net id kind = (n : Node) × (slice_get net.nodes id.0 ≡ Some n) × (n.kind ≡ kind)

-- the arc leads from one node to the other
abbrev pub Leads : Network → ArcId → NodeId → NodeId → Type 0
Leads net id from to = (a : Arc) × (slice_get net.arcs id.0 ≡ Some a) × (a.from ≡ from) × (a.to ≡ to)

-- from a station through bridges to a station, each node once, by arcs of the network
pub record IsRoute (net : Network) (route : List NodeId) (arcs : List ArcId) : Type 0 where
  pub long : (2 ≤ length route) × (length route ≤ 17)
  pub hops : length arcs + 1 ≡ length route
  pub first : (n : NodeId) → slice_get route 0 ≡ Some n → IsOfKind net n Station
  pub last : (n : NodeId) → slice_get route (length arcs) ≡ Some n → IsOfKind net n Station
  pub between : (i : ℕ) (n : NodeId) → 0 < i → i < length arcs → slice_get route i ≡ Some n → IsOfKind net n Bridge
  pub once : AllPairs (λ m n. m.0 ≢ n.0) route
  pub leads : (i : ℕ) (a : ArcId) (m n : NodeId) → slice_get arcs i ≡ Some a → slice_get route i ≡ Some m → slice_get route (i + 1) ≡ Some n → Leads net a m n

-- the curve of a stream whose frames have at most this many octets: its burst has room for one, with its
-- preamble and gap
pub record IsCurveOf (max : ℕ) (c : Curve) : Type 0 where
  pub burst : (84 ≤ c.burst) × (c.burst ≤ 10 ^ 9)
  pub rate : (1 ≤ c.rate) × (c.rate ≤ 10 ^ 6)
  pub frame : max + OVERHEAD ≤ c.burst

-- each arc of the way meets a rule
abbrev pub OnEach : Network → List ArcId → (Arc → Type 0) → Type 0
OnEach net arcs rule = All (λ id. (a : Arc) → slice_get net.arcs id.0 ≡ Some a → rule a) arcs

-- The rules of a row: a stream has a curve, and a priority that is express on each arc of its route; a flow has no curve,
-- a priority that is preemptable on each, and no frame above the greatest one there.
pub record IsRow (net : Network) (r : Row) : Type 0 where
  pub name : IsTrue (is_name r.name)
  pub vid : (1 ≤ r.vid) × (r.vid ≤ 4094)
  pub stream : IsSome r.curve → OnEach net r.arcs (λ a. a.express_from ≤ r.prio)
  pub flow : IsNone r.curve → OnEach net r.arcs (λ a. r.prio < a.express_from)
  pub largest : IsNone r.curve → OnEach net r.arcs (λ a. r.max ≤ a.largest)
  pub route : IsRoute net r.route r.arcs
  pub max : (LEAST_FRAME ≤ r.max) × (r.max ≤ GREATEST_FRAME)
  pub curve : IfSome r.curve (IsCurveOf r.max)
