-- A run holds what its network says, and never more.
use Rattle.std.proofs.Common.{◌≡◌, ◌≤◌, ℕ, ◌+◌, List, [], ◌∷◌, length, Some, suc, refl, sym, ◌∙◌, subst, arith}
use Rattle.std.specs.Prelude.{slice_get, slice_index_or, is_some}
use Rattle.std.specs.List.{sum_by}
use Rattle.std.proofs.lemmas.List.Sums.{sum_by-cons, count_by-le-length}
use Rattle.pre_topo.specs.Arcs.{wires_of_arc}
use Rattle.pre_topo.specs.declared.arcs.Arc.{Arc}
use Rattle.pre_history.specs.Scenario.{Scenario, arc, no_arc}
use Rattle.pre_history.specs.History.{History}
use Rattle.pre_incoming.specs.Flights.{HasRoom}
use Rattle.pre_sim.specs.declared.lanes.Lane.{Lane}
use Rattle.pre_sim.specs.declared.ticks.Progress.{Progress}
use Rattle.pre_sim.specs.Keeps.{IsKept}
use Rattle.pre_sim.specs.Own.{ring_octets, wire_octets, HoldsItsOwn}
use Rattle.pre_sim.specs.Stands.{Reaches}

-- each lane's wire has room for what its arc wants
abbrev HaveRoom : List Arc → List Lane → Type 0
HaveRoom arcs lanes = (a : ℕ) (lane : Lane) → slice_get lanes a ≡ Some lane → HasRoom (slice_index_or arcs a no_arc).delay (slice_index_or arcs a no_arc).cost lane.incoming.wire

rings : (arcs : List Arc) (lanes : List Lane) → length lanes ≡ length arcs → HaveRoom arcs lanes → sum_by ring_octets lanes ≡ sum_by wires_of_arc arcs
rings [] [] same room = refl
rings [] (l ∷ lanes) same room = omega (arith, same)
rings (a ∷ arcs) [] same room = omega (arith, same)
rings (a ∷ arcs) (l ∷ lanes) same room =
    omega (arith, sum_by-cons ring_octets l lanes, sum_by-cons wires_of_arc a arcs, (room 0 l refl).octets, rings arcs lanes (omega (arith, same)) (λ i lane at. room (suc i) lane at))

on_wires : (arcs : List Arc) (lanes : List Lane) → HaveRoom arcs lanes → sum_by wire_octets lanes ≤ sum_by ring_octets lanes
on_wires arcs [] room = omega arith
on_wires [] (l ∷ lanes) room = omega (arith, sum_by-cons ring_octets l lanes, sum_by-cons wire_octets l lanes, (room 0 l refl).taken, on_wires [] lanes (λ i lane at. room (suc i) lane at))
on_wires (a ∷ arcs) (l ∷ lanes) room =
    omega (arith, sum_by-cons ring_octets l lanes, sum_by-cons wire_octets l lanes, (room 0 l refl).taken, on_wires arcs lanes (λ i lane at. room (suc i) lane at))

pub holds_its_own : (w : Scenario) (tick t k : ℕ) (h : History) (p : Progress) → length p.lanes.items ≡ length w.net.arcs → IsKept w tick p → Reaches w t k h p → HoldsItsOwn w.net p
holds_its_own w tick t k h p long kept reached =
    let room : HaveRoom w.net.arcs p.lanes.items = λ a lane at. (reached.lanes a lane at).incoming.room in
    let all = kept.keeps.all in
    let taken = rings w.net.arcs p.lanes.items long room in
    let within = on_wires w.net.arcs p.lanes.items room in
    let out = count_by-le-length (λ o. is_some o) p.store in
    record { store = all; out = omega (arith, all, out); rings = taken; on_wires = omega (arith, taken, within) }
