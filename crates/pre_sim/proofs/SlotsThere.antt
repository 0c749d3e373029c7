-- A slot is in for each frame that is sent, and for each that arrives where there is room.
use Rattle.std.proofs.Common.{ℕ, ◌≡◌, ◌<◌, ◌≤◌, ◌==◌, false, List, [], ◌∷◌, ◌++◌, length, map, refl, ◌∙◌, ap}
use Rattle.std.proofs.Common.{arith, subst, Option, Some, None, All, length-append}
use Rattle.std.specs.Prelude.{slice_get, sum}
use Rattle.std.specs.List.{sum_by, AllByRecursion as Every}
use Rattle.std.proofs.lemmas.Bool.{ne_eqb}
use Rattle.std.proofs.lemmas.List.{length-map}
use Rattle.std.proofs.lemmas.List.Sums.{sum_by-cons}
use Rattle.std.proofs.lemmas.List.Elements.{recursion_from_All, All-from_recursion}
use Rattle.std.proofs.lemmas.Option.{slice_get_within}
use Rattle.pre_rings.specs.declared.slots.FrameRef.{FrameRef}
use Rattle.pre_topo.specs.declared.arcs.Arc.{Arc}
use Rattle.pre_topo.specs.declared.nodes.NodeKind.TheVariants.{Station, Bridge}
use Rattle.pre_topo.specs.Arcs.{reverse_of}
use Rattle.pre_streams.specs.declared.rows.Row.{Row}
use Rattle.pre_streams.specs.Rows.{IsRow}
use Rattle.pre_send.specs.declared.going.Task.{Task}
use Rattle.pre_send.specs.declared.going.Task.TheVariants as task
use Rattle.pre_send.specs.declared.going.Going.{Going}
use Rattle.pre_send.specs.declared.pieces.Piece.{Piece}
use Rattle.pre_send.specs.declared.senders.Sender.{Sender}
use Rattle.pre_send.specs.Owned.{frames_of, frames_of_task, frames_going, frames_kept}
use Rattle.pre_history.specs.Scenario.{Scenario, arc, row, send, no_arc, no_row}
use Rattle.pre_history.proofs.Lists.{filter_nil}
use Rattle.pre_laws.proofs.Fitting.{sent}
use Rattle.pre_bridge.specs.declared.relays.Relay.{Relay}
use Rattle.pre_bridge.specs.Inside.{Call, Entry, of_arc, inside}
use Rattle.pre_bridge.specs.Relays.{Stands}
use Rattle.pre_bridge.proofs.Queues.{all_inside}
use Rattle.pre_bridge.proofs.Standing.{few_is}
use Rattle.pre_memory.specs.Slots.{Held, frames_held, slots_out, room_of, FitsArcs, FitsArc, times}
use Rattle.pre_memory.specs.Stations.{LeadsTo}
use Rattle.pre_memory.proofs.Counting.{rings, times_of_arc, wanted}
use Rattle.pre_memory.proofs.Stations.{row_first, apart}
use Rattle.pre_sim.specs.declared.lanes.Lane.{Lane}
use Rattle.pre_sim.specs.declared.ticks.Progress.{Progress}
use Rattle.pre_sim.specs.Reach.{AllFit}
use Rattle.pre_sim.specs.Keeps.{Store, Keeps, IsKeptInside, IsKept, held_of}
use Rattle.pre_sim.proofs.Lists.{there, within, map_at, read_at}

-- a sender has two frames at most
one_task : (x : Task) → length (frames_of_task x) ≤ 1
one_task (task.Frame f) = omega arith
one_task (task.Fragment x) = omega arith
one_task task.Lldp = omega arith
one_task task.Verify = omega arith
one_task task.Respond = omega arith

two : (fs gs : List FrameRef) → length fs ≤ 1 → length gs ≤ 1 → length (fs ++ gs) ≤ 2
two fs gs p q = omega (arith, length-append fs gs, p, q)

sender_few : (s : Sender) → length (frames_of s) ≤ 2
unfolding frames_of
sender_few s = go s.going s.kept
  where
    go : (o : Option Going) (k : Option Piece) → length (frames_going o ++ frames_kept k) ≤ 2
    go None None = omega arith
    go None (Some x) = omega arith
    go (Some g) None = two (frames_of_task g.task) [] (one_task g.task) (omega arith)
    go (Some g) (Some x) = two (frames_of_task g.task) (x.frame ∷ []) (one_task g.task) (omega arith)

all_map : (n : ℕ) (es : List Entry) → Every (λ e. e.arc < n) es → Every (λ a. a < n) (map (λ e. e.arc) es)
all_map n [] all = tt
all_map n (e ∷ es) (here, more) = (here, all_map n es more)

map_sum : (lanes : List Lane) → sum_by frames_held (map held_of lanes) ≡ sum_by (λ l. frames_held (held_of l)) lanes
map_sum [] = refl
map_sum (l ∷ lanes) = omega (arith, sum_by-cons frames_held (held_of l) (map held_of lanes), sum_by-cons (λ (x : Lane). frames_held (held_of x)) l lanes, map_sum lanes)

module _ (w : Scenario) (relay : Relay) (lanes : List Lane) (store : Store) (calls : List Call) (stands : Stands relay w.net w.streams calls)
    (keeps : Keeps w store lanes (inside w.net w.streams calls) []) (many : length lanes ≡ length w.net.arcs) where
  -- those inside arrived by arcs of the network
  known : All (λ (e : Entry). e.arc < length w.net.arcs) (inside w.net w.streams calls)
  known = all_inside (λ j _. j < length w.net.arcs) (inside w.net w.streams calls) relay.ingresses.items stands.queues
      (λ j ingress at k d lt. omega (arith, slice_get_within relay.ingresses.items j ingress at, stands.count))

  -- no more stand there than the network has slots for
  fits : FitsArcs w.net.nodes w.net.arcs (map held_of lanes) (map (λ e. e.arc) (inside w.net w.streams calls))
  fits = record {
    lanes = length-map lanes held_of ∙ many;
    each = λ a link h at to.
        let lane = map_at held_of lanes a h to in
        let is = keeps.apart.each_lane a lane.0 lane.1 in
        let same : (arc w a).rings ≡ link.rings = ap (λ (x : Arc). x.rings) (read_at w.net.arcs a link no_arc at) in
        let fit : sum_by length lane.0.rings.frames ≤ sum lane.0.rings.capacities = rings lane.0.rings.frames lane.0.rings.capacities (omega (arith, is.eight.0, is.eight.1)) is.within in
        subst (λ (x : Held). FitsArc w.net.nodes link x (times a (map (λ (e : Entry). e.arc) (inside w.net w.streams calls)))) lane.2
        (record {
          rings = subst (λ ns. sum_by length lane.0.rings.frames ≤ sum ns) (is.capacities ∙ same) fit;
          sender = sender_few lane.0.outgoing.sender;
          inside = omega (arith, times_of_arc a (inside w.net w.streams calls), few_is relay w.net w.streams calls a link stands at);
        });
    known = All-from_recursion (λ a. a < length w.net.arcs) (map (λ (e : Entry). e.arc) (inside w.net w.streams calls))
        (all_map (length w.net.arcs) (inside w.net w.streams calls) (recursion_from_All (λ (e : Entry). e.arc < length w.net.arcs) (inside w.net w.streams calls) known));
  }

  -- where one more that arrived by some arc may be inside, a slot is in
  pub slot_there : (a : ℕ) (link : Arc) → slice_get w.net.arcs a ≡ Some link → length (of_arc a (inside w.net w.streams calls)) < room_of w.net.nodes link → slots_out store < length store
  slot_there a link at room =
      wanted w.net.nodes w.net.arcs store (map held_of lanes) (inside w.net w.streams calls) a link (omega (arith, keeps.counted, map_sum lanes)) fits at room keeps.all

  -- none inside arrived by an arc that leads to a station
  elsewhere : (r : ℕ) → LeadsTo w.net r Station → (es : List Entry) → Every (IsKeptInside w store) es → Every (λ e. (e.arc == r) ≡ false) es
  elsewhere r station [] all = tt
  elsewhere r station (e ∷ es) (here, more) =
      (ne_eqb e.arc r (λ same. apart w.net r station (subst (λ n. LeadsTo w.net n Bridge) same here.from)), elsewhere r station es more)

  -- so one more might be inside, and in its place one is sent
  sent_slot : (q : Row) → IsRow w.net q → slots_out store < length store
  sent_slot q rule =
      let first = there q.arcs 0 (omega (arith, rule.route.long.0, rule.route.hops)) in
      let back = row_first w.net q rule.route first.0 first.1 in
      let r = reverse_of first.0.0 in
      let none : of_arc r (inside w.net w.streams calls) ≡ [] =
      filter_nil (λ (e : Entry). e.arc == r) (inside w.net w.streams calls) (elsewhere r back (inside w.net w.streams calls) keeps.apart.each_inside) in
      slot_there r back.0 back.1 (omega (arith, ap (length {A = Entry}) none))

-- in a run that is kept so
pub kept_slot : (w : Scenario) → AllFit w.net w.streams w.script → (t n : ℕ) (p : Progress) → IsKept w t p → length p.lanes.items ≡ length w.net.arcs → n < length w.script.sends
    → slots_out p.store < length p.store
kept_slot w fit t n p kept many lt =
    let s = sent w fit.streams_fit fit.script_fits n lt in
    let rule : IsRow w.net (row w n) = fit.streams_fit.each (send w n).send.stream.0 no_row (within w.streams.rows (send w n).send.stream.0 s.row s.known) in
    sent_slot w p.relay p.lanes.items p.store kept.calls kept.stands kept.keeps many (row w n) rule
