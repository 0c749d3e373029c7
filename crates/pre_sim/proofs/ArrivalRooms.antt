-- Where an mPacket is due at the end of an arc, a slot is in for its frame, and there is room inside the bridge.
use Rattle.std.proofs.Common.{ℕ, ◌≡◌, ◌≢◌, ◌+◌, ◌*◌, ◌/◌, ◌<◌, ◌≤◌, List, [], ◌∷◌, ◌++◌, length}
use Rattle.std.proofs.Common.{drop, sym, ◌∙◌, ap, inl, inr, arith, subst, Option, Some, None, All, filter_map}
use Rattle.std.specs.Prelude.{slice_get}
use Rattle.std.specs.List.{cons_option, AllByRecursion as Every}
use Rattle.std.specs.Option.{option_map_or}
use Rattle.std.proofs.lemmas.Bool.{lt-ltb}
use Rattle.std.proofs.lemmas.List.{length-map}
use Rattle.std.proofs.lemmas.List.Elements.{recursion_from_All, All-from_recursion}
use Rattle.std.proofs.lemmas.Option.{slice_get_within}
use Rattle.pre_base.specs.declared.numbers.FrameNo.{FrameNo}
use Rattle.pre_topo.specs.declared.arcs.Arc.{Arc}
use Rattle.pre_topo.specs.Arcs.{IsArc, latency_at}
use Rattle.pre_history.specs.Scenario.{Scenario, arc, latency, no_arc}
use Rattle.pre_history.specs.History.{Arrive, Ended, History, PlainEvent}
use Rattle.pre_history.specs.Moments.{Phase}
use Rattle.pre_history.specs.Placed.{number}
use Rattle.pre_history.specs.Queries.{Begins, Ends, Arrivals}
use Rattle.pre_history.specs.Rules.{Arriving, HappensIn}
use Rattle.pre_history.specs.Legal.{LegalUpTo}
use Rattle.pre_history.proofs.ArrivalTurns.{not_due}
use Rattle.pre_history.proofs.InOrder.{steady}
use Rattle.pre_history.proofs.Placing.{placed}
use Rattle.pre_history.proofs.Turns.{each_only}
use Rattle.pre_laws.specs.Routed.{IsRouted}
use Rattle.pre_bridge.specs.declared.relays.Relay.{Relay}
use Rattle.pre_bridge.specs.Inside.{Call, Entry, of_arc, inside}
use Rattle.pre_bridge.specs.Relays.{Stands}
use Rattle.pre_bridge.specs.Table.{capacity_of}
use Rattle.pre_bridge.proofs.Standing.{space_is}
use Rattle.pre_memory.specs.Slots.{room_of}
use Rattle.pre_memory.proofs.Sizes.{have_sizes}
use Rattle.pre_memory.proofs.Spaced.{few_late}
use Rattle.pre_incoming.specs.declared.incomings.Incoming.{Incoming}
use Rattle.pre_incoming.specs.declared.landings.Landed.TheVariants as landed
use Rattle.pre_incoming.specs.declared.landings.Landing.{Landing}
use Rattle.pre_incoming.specs.Landings.{LandsAs}
use Rattle.pre_sim.specs.declared.lanes.Lane.{Lane}
use Rattle.pre_sim.specs.Keeps.{Store, Keeps}
use Rattle.pre_sim.specs.Stages.{set_up, stage_at}
use Rattle.pre_sim.specs.Stands.{AreInside, LaneStands, onward, passes}
use Rattle.pre_sim.specs.Parts.{ArrivalsPart, Before, LaneReached}
use Rattle.pre_sim.specs.Room.{ArrivalReached, ArrivalsReached, IsDueAt, TakesOne}
use Rattle.pre_sim.proofs.ArrivalParts.{LandsSo}
use Rattle.pre_sim.proofs.Lists.{there, every_at, find_at}
use Rattle.pre_sim.proofs.SlotsThere.{slot_there}
use Rattle.pre_sim.proofs.StageTests.{is_set_up}

-- where something happens at the arrivals of an arc, the next mPacket is due
next_due : (w : Scenario) (h es : History) (t a : ℕ) → a < length w.net.arcs → LegalUpTo w (number (length w.net.arcs) t (1 + length w.net.arcs + a)) h → HappensIn w h t (Phase.arrivals a) es
    → es ≢ [] → (e : Ended) → slice_get (Ends h a) (length (Arrivals h a)) ≡ Some e → e.tick + (arc w a).delay ≡ t
unfolding HappensIn
next_due w h es t a a_lt legal happens some e at = elim its [ inl now ↦ now.0 | inr none ↦ absurd (some none.1) ]
  where
    none_else : (i : ℕ) (d : Ended) (fs : List PlainEvent) → i ≢ length (Arrivals h a) → slice_get (Ends h a) i ≡ Some d → Arriving w h t a d fs → fs ≡ []
    none_else i d fs other there_is (inl now) =
        absurd (not_due w h [] t a a_lt (omega (arith, a_lt)) (placed w (number (length w.net.arcs) t (1 + length w.net.arcs + a)) h legal) tt
        (steady w (number (length w.net.arcs) t (1 + length w.net.arcs + a)) h a a_lt legal) i d other there_is now.0)
    none_else i d fs other there_is (inr none) = none.1

    its : Arriving w h t a e es
    its = each_only (Arriving w h t a) (Ends h a) es (length (Arrivals h a)) e at none_else happens

-- some history leads to the arc's arrivals
pub leads : (w : Scenario) (t a : ℕ) (lane : Lane) (relay : Relay) (store : Store) → ArrivalReached w t a lane relay store → LaneReached w t (Phase.arrivals a) a None lane
leads w t a lane relay store reached = (reached.history, reached.items, reached.before)

-- a frame that lands is taken
pub finds_room : (w : Scenario) (t a : ℕ) → a < length w.net.arcs → (old : Lane) (incoming : Incoming) (x : Landing) (into : List ℕ) (relay : Relay) (store : Store)
    → ArrivalReached w t a old relay store → LandsSo w t a old incoming x into → (f : FrameNo) → x.given ≡ landed.Frame f → TakesOne store relay a
finds_room w t a a_lt old incoming x into relay store reached lands f is =
    let h = reached.history in
    let b = reached.before in
    let one = subst (LandsAs w h t a x into incoming) is (lands h b.legal b.stands.incoming) in
    let e = there (Ends h a) (length (Arrivals h a)) one.0.over in
    reached.takes (e.0, e.1, next_due w h _ t a a_lt b.legal.0 one.1.happens (λ none. cc none) e.0 e.1)

-- ---- how many are inside

few_selected : {X Y : Type 0} (f : X → Option Y) (xs : List X) → length (filter_map f xs) ≤ length xs
few_selected f [] = omega arith
few_selected {X} {Y} f (x ∷ xs) = go (f x) (few_selected f xs)
  where
    go : (o : Option Y) → length (filter_map f xs) ≤ length xs → length (cons_option o (filter_map f xs)) ≤ length (x ∷ xs)
    go None ih = omega (arith, ih)
    go (Some y) ih = omega (arith, ih)

-- the arc costs a tick for an octet at least
costs : (w : Scenario) (a : ℕ) → a < length w.net.arcs → 1 ≤ (arc w a).cost
costs w a lt =
    let all = recursion_from_All (IsArc w.net.nodes) w.net.arcs w.net.rules.each_arc in
    let rule : IsArc w.net.nodes (arc w a) = every_at (IsArc w.net.nodes) w.net.arcs a (arc w a) all (find_at w.net.arcs a no_arc lt) in
    rule.cost.0

-- where the next one is due, fewer are inside that arrived by the arc than may be
few_inside : (w : Scenario) (t a n : ℕ) → a < length w.net.arcs → IsRouted w → (h : History) (items : List Entry) → LegalUpTo w n h
    → AreInside w a (Begins h a) (Arrivals h a) t items → IsDueAt w h t a
    → length items ≤ latency w a / (84 * (arc w a).cost)
few_inside w t a n lt routed h items legal is due =
    let late : All (λ (x : Arrive). due.0.tick + (arc w a).delay ≤ x.tick + latency w a) (drop is.gone (Arrivals h a)) =
    All-from_recursion (λ (x : Arrive). due.0.tick + (arc w a).delay ≤ x.tick + latency w a) (drop is.gone (Arrivals h a))
    (subst (λ m. Every (λ (x : Arrive). m ≤ x.tick + latency w a) (drop is.gone (Arrivals h a))) (sym due.2) is.later) in
    let few = few_late (arc w a).cost (arc w a).delay (Begins h a) (Ends h a) (Arrivals h a) (steady w n h a lt legal).ordered (have_sizes w routed n h legal a lt)
    (latency w a) is.gone due.0 (costs w a lt) due.1 late in
    let same : length (filter_map (onward w a (Begins h a)) (drop is.gone (Arrivals h a))) ≡ length items = ap length is.are ∙ length-map items passes in
    omega (arith, few, same, few_selected (onward w a (Begins h a)) (drop is.gone (Arrivals h a)))

-- ---- each arc of a tick

module _ (w : Scenario) (routed : IsRouted w) (t n m : ℕ) (relay relay' : Relay) (lanes lanes' : List Lane) (store store' : Store) (es : History) (from : ArrivalsReached w t relay lanes store)
    (part : ArrivalsPart w t (1 + length w.net.arcs) n m store store' relay relay' lanes lanes' es) (many : length lanes' ≡ length w.net.arcs)
    (lane : Lane) (here : slice_get lanes' n ≡ Some lane) where
  in_it : (calls' : List Call) × Stands relay' w.net w.streams calls' × (inside w.net w.streams calls' ≡ inside w.net w.streams from.calls ++ part.0)
  in_it = part.2 from.calls from.relays

  n_lt : n < length w.net.arcs
  n_lt = omega (arith, slice_get_within lanes' n lane here, many)

  before : Before w t (Phase.arrivals n) n None lane (from.history ++ es) (of_arc n (inside w.net w.streams from.calls ++ part.0))
  before =
      let now = part.1.legal from.history (inside w.net w.streams from.calls) from.legal from.stand in
      record { legal = now.0; hears = tt; stands = now.1 n lane here }

  keeps : Keeps w store' lanes' (inside w.net w.streams in_it.0) []
  keeps = subst (λ xs. Keeps w store' lanes' xs []) (sym in_it.2) (part.1.keeps (inside w.net w.streams from.calls) from.keeps)

  few : IsDueAt w (from.history ++ es) t n → length (of_arc n (inside w.net w.streams in_it.0)) < room_of w.net.nodes (arc w n)
  few due =
      let stage : stage_at (length w.net.arcs) t (1 + length w.net.arcs + n) n ≡ set_up t = is_set_up (length w.net.arcs) t (1 + length w.net.arcs + n) n (omega arith) (omega (arith, n_lt)) in
      let items = of_arc n (inside w.net w.streams from.calls ++ part.0) in
      let stands : LaneStands w (from.history ++ es) n (set_up t) lane items = subst (λ s. LaneStands w (from.history ++ es) n s lane items) stage before.stands in
      let short = few_inside w t n (number (length w.net.arcs) t (1 + length w.net.arcs + n)) n_lt routed (from.history ++ es) items before.legal.0 stands.inside due in
      omega (arith, short, ap (λ xs. length (of_arc n xs)) in_it.2)

  takes : IsDueAt w (from.history ++ es) t n → TakesOne store' relay' n
  takes due =
      let found = find_at w.net.arcs n no_arc n_lt in
      let capacity : capacity_of w.net n ≡ room_of w.net.nodes (arc w n) = ap (λ o. option_map_or (λ (b : Arc). latency_at w.net.nodes b.to.0 / (84 * b.cost) + 1) o 0) found in
      record {
        slot = slot_there w relay' lanes' store' in_it.0 in_it.1 keeps many n (arc w n) found (few due);
        room = space_is relay' w.net w.streams in_it.0 n in_it.1
            ∙ lt-ltb (length (of_arc n (inside w.net w.streams in_it.0))) (capacity_of w.net n) (let less = few due in omega (arith, less, capacity));
      }

  pub reached : ArrivalReached w t n lane relay' store'
  reached = record { history = from.history ++ es; items = of_arc n (inside w.net w.streams from.calls ++ part.0); before = before; takes = takes }
