-- What a call changes of the calls for which a relay stands.
use Rattle.std.proofs.Common.{length-drop, length-append, ◌≡◌, ℕ, suc, ◌+◌, ◌*◌, ◌/◌, ◌<◌, ◌≤◌, ◌⊎◌, inl, inr, true, false, cond, leb, ltb, eqb}
use Rattle.std.proofs.Common.{List, [], ◌∷◌, ◌++◌, length, map, set, Option, Some, None, refl, sym, ap, ap₂, subst, ◌∙◌, arith, All, AllPairs, drop, get_or}
use Rattle.std.proofs.Common.{append-nil, length-set}
use Rattle.std.specs.Prelude.{slice_get, position, is_some}
use Rattle.std.specs.List.{flat_map}
use Rattle.std.specs.Option.{option_map, option_map_or, option_and_then}
use Rattle.std.proofs.lemmas.Bool.{cases_eq, eq-eqb, ne_eqb, ltb-true, le-ltb, cases_lt, false≢true}
use Rattle.std.proofs.lemmas.Option.{slice_get_within, slice_get-get_or, get_or_from_slice_get, slice_get_past, slice_get-map, none-some}
use Rattle.std.proofs.lemmas.List.{map_push, length-map}
use Rattle.std.proofs.lemmas.List.Sums.{fold-append}
use Rattle.std.proofs.lemmas.List.Elements.{All-nil, All-push, All-weaker, All-drop, filter-append}
use Rattle.std.proofs.lemmas.List.Quantifiers.{all_pairs_push, position-Some}
use Rattle.circular_buffer.specs.Buffer.{buffer}
use Rattle.circular_buffer.proofs.Places.{slice_get-set_same, slice_get-set_other, slice_get-some}
use Rattle.pre_base.specs.declared.numbers.ArcId.{ArcId}
use Rattle.pre_rings.specs.declared.slots.FrameRef.{FrameRef}
use Rattle.pre_topo.specs.declared.network.Network.{Network}
use Rattle.pre_topo.specs.declared.arcs.Arc.{Arc}
use Rattle.pre_topo.specs.Arcs.{latency_at}
use Rattle.pre_streams.specs.declared.rows.Streams.{Streams}
use Rattle.pre_bridge.specs.declared.ingresses.Ingress.{Ingress}
use Rattle.pre_bridge.specs.declared.ingresses.Waiting.{Waiting}
use Rattle.pre_bridge.specs.declared.relays.Relay.{Relay}
use Rattle.pre_bridge.specs.Table.{hops_of, arc_among, onward, latency_of}
use Rattle.pre_bridge.specs.Ingresses.{ingress_of, is_due_at}
use Rattle.pre_bridge.specs.Inside.{Entry, Call, delivered, taken, after, inside, kept, last_kept, last_kept_after, has_room, of_arc, comes_out, leaving, without_first, handed}
use Rattle.pre_bridge.specs.Relays.{IsIngress, IsInOrder, Stands, has_space, waiting, queue_at}
use Rattle.pre_bridge.proofs.Queues.{queue_is, drop-map, none_out, one_out, TakesOut}
use Rattle.pre_bridge.proofs.Firsts.{none_passes, one_passes, none_before}

pub inside-push : (net : Network) (streams : Streams) (calls : List Call) (call : Call) → inside net streams (calls ++ call ∷ []) ≡ after net streams (inside net streams calls) call
inside-push net streams calls call = fold-append (after net streams) [] calls (call ∷ [])

pub last_kept-push : (net : Network) (streams : Streams) (calls : List Call) (call : Call) → last_kept net streams (calls ++ call ∷ []) ≡ last_kept_after net streams (last_kept net streams calls) call
last_kept-push net streams calls call = fold-append (last_kept_after net streams) 0 calls (call ∷ [])

-- nothing changes
pub Stands-same : (relay : Relay) (net : Network) (streams : Streams) (calls more : List Call) → inside net streams more ≡ inside net streams calls → last_kept net streams more ≡ last_kept net streams calls
    → Stands relay net streams calls → Stands relay net streams more
Stands-same relay net streams calls more e f s = record {
  hops = s.hops;
  count = s.count;
  each = s.each;
  order = s.order;
  latest = s.latest ∙ sym f;
  queues = λ i. ap (λ xs. map waiting (of_arc i xs)) e ∙ s.queues i;
}

-- the queue of one arc changes
pub record Changes (old new : Relay) (place : ℕ) (ingress changed : Ingress) : Type 0 where
  pub was : slice_get old.ingresses.items place ≡ Some ingress
  pub now : new.ingresses.items ≡ set old.ingresses.items place changed
  pub hops : new.hops.items ≡ old.hops.items
  pub later : old.latest.0 ≤ new.latest.0
  pub node : changed.node ≡ ingress.node
  pub latency : changed.latency ≡ ingress.latency
  pub capacity : changed.queue.capacity ≡ ingress.queue.capacity
  pub order : IsInOrder new.latest.0 changed

pub Stands-changed : (old new : Relay) (place : ℕ) (ingress changed : Ingress) (net : Network) (streams : Streams) (calls more : List Call) → Changes old new place ingress changed → Stands old net streams calls
    → new.latest.0 ≡ last_kept net streams more → map waiting (of_arc place (inside net streams more)) ≡ changed.queue.items
    → ((i : ℕ) → (i ≡ place → ⊥) → map waiting (of_arc i (inside net streams more)) ≡ map waiting (of_arc i (inside net streams calls)))
    → Stands new net streams more
Stands-changed old new place ingress changed net streams calls more ch s latest here others = record {
  hops = ch.hops ∙ s.hops;
  count = ap length ch.now ∙ length-set old.ingresses.items place changed ∙ s.count;
  each = λ i a other e f. each_at i a other e (cases_eq i place) f;
  order = λ i other f. order_at i other (cases_eq i place) f;
  latest = latest;
  queues = λ i. queue_of i (cases_eq i place);
}
  where
    within : place < length old.ingresses.items
    within = slice_get_within old.ingresses.items place ingress ch.was

    same : slice_get new.ingresses.items place ≡ Some changed
    same = ap (λ l. slice_get l place) ch.now ∙ slice_get-set_same old.ingresses.items place changed within

    other_at : (i : ℕ) → (i ≡ place → ⊥) → slice_get new.ingresses.items i ≡ slice_get old.ingresses.items i
    other_at i ne = ap (λ l. slice_get l i) ch.now ∙ slice_get-set_other old.ingresses.items place i changed ne

    is_changed : (i : ℕ) (other : Ingress) → i ≡ place → slice_get new.ingresses.items i ≡ Some other → changed ≡ other
    is_changed i other e f = let g : Some changed ≡ Some other = sym same ∙ ap (slice_get new.ingresses.items) (sym e) ∙ f in cc

    each_at : (i : ℕ) (a : Arc) (other : Ingress) → slice_get net.arcs i ≡ Some a → (i ≡ place) ⊎ (i ≡ place → ⊥) → slice_get new.ingresses.items i ≡ Some other → IsIngress net a other
    each_at i a other e (inr ne) f = s.each i a other e (sym (other_at i ne) ∙ f)
    each_at i a other e (inl eq) f =
        let was = s.each i a ingress e (ap (slice_get old.ingresses.items) eq ∙ ch.was) in
        subst (IsIngress net a) (is_changed i other eq f) (record { node = ch.node ∙ was.node; latency = ch.latency ∙ was.latency; capacity = ch.capacity ∙ was.capacity })

    order_at : (i : ℕ) (other : Ingress) → (i ≡ place) ⊎ (i ≡ place → ⊥) → slice_get new.ingresses.items i ≡ Some other → IsInOrder new.latest.0 other
    order_at i other (inl eq) f = subst (IsInOrder new.latest.0) (is_changed i other eq f) ch.order
    order_at i other (inr ne) f =
        let was = s.order i other (sym (other_at i ne) ∙ f) in
        record { ordered = was.ordered; recent = All-weaker (λ (w : Waiting). w.due.0 ≤ old.latest.0 + other.latency) (λ (w : Waiting). w.due.0 ≤ new.latest.0 + other.latency) (λ w le. omega (arith, le, ch.later)) other.queue.items was.recent; within = was.within }

    queue_of : (i : ℕ) → (i ≡ place) ⊎ (i ≡ place → ⊥) → map waiting (of_arc i (inside net streams more)) ≡ queue_at new.ingresses.items i
    queue_of i (inl eq) = subst (λ j. map waiting (of_arc j (inside net streams more)) ≡ queue_at new.ingresses.items j) (sym eq) (here ∙ sym (queue_is new.ingresses.items place changed same))
    queue_of i (inr ne) = others i ne ∙ s.queues i ∙ ap (λ (o : Option Ingress). option_map_or (λ (n : Ingress). n.queue.items) o []) (sym (other_at i ne))

-- ---- a delivery

-- the next arc, as the relay's table has it
pub onward_is : (relay : Relay) (net : Network) (streams : Streams) (calls : List Call) (i vid : ℕ) (ingress : Ingress) → Stands relay net streams calls → slice_get relay.ingresses.items i ≡ Some ingress
    → (onward net streams i vid ≡ arc_among relay.hops.items ingress.node vid) × (latency_of net i ≡ ingress.latency)
onward_is relay net streams calls i vid ingress s e =
    let lt : i < length net.arcs = omega (arith, slice_get_within relay.ingresses.items i ingress e, s.count) in
    let arc = slice_get-some net.arcs i lt in
    let is = s.each i arc.0 ingress arc.1 e in (
      ap (option_and_then (λ (a : Arc). arc_among (flat_map hops_of streams.rows) a.to vid)) arc.1 ∙ ap₂ (λ hops node. arc_among hops node vid) (sym s.hops) (sym is.node),
      ap (λ (o : Option Arc). option_map_or (λ (a : Arc). latency_at net.nodes a.to.0) o 0) arc.1 ∙ sym is.latency,
    )

pub Stands-refused : (relay : Relay) (net : Network) (streams : Streams) (calls : List Call) (t i : ℕ) (frame : FrameRef) → Stands relay net streams calls → onward net streams i frame.vid ≡ None
    → Stands relay net streams (calls ++ delivered t i frame ∷ [])
Stands-refused relay net streams calls t i frame s e =
    Stands-same relay net streams calls (calls ++ delivered t i frame ∷ [])
    (inside-push net streams calls (delivered t i frame) ∙ ap (λ o. inside net streams calls ++ kept t i (latency_of net i) frame o) e ∙ append-nil (inside net streams calls))
    (last_kept-push net streams calls (delivered t i frame) ∙ ap (λ (o : Option ArcId). cond (is_some o) t (last_kept net streams calls)) e) s

of_arc-push : (i : ℕ) (xs : List Entry) (x : Entry) → of_arc i (xs ++ x ∷ []) ≡ of_arc i xs ++ cond (eqb x.arc i) (x ∷ []) []
of_arc-push i xs x = filter-append (λ (y : Entry). eqb y.arc i) xs (x ∷ [])

pub in_order-push : (latest t : ℕ) (ingress changed : Ingress) (w : Waiting) → IsInOrder latest ingress → latest ≤ t → w.due.0 ≡ t + ingress.latency → changed.latency ≡ ingress.latency → changed.queue.items ≡ ingress.queue.items ++ w ∷ []
    → changed.queue.capacity ≡ ingress.queue.capacity → length ingress.queue.items < ingress.queue.capacity → IsInOrder t changed
in_order-push latest t ingress changed w order le due latency items capacity room = record {
  within = omega (arith, ap length items, length-append ingress.queue.items (w ∷ []), capacity, room);
  ordered = subst (AllPairs (λ (u v : Waiting). u.due.0 ≤ v.due.0)) (sym items)
      (all_pairs_push (λ (u v : Waiting). u.due.0 ≤ v.due.0) ingress.queue.items w order.ordered (λ k d lt. let by : (get_or ingress.queue.items k d).due.0 ≤ latest + ingress.latency = order.recent k d lt in omega arith));
  recent = subst (All (λ (v : Waiting). v.due.0 ≤ t + changed.latency)) (sym items)
      (All-push (λ (v : Waiting). v.due.0 ≤ t + changed.latency) ingress.queue.items w
      (All-weaker (λ (v : Waiting). v.due.0 ≤ latest + ingress.latency) (λ (v : Waiting). v.due.0 ≤ t + changed.latency) (λ v h. omega (arith, h)) ingress.queue.items order.recent) (omega arith));
}

pub Stands-delivered : (old new : Relay) (net : Network) (streams : Streams) (calls : List Call) (t i : ℕ) (frame : FrameRef) (next : ArcId) (w : Waiting) (ingress changed : Ingress)
    → Changes old new i ingress changed → Stands old net streams calls → new.latest.0 ≡ t → arc_among old.hops.items ingress.node frame.vid ≡ Some next
    → w ≡ record { due = record { 0 = t + ingress.latency }; next = next; frame = frame } → changed.queue.items ≡ ingress.queue.items ++ w ∷ []
    → Stands new net streams (calls ++ delivered t i frame ∷ [])
Stands-delivered old new net streams calls t i frame next w ingress changed ch s latest goes w_is items =
    let on = onward_is old net streams calls i frame.vid ingress s ch.was in
    let x : Entry = record { arc = i; due = t + ingress.latency; next = next; frame = frame } in
    let more = inside-push net streams calls (delivered t i frame) ∙ ap₂ (λ o l. inside net streams calls ++ kept t i l frame o) (on.0 ∙ goes) on.1 in
    Stands-changed old new i ingress changed net streams calls (calls ++ delivered t i frame ∷ []) ch s
    (latest ∙ sym (last_kept-push net streams calls (delivered t i frame) ∙ ap (λ (o : Option ArcId). cond (is_some o) t (last_kept net streams calls)) (on.0 ∙ goes)))
    (ap (λ xs. map waiting (of_arc i xs)) more ∙ ap (map waiting) (of_arc-push i (inside net streams calls) x ∙ ap (λ b. of_arc i (inside net streams calls) ++ cond b (x ∷ []) []) (eq-eqb i i refl))
    ∙ map_push waiting (of_arc i (inside net streams calls)) x ∙ ap₂ (λ l v. l ++ v ∷ []) (s.queues i ∙ queue_is old.ingresses.items i ingress ch.was) (sym w_is) ∙ sym items)
    (λ j ne. ap (λ xs. map waiting (of_arc j xs)) more ∙ ap (map waiting) (of_arc-push j (inside net streams calls) x ∙ ap (λ b. of_arc j (inside net streams calls) ++ cond b (x ∷ []) []) (ne_eqb i j (λ e. ne (sym e))) ∙ append-nil (of_arc j (inside net streams calls))))

-- ---- one that is taken

pub in_order-drop : (latest : ℕ) (ingress changed : Ingress) → IsInOrder latest ingress → changed.latency ≡ ingress.latency → changed.queue.items ≡ drop 1 ingress.queue.items → changed.queue.capacity ≡ ingress.queue.capacity → IsInOrder latest changed
in_order-drop latest ingress changed order latency items capacity = record {
  within = omega (arith, ap length items, length-drop 1 ingress.queue.items, capacity, order.within);
  ordered = subst (AllPairs (λ (u v : Waiting). u.due.0 ≤ v.due.0)) (sym items) (rest ingress.queue.items order.ordered);
  recent = subst (All (λ (v : Waiting). v.due.0 ≤ latest + changed.latency)) (sym items)
      (All-drop (λ (v : Waiting). v.due.0 ≤ latest + changed.latency) 1 ingress.queue.items
      (All-weaker (λ (v : Waiting). v.due.0 ≤ latest + ingress.latency) (λ (v : Waiting). v.due.0 ≤ latest + changed.latency) (λ v h. omega (arith, h)) ingress.queue.items order.recent));
}
  where
    rest : (queue : List Waiting) → AllPairs (λ (u v : Waiting). u.due.0 ≤ v.due.0) queue → AllPairs (λ (u v : Waiting). u.due.0 ≤ v.due.0) (drop 1 queue)
    rest [] h = h
    rest (w ∷ queue) h = λ i j d less within. h (suc i) (suc j) d (omega (arith, less)) (omega (arith, within))

pub Stands-taken : (old new : Relay) (net : Network) (streams : Streams) (calls : List Call) (t place : ℕ) (ingress changed : Ingress) (w : Waiting)
    → Changes old new place ingress changed → Stands old net streams calls → new.latest.0 ≡ old.latest.0 → changed.queue.items ≡ drop 1 ingress.queue.items → TakesOut t place w (inside net streams calls)
    → Stands new net streams (calls ++ taken t ∷ [])
Stands-taken old new net streams calls t place ingress changed w ch s latest items out =
    let more = inside-push net streams calls (taken t) in
    Stands-changed old new place ingress changed net streams calls (calls ++ taken t ∷ []) ch s
    (latest ∙ s.latest ∙ sym (last_kept-push net streams calls (taken t)))
    (ap (λ xs. map waiting (of_arc place xs)) more ∙ ap (map waiting) out.here ∙ drop-map (of_arc place (inside net streams calls)) ∙ ap (drop 1) (s.queues place ∙ queue_is old.ingresses.items place ingress ch.was) ∙ sym items)
    (λ j ne. ap (λ xs. map waiting (of_arc j xs)) more ∙ ap (map waiting) (out.others j ne))

pub Stands-untaken : (relay : Relay) (net : Network) (streams : Streams) (calls : List Call) (t : ℕ) → Stands relay net streams calls → without_first (comes_out t (inside net streams calls)) (inside net streams calls) ≡ inside net streams calls
    → Stands relay net streams (calls ++ taken t ∷ [])
Stands-untaken relay net streams calls t s e =
    Stands-same relay net streams calls (calls ++ taken t ∷ []) (inside-push net streams calls (taken t) ∙ e) (last_kept-push net streams calls (taken t)) s

-- There is room: the place is there, and its queue isn't full.
pub space_at : (relay : Relay) (i : ℕ) → has_space relay i ≡ true → (ingress : Ingress) × (slice_get relay.ingresses.items i ≡ Some ingress) × (length ingress.queue.items < ingress.queue.capacity)
space_at relay i e = by (slice_get relay.ingresses.items i) refl e
  where
    by : (o : Option Ingress) → slice_get relay.ingresses.items i ≡ o → option_map_or (λ (n : Ingress). ltb (length n.queue.items) n.queue.capacity) o false ≡ true
        → (ingress : Ingress) × (slice_get relay.ingresses.items i ≡ Some ingress) × (length ingress.queue.items < ingress.queue.capacity)
    by None is f = absurd (false≢true f)
    by (Some ingress) is f = (ingress, is, ltb-true (length ingress.queue.items) ingress.queue.capacity f)

-- the place that was read
pub at_place : (relay : Relay) (i place : ℕ) (ingress : Ingress) → has_space relay i ≡ true → place ≡ i → ingress ≡ get_or relay.ingresses.items place ingress
    → (slice_get relay.ingresses.items i ≡ Some ingress) × (length ingress.queue.items < ingress.queue.capacity)
at_place relay i place ingress e at read =
    let found = space_at relay i e in
    let same : found.0 ≡ ingress = sym (read ∙ ap (λ j. get_or relay.ingresses.items j ingress) at ∙ get_or_from_slice_get relay.ingresses.items i found.0 ingress found.1) in
    subst (λ (n : Ingress). (slice_get relay.ingresses.items i ≡ Some n) × (length n.queue.items < n.queue.capacity)) same (found.1, found.2)

-- ---- where nothing is taken, and where one is

pub take_none : (relay : Relay) (net : Network) (streams : Streams) (calls : List Call) (t : ℕ) → Stands relay net streams calls → position (λ (n : Ingress). is_due_at t n.queue.items) relay.ingresses.items ≡ None
    → Stands relay net streams (calls ++ taken t ∷ []) × (leaving t (inside net streams calls) ≡ None)
take_none relay net streams calls t s e =
    let none = none_out t (inside net streams calls) relay.ingresses.items s.queues (λ j n at. (s.order j n at).ordered) (none_passes (λ (n : Ingress). is_due_at t n.queue.items) relay.ingresses.items e) in
    (Stands-untaken relay net streams calls t s none.1, none.0)

-- the place at which one is due
pub due_place : (relay : Relay) (t place : ℕ) (ingress : Ingress) → position (λ (n : Ingress). is_due_at t n.queue.items) relay.ingresses.items ≡ Some place → ingress ≡ get_or relay.ingresses.items place ingress
    → (slice_get relay.ingresses.items place ≡ Some ingress) × (is_due_at t ingress.queue.items ≡ true)
due_place relay t place ingress e read =
    let at : slice_get relay.ingresses.items place ≡ Some ingress = slice_get-get_or relay.ingresses.items place ingress (position-Some (λ (n : Ingress). is_due_at t n.queue.items) relay.ingresses.items place ingress e).0 ∙ ap Some (sym read) in
    (at, one_passes (λ (n : Ingress). is_due_at t n.queue.items) relay.ingresses.items place e ingress at)

pub not_empty : (t : ℕ) (queue : List Waiting) → is_due_at t queue ≡ true → slice_get queue 0 ≡ None → ⊥
not_empty t [] e f = false≢true e
not_empty t (w ∷ queue) e f = absurd cc

pub due_front : (t : ℕ) (queue : List Waiting) (w : Waiting) → is_due_at t queue ≡ true → slice_get queue 0 ≡ Some w → leb w.due.0 t ≡ true
due_front t [] w e f = absurd cc
due_front t (v ∷ queue) w e f = let same : v ≡ w = cc in ap (λ (u : Waiting). leb u.due.0 t) (sym same) ∙ e

pub take_some : (old new : Relay) (net : Network) (streams : Streams) (calls : List Call) (t place : ℕ) (ingress changed : Ingress) (w : Waiting) → Stands old net streams calls
    → position (λ (n : Ingress). is_due_at t n.queue.items) old.ingresses.items ≡ Some place → ingress ≡ get_or old.ingresses.items place ingress → slice_get ingress.queue.items 0 ≡ Some w
    → changed ≡ record ingress { queue = buffer (drop 1 ingress.queue.items) ingress.queue.capacity } → new.hops.items ≡ old.hops.items → new.ingresses.items ≡ set old.ingresses.items place changed → new.latest.0 ≡ old.latest.0
    → Stands new net streams (calls ++ taken t ∷ []) × (option_map handed (leaving t (inside net streams calls)) ≡ Some (w.next, w.frame))
take_some old new net streams calls t place ingress changed w s e read front is hops now latest =
    let here = due_place old t place ingress e read in
    let out = one_out t place w (inside net streams calls) old.ingresses.items ingress s.queues (λ j n at. (s.order j n at).ordered) here.0 front (due_front t ingress.queue.items w here.1 front)
    (λ j n lt at. none_before (λ (m : Ingress). is_due_at t m.queue.items) old.ingresses.items place e j n lt at) in
    let items = ap (λ (n : Ingress). n.queue.items) is in
    let kept_latency = ap (λ (n : Ingress). n.latency) is in
    let ch : Changes old new place ingress changed = record {
      was = here.0;
      now = now;
      hops = hops;
      later = omega (arith, latest);
      node = ap (λ (n : Ingress). n.node) is;
      latency = kept_latency;
      capacity = ap (λ (n : Ingress). n.queue.capacity) is;
      order = subst (λ n. IsInOrder n changed) (sym latest) (in_order-drop old.latest.0 ingress changed (s.order place ingress here.0) kept_latency items (ap (λ (n : Ingress). n.queue.capacity) is));
    } in
    (Stands-taken old new net streams calls t place ingress changed w ch s latest items out, out.given)

-- ---- where a frame is kept

pub deliver_some : (old new : Relay) (net : Network) (streams : Streams) (calls : List Call) (t i : ℕ) (frame : FrameRef) (next : ArcId) (w : Waiting) (ingress changed : Ingress) → Stands old net streams calls
    → slice_get old.ingresses.items i ≡ Some ingress → length ingress.queue.items < ingress.queue.capacity → old.latest.0 ≤ t → arc_among old.hops.items ingress.node frame.vid ≡ Some next
    → w ≡ record { due = record { 0 = t + ingress.latency }; next = next; frame = frame }
    → changed ≡ record ingress { queue = buffer (ingress.queue.items ++ w ∷ []) ingress.queue.capacity } → new.hops.items ≡ old.hops.items → new.ingresses.items ≡ set old.ingresses.items i changed → new.latest.0 ≡ t
    → Stands new net streams (calls ++ delivered t i frame ∷ [])
deliver_some old new net streams calls t i frame next w ingress changed s was room le goes w_is is hops now latest =
    let items = ap (λ (n : Ingress). n.queue.items) is in
    let kept_latency = ap (λ (n : Ingress). n.latency) is in
    let ch : Changes old new i ingress changed = record {
      was = was;
      now = now;
      hops = hops;
      later = omega (arith, latest, le);
      node = ap (λ (n : Ingress). n.node) is;
      latency = kept_latency;
      capacity = ap (λ (n : Ingress). n.queue.capacity) is;
      order = subst (λ n. IsInOrder n changed) (sym latest) (in_order-push old.latest.0 t ingress changed w (s.order i ingress was) le (ap (λ (v : Waiting). v.due.0) w_is) kept_latency items (ap (λ (n : Ingress). n.queue.capacity) is) room);
    } in
    Stands-delivered old new net streams calls t i frame next w ingress changed ch s latest goes w_is items

-- ---- a relay with nothing inside

pub Stands-made : (relay : Relay) (net : Network) (streams : Streams) → relay.hops.items ≡ flat_map hops_of streams.rows → relay.ingresses.items ≡ map (ingress_of net.nodes) net.arcs → relay.latest.0 ≡ 0 → Stands relay net streams []
Stands-made relay net streams hops is latest = record {
  hops = hops;
  count = ap length is ∙ length-map net.arcs (ingress_of net.nodes);
  each = λ i a n e f. let same = made i a n e f in subst (IsIngress net a) same (record { node = refl; latency = refl; capacity = refl });
  order = λ i n f. fresh i n f;
  latest = latest;
  queues = λ i. queue_of i (slice_get relay.ingresses.items i) refl;
}
  where
    made : (i : ℕ) (a : Arc) (n : Ingress) → slice_get net.arcs i ≡ Some a → slice_get relay.ingresses.items i ≡ Some n → ingress_of net.nodes a ≡ n
    made i a n e f =
        let g : Some (ingress_of net.nodes a) ≡ Some n = sym (ap (option_map (ingress_of net.nodes)) e) ∙ sym (slice_get-map (ingress_of net.nodes) net.arcs i) ∙ sym (ap (λ l. slice_get l i) is) ∙ f in
        cc

    from : (i : ℕ) (n : Ingress) → slice_get relay.ingresses.items i ≡ Some n → n.queue.items ≡ []
    from i n f =
        let lt : i < length net.arcs = omega (arith, slice_get_within relay.ingresses.items i n f, ap length is, length-map net.arcs (ingress_of net.nodes)) in
        let arc = slice_get-some net.arcs i lt in
        ap (λ (m : Ingress). m.queue.items) (sym (made i arc.0 n arc.1 f))

    fresh : (i : ℕ) (n : Ingress) → slice_get relay.ingresses.items i ≡ Some n → IsInOrder relay.latest.0 n
    fresh i n f = record {
      ordered = subst (AllPairs (λ (u v : Waiting). u.due.0 ≤ v.due.0)) (sym (from i n f)) (λ j k d less within. absurd (omega (arith, within)));
      within = omega (arith, ap length (from i n f));
      recent = subst (All (λ (w : Waiting). w.due.0 ≤ relay.latest.0 + n.latency)) (sym (from i n f)) (All-nil (λ (w : Waiting). w.due.0 ≤ relay.latest.0 + n.latency));
    }

    queue_of : (i : ℕ) (o : Option Ingress) → slice_get relay.ingresses.items i ≡ o → [] ≡ queue_at relay.ingresses.items i
    queue_of i None e = sym (ap (λ (p : Option Ingress). option_map_or (λ (m : Ingress). m.queue.items) p []) e)
    queue_of i (Some n) e = sym (queue_is relay.ingresses.items i n e ∙ from i n e)

-- There is room as the calls say.
pub space_is : (relay : Relay) (net : Network) (streams : Streams) (calls : List Call) (arc : ℕ) → Stands relay net streams calls → has_space relay arc ≡ has_room net streams calls arc
space_is relay net streams calls arc s = by (slice_get relay.ingresses.items arc) refl
  where
    by : (o : Option Ingress) → slice_get relay.ingresses.items arc ≡ o → has_space relay arc ≡ has_room net streams calls arc
    by None e =
        let past : slice_get net.arcs arc ≡ None = slice_get_past net.arcs arc (omega (arith, none_within e, s.count)) in
        ap (λ (o : Option Ingress). option_map_or (λ (n : Ingress). ltb (length n.queue.items) n.queue.capacity) o false) e
        ∙ sym (ap (λ (o : Option Arc). ltb (length (of_arc arc (inside net streams calls))) (option_map_or (λ (a : Arc). latency_at net.nodes a.to.0 / (84 * a.cost) + 1) o 0)) past
        ∙ le-ltb (length (of_arc arc (inside net streams calls))) 0 (omega arith))
      where
        none_within : slice_get relay.ingresses.items arc ≡ None → length relay.ingresses.items ≤ arc
        none_within f = elim (cases_lt arc (length relay.ingresses.items)) [
          | inl lt ↦ let found = slice_get-some relay.ingresses.items arc lt in absurd (none-some found.0 (sym f ∙ found.1))
          | inr ge ↦ ge
        ]
    by (Some ingress) e =
        let lt : arc < length net.arcs = omega (arith, slice_get_within relay.ingresses.items arc ingress e, s.count) in
        let found = slice_get-some net.arcs arc lt in
        let is = s.each arc found.0 ingress found.1 e in
        let long : length ingress.queue.items ≡ length (of_arc arc (inside net streams calls)) =
        ap length (sym (s.queues arc ∙ queue_is relay.ingresses.items arc ingress e)) ∙ length-map (of_arc arc (inside net streams calls)) waiting in
        ap (λ (o : Option Ingress). option_map_or (λ (n : Ingress). ltb (length n.queue.items) n.queue.capacity) o false) e
        ∙ ap₂ ltb long (is.capacity ∙ sym (ap (λ (o : Option Arc). option_map_or (λ (a : Arc). latency_at net.nodes a.to.0 / (84 * a.cost) + 1) o 0) found.1))

-- No more are inside that arrived by an arc than may be.
pub few_is : (relay : Relay) (net : Network) (streams : Streams) (calls : List Call) (arc : ℕ) (a : Arc) → Stands relay net streams calls → slice_get net.arcs arc ≡ Some a → length (of_arc arc (inside net streams calls)) ≤ latency_at net.nodes a.to.0 / (84 * a.cost) + 1
few_is relay net streams calls arc a s at =
    let found = slice_get-some relay.ingresses.items arc (omega (arith, slice_get_within net.arcs arc a at, s.count)) in
    let is = s.each arc a found.0 at found.1 in
    let long = ap length (s.queues arc ∙ queue_is relay.ingresses.items arc found.0 found.1) in
    omega (arith, long, length-map (of_arc arc (inside net streams calls)) waiting, (s.order arc found.0 found.1).within, is.capacity)
