-- Each frame of an express priority comes to the end of its route within the bound of its stream.
use Rattle.std.proofs.Common.{ℕ, zero, suc, true, ◌≡◌, ◌≢◌, ◌+◌, ◌-◌, ◌*◌, ◌/◌, ◌%◌, ◌<◌, ◌≤◌, List}
use Rattle.std.proofs.Common.{[], ◌∷◌, length, map, refl, sym, ◌∙◌, ap, inl, inr, arith, subst, Option, Some, None, take, get_or}
use Rattle.std.specs.Prelude.{slice_get, sum_by, unwrap_or, option_and_then}
use Rattle.std.specs.Option.{option_map, option_map_or}
use Rattle.std.specs.List.{AllByRecursion as Every}
use Rattle.std.proofs.lemmas.Option.{slice_get-get_or}
use Rattle.std.proofs.lemmas.List.Sums.{sum_by-cons, sum_by-take-le}
use Rattle.pre_base.specs.declared.numbers.ArcId.{ArcId}
use Rattle.pre_topo.specs.declared.arcs.Arc.{Arc}
use Rattle.pre_topo.specs.Arcs.{latency_at}
use Rattle.pre_streams.specs.declared.rows.Row.{Row}
use Rattle.pre_history.specs.declared.events.Outcome.{Outcome}
use Rattle.pre_history.specs.declared.events.Outcome.TheVariants as outcome
use Rattle.pre_history.specs.declared.events.What.TheVariants as what
use Rattle.pre_history.specs.Scenario.{Scenario, FrameOf, IsExpressFrame, arc, row, send, no_arc}
use Rattle.pre_history.specs.Moments.{Phase, moments, phase_at}
use Rattle.pre_history.specs.History.{PlainEvent, History, Begin, Ended, Delivery}
use Rattle.pre_history.specs.Selected.{RingEntry, frame_in, delivery_of}
use Rattle.pre_history.specs.Queries.{Begins, Ends, Entries, Deliveries}
use Rattle.pre_history.specs.Octets.{whole_of}
use Rattle.pre_history.specs.Starts.{SizeOf}
use Rattle.pre_history.specs.Comings.{hops, next_arc, frame_at}
use Rattle.pre_history.specs.Rules.{HappensIn, Each, Arriving, WithDelivery, delivered}
use Rattle.pre_history.specs.Placed.{HasPlace, number, IsAt, AllAt}
use Rattle.pre_history.specs.Legal.{LegalUpTo}
use Rattle.pre_history.proofs.Lists.{there, within, every-append, every_at, every_placed, every_weaker, every_selected}
use Rattle.pre_history.proofs.Placing.{moment_events, place_at, place_below, numbered, same_place}
use Rattle.pre_history.proofs.Relays.{ComesBy, frame_in_is}
use Rattle.pre_history.proofs.Routes.{not_first}
use Rattle.pre_history.proofs.InOrder.{steady}
use Rattle.pre_bound.specs.Uses.{TakesAt, hop_of, is_stream, has_port, cost_at}
use Rattle.pre_bound.specs.Along.{hop_ticks}
use Rattle.pre_bound.specs.Values.{Values}
use Rattle.pre_bound.specs.Good.{AreGood}
use Rattle.pre_bound.proofs.Hops.{TakesAt-hop_of, TakesAt-place, TakesAt-from}
use Rattle.pre_laws.proofs.Fitting.{read_one}
use Rattle.pre_delay.specs.Ports.{stream_of, wire}
use Rattle.pre_delay.proofs.Port.{IsKnown}
use Rattle.pre_delay.specs.Runs.{IsRun}
use Rattle.pre_delay.proofs.Rings.{entries_came, front_of_ring}
use Rattle.pre_delay.proofs.Sent.{express_begins}
use Rattle.pre_delay.proofs.Once.{hop_before}
use Rattle.pre_laws.proofs.Once.{coming_to}
use Rattle.pre_delay.proofs.Known.{begun_high, known, routes, hop_within}
use Rattle.pre_delay.proofs.Bursts.{AllLeft, by_relay, taken_at}
use Rattle.pre_delay.proofs.OnePort.{rules, row_high, below, port_of, timely}
use Rattle.pre_delay.proofs.Network.{all_obey, port_obeys}

-- ---- an mPacket that ended

-- the entry and the begin of a whole frame that ended
record EndedFrom (w : Scenario) (h : History) (a f : ℕ) (e : Ended) : Type 0 where
  place : ℕ
  entry : RingEntry
  at : slice_get (Entries h a (row w f).prio) place ≡ Some entry
  same : entry.frame ≡ f
  entered : entry.entered ≡ true
  ord : ℕ
  begin : Begin
  begun : slice_get (Begins h a) ord ≡ Some begin
  carries : begin.what ≡ what.Frame (record { 0 = f })
  span : e.tick ≡ begin.tick + (arc w a).cost * (length (FrameOf w f) + 8)

ended_from : (w : Scenario) (n : ℕ) (h : History) → LegalUpTo w n h → (a k f : ℕ) (b : Begin) (e : Ended) → a < length w.net.arcs → (arc w a).express_from ≤ (row w f).prio → slice_get (Begins h a) k ≡ Some b → slice_get (Ends h a) k ≡ Some e
    → b.what ≡ what.Frame (record { 0 = f }) → EndedFrom w h a f e
ended_from w n h legal a k f b e lt high begun ended carries =
    let front = express_begins w n h a k b (record { 0 = f }) lt legal begun carries high in
    let fe = front_of_ring w n h a (row w f).prio b.tick f front.behind legal front.waits in
    let spans = (steady w n h a lt legal).ordered.spans k b e begun ended in
    let sized = (steady w n h a lt legal).sizes k b e begun ended in
    let size : e.size ≡ length (FrameOf w f) = subst (λ k. SizeOf w h k b e.size) front.kind sized ∙ ap (λ x. length (whole_of w h b x)) carries in
    let product : (arc w a).cost * (e.size + 8) ≡ (arc w a).cost * (length (FrameOf w f) + 8) = ap (λ k. (arc w a).cost * (k + 8)) size in
    record { place = fe.place; entry = fe.entry; at = fe.at; same = fe.is; entered = fe.waits.entered; ord = k; begin = b; begun = begun; carries = carries; span = omega (arith, spans, product) }

-- ---- sums over a route

take_more : {X : Type 0} (f : X → ℕ) (xs : List X) (j : ℕ) (x : X) → slice_get xs j ≡ Some x → sum_by f (take (suc j) xs) ≡ sum_by f (take j xs) + f x
take_more f [] j x at = absurd (cc at)
take_more {X} f (y ∷ xs) zero x at = let same : y ≡ x = cc at in let e = sum_by-cons f y [] in let v = ap f same in omega (arith, e, v)
take_more f (y ∷ xs) (suc j) x at =
    let rest = take_more f xs j x at in
    let one = sum_by-cons f y (take (suc j) xs) in
    let two = sum_by-cons f y (take j xs) in
    omega (arith, rest, one, two)

arc_at : (xs : List ArcId) (j a : ℕ) → option_map (λ x. x.0) (slice_get xs j) ≡ Some a → (x : ArcId) × (slice_get xs j ≡ Some x) × (x.0 ≡ a)
arc_at [] j a at = absurd (cc at)
arc_at (x ∷ xs) zero a at = (x, refl, cc at)
arc_at (x ∷ xs) (suc j) a at = arc_at xs j a at

module _ (w : Scenario) (v : Values) (run : IsRun w) (good : AreGood w.net w.streams.rows v) where
  pub ticks_to : Row → ℕ → ℕ
  ticks_to r j = sum_by (λ (a : ArcId). hop_ticks w.net a.0 (v.delay a.0 r.prio)) (take j r.arcs)

  abbrev pub of_hop : Row → ℕ → ℕ
  of_hop r a = latency_at w.net.nodes (arc w a).from.0 + (v.delay a r.prio - 12 * (arc w a).cost) + (arc w a).delay

  pub hop_more : (r : Row) (j a : ℕ) → TakesAt r j a → a < length w.net.arcs → ticks_to r (suc j) ≡ ticks_to r j + of_hop r a
  unfolding ticks_to
  hop_more r j a here lt =
      let x = arc_at r.arcs j a here in
      let one = take_more (λ (b : ArcId). hop_ticks w.net b.0 (v.delay b.0 r.prio)) r.arcs j x.0 x.1 in
      let two = ap (λ k. hop_ticks w.net k (v.delay k r.prio)) x.2 in
      let three = ap (λ o. option_map_or (λ (b : Arc). latency_at w.net.nodes b.from.0 + (v.delay a r.prio - 12 * b.cost) + b.delay) o 0) (slice_get-get_or w.net.arcs a no_arc lt) in
      omega (arith, one, two, three)

  pub hops_within : (i : ℕ) (r : Row) → slice_get w.streams.rows i ≡ Some r → is_stream r ≡ true → (j : ℕ) → ticks_to r j ≤ v.bound i
  unfolding ticks_to
  hops_within i r at stream j =
      let less = sum_by-take-le (λ (a : ArcId). hop_ticks w.net a.0 (v.delay a.0 r.prio)) r.arcs j in
      let bound = good.bound i r (record { row = at; express = stream }) in
      omega (arith, less, bound)

  -- an arc of a route leads to where the next one begins
  pub joined : (i : ℕ) (r : Row) → slice_get w.streams.rows i ≡ Some r → (j a b : ℕ) → TakesAt r j b → TakesAt r (suc j) a → (arc w b).to.0 ≡ (arc w a).from.0
  joined i r at j a b here next =
      let route = (rules w v run good i r at).route in
      let x = arc_at r.arcs j b here in
      let y = arc_at r.arcs (suc j) a next in
      let inside = within r.arcs (suc j) y.0 y.1 in
      let m = there r.route j (omega (arith, inside, route.hops)) in
      let n = there r.route (j + 1) (omega (arith, inside, route.hops)) in
      let e : suc j ≡ j + 1 = omega arith in
      let n' : slice_get r.route (suc j) ≡ Some n.0 = subst (λ k. slice_get r.route k ≡ Some n.0) (sym e) n.1 in
      let o = there r.route (suc j + 1) (omega (arith, inside, route.hops)) in
      let one = route.leads j x.0 m.0 n.0 x.1 m.1 n.1 in
      let two = route.leads (suc j) y.0 n.0 o.0 y.1 n' o.1 in
      let b_is : arc w b ≡ one.0 = read_one w.net.arcs b one.0 no_arc (subst (λ k. slice_get w.net.arcs k ≡ Some one.0) x.2 one.1) in
      let a_is : arc w a ≡ two.0 = read_one w.net.arcs a two.0 no_arc (subst (λ k. slice_get w.net.arcs k ≡ Some two.0) y.2 two.1) in
      ap (λ (z : Arc). z.to.0) b_is ∙ (ap (λ z. z.0) (one.3 ∙ sym two.2) ∙ ap (λ (z : Arc). z.from.0) (sym a_is))

  cost_of : (a : ℕ) → a < length w.net.arcs → cost_at w.net a ≡ (arc w a).cost
  cost_of a lt = ap (λ o. option_map_or (λ (x : Arc). x.cost) o 0) (slice_get-get_or w.net.arcs a no_arc lt)

  module _ (n : ℕ) (h : History) (legal : LegalUpTo w n h) where
    -- what began has left within the delay
    left_by : (a p : ℕ) → has_port w.streams.rows a p ≡ true → AllLeft w h a p (v.delay a p)
    left_by a p has j y at on k g there' carries =
        let times = timely w v run good a p has n h (n / moments (length w.net.arcs)) (n % moments (length w.net.arcs)) (place_below (length w.net.arcs) n) (numbered (length w.net.arcs) n) legal (port_obeys w v run good h a p (all_obey w v run good n h legal)) in
        (times.begun_in_time j y at).left k g there' carries

    module _ (i : ℕ) (r : Row) (at : slice_get w.streams.rows i ≡ Some r) (stream : is_stream r ≡ true) (f : ℕ) (is : row w f ≡ r) where
      high : (j a : ℕ) → TakesAt r j a → (arc w a).express_from ≤ r.prio
      high j a here = row_high w v run good i r at stream j a here

      left_at : (j a : ℕ) → TakesAt r j a → AllLeft w h a r.prio (v.delay a r.prio)
      left_at j a here =
          left_by a r.prio (port_of w v run good i r at stream j a here)

      pub delay_least : (j a : ℕ) → TakesAt r j a → 84 * (arc w a).cost ≤ v.delay a r.prio
      delay_least j a here =
          let lt = hop_within w run r (rules w v run good i r at) j a here in
          let d = good.delay a r.prio lt (below w v run good i r at) (port_of w v run good i r at stream j a here) in
          subst (λ c. 84 * c ≤ v.delay a r.prio) (cost_of a lt) d.frame

      -- a frame comes to a hop within the ticks of the hops before
      pub entry_by : (j a k : ℕ) (x : RingEntry) → TakesAt r j a → slice_get (Entries h a r.prio) k ≡ Some x → x.frame ≡ f → x.tick ≤ (send w f).send.tick.0 + ticks_to r j + latency_at w.net.nodes (arc w a).from.0
      entry_by zero a k x here at' same =
          let by = every_at (λ (y : RingEntry). ComesBy w h y.tick (coming_to a y.frame)) (Entries h a r.prio) k x (entries_came w n h a r.prio legal) at' in
          elim by [
            | inl s ↦ let now : (send w f).send.tick.0 ≡ x.tick = ap (λ g. (send w g).send.tick.0) (sym same) ∙ s.now in omega (arith, now)
            | inr (b, lt, q) ↦
                let row_is : row w x.frame ≡ r = ap (row w) same ∙ is in
                let front : slice_get (hops w x.frame) 0 ≡ Some a = subst (λ (y : Row). slice_get (map (λ (z : ArcId). z.0) y.arcs) 0 ≡ Some a) (sym row_is) (taken_at r.arcs 0 a here) in
                absurd (not_first (hops w x.frame) (routes w run x.frame) b (q.next ∙ ap Some (ap (λ o. unwrap_or o 0) (sym front))))
          ]
      entry_by (suc j) a k x here at' same =
          let by = every_at (λ (y : RingEntry). ComesBy w h y.tick (coming_to a y.frame)) (Entries h a r.prio) k x (entries_came w n h a r.prio legal) at' in
          let row_is : row w x.frame ≡ r = ap (row w) same ∙ is in
          let prio : (row w x.frame).prio ≡ r.prio = ap (λ (y : Row). y.prio) row_is in
          let place = TakesAt-place r (suc j) a here in
          let b = (get_or r.arcs j (record { 0 = 0 })).0 in
          let before : TakesAt r j b = TakesAt-from r j (record { 0 = 0 }) (omega (arith, place.0)) in
          let next : TakesAt r (j + 1) a = let e : suc j ≡ j + 1 = omega arith in subst (λ m. TakesAt r m a) e here in
          let lt = hop_within w run r (rules w v run good i r at) j b before in
          let relay = by_relay w n h legal (routes w run) a b i j r at before next x row_is by in
          let o = hop_before w n h legal (routes w run) x.tick b (coming_to a x.frame) lt (let up = high j b before in omega (arith, prio, up)) relay in
          let there' : slice_get (Entries h b r.prio) o.place ≡ Some o.entry = subst (λ p. slice_get (Entries h b p) o.place ≡ Some o.entry) prio o.at in
          let out = left_at j b before o.place o.entry there' o.entered o.ord o.begin o.begun (o.carries ∙ ap (λ f. what.Frame (record { 0 = f })) (sym o.same)) in
          let first = entry_by j b o.place o.entry before there' (o.same ∙ same) in
          let cost : (arc w b).cost * wire w o.entry ≡ (arc w b).cost * (length (FrameOf w x.frame) + 20) = ap (λ g. (arc w b).cost * (length (FrameOf w g) + 20)) o.same in
          let spread : (arc w b).cost * (length (FrameOf w x.frame) + 20) ≡ (arc w b).cost * (length (FrameOf w x.frame) + 8) + 12 * (arc w b).cost = omega arith in
          let more = hop_more r j b before lt in
          let meet = ap (latency_at w.net.nodes) (joined i r at j a b before here) in
          let least = delay_least j b before in
          omega (arith, o.comes, out, first, cost, spread, more, meet, least)

      -- and to the far end of it
      pub end_ticks : (j a k : ℕ) (b : Begin) (e : Ended) → TakesAt r j a → slice_get (Begins h a) k ≡ Some b → slice_get (Ends h a) k ≡ Some e → b.what ≡ what.Frame (record { 0 = f }) → e.tick + (arc w a).delay ≤ (send w f).send.tick.0 + ticks_to r (suc j)
      end_ticks j a k b e here begun ended carries =
          let lt = hop_within w run r (rules w v run good i r at) j a here in
          let prio : (row w f).prio ≡ r.prio = ap (λ (y : Row). y.prio) is in
          let o = ended_from w n h legal a k f b e lt (let up = high j a here in omega (arith, prio, up)) begun ended carries in
          let there' : slice_get (Entries h a r.prio) o.place ≡ Some o.entry = subst (λ p. slice_get (Entries h a p) o.place ≡ Some o.entry) prio o.at in
          let out = left_at j a here o.place o.entry there' o.entered o.ord o.begin o.begun (o.carries ∙ ap (λ f. what.Frame (record { 0 = f })) (sym o.same)) in
          let first = entry_by j a o.place o.entry here there' o.same in
          let cost : (arc w a).cost * wire w o.entry ≡ (arc w a).cost * (length (FrameOf w f) + 20) = ap (λ g. (arc w a).cost * (length (FrameOf w g) + 20)) o.same in
          let spread : (arc w a).cost * (length (FrameOf w f) + 20) ≡ (arc w a).cost * (length (FrameOf w f) + 8) + 12 * (arc w a).cost = omega arith in
          let more = hop_more r j a here lt in
          let least = delay_least j a here in
          omega (arith, o.span, out, first, cost, spread, more, least)

      end_by : (j a k : ℕ) (b : Begin) (e : Ended) → TakesAt r j a → slice_get (Begins h a) k ≡ Some b → slice_get (Ends h a) k ≡ Some e → b.what ≡ what.Frame (record { 0 = f }) → e.tick + (arc w a).delay ≤ (send w f).send.tick.0 + v.bound i
      end_by j a k b e here begun ended carries = let one = end_ticks j a k b e here begun ended carries in let all = hops_within i r at stream (suc j) in omega (arith, one, all)

    -- Each frame of an express priority that ended on an arc is at its far end within the bound.
    pub ends_in_bound : (a k f : ℕ) (b : Begin) (e : Ended) → a < length w.net.arcs → (arc w a).express_from ≤ (row w f).prio → slice_get (Begins h a) k ≡ Some b → slice_get (Ends h a) k ≡ Some e → b.what ≡ what.Frame (record { 0 = f })
        → e.tick + (arc w a).delay ≤ (send w f).send.tick.0 + v.bound (stream_of w f)
    ends_in_bound a k f b e lt high begun ended carries =
        let o = ended_from w n h legal a k f b e lt high begun ended carries in
        let k' = every_at (λ (x : RingEntry). IsKnown w a x.frame) (Entries h a (row w f).prio) o.place o.entry (known w run n h legal a (row w f).prio) o.at in
        let kf : IsKnown w a f = subst (IsKnown w a) o.same k' in
        end_by (stream_of w f) (row w f) kf.listed (kf.stream high) f refl (hop_of a (row w f)) a k b e (TakesAt-hop_of (row w f) a kf.takes) begun ended carries

  -- ---- deliveries

  abbrev InBound : PlainEvent → Type 0
  InBound (PlainEvent.deliver d) = IsExpressFrame w d.frame → d.tick ≤ (send w d.frame).send.tick.0 + v.bound (stream_of w d.frame)
  InBound (PlainEvent.set t a x) = Unit {0}
  InBound (PlainEvent.begin b) = Unit {0}
  InBound (PlainEvent.ended e) = Unit {0}
  InBound (PlainEvent.arrive x) = Unit {0}
  InBound (PlainEvent.active t a x) = Unit {0}
  InBound (PlainEvent.enter e) = Unit {0}
  InBound (PlainEvent.dropped e) = Unit {0}
  InBound (PlainEvent.count a c) = Unit {0}
  InBound (PlainEvent.end e) = Unit {0}

  no_delivery : (arcs t k : ℕ) → k < moments arcs → ((a : ℕ) → a < arcs → k ≢ 1 + arcs + a) → (e : PlainEvent) → IsAt arcs (number arcs t k) e → InBound e
  no_delivery arcs t k lt other (PlainEvent.deliver d) (a, a_lt, at) = absurd (other a a_lt (same_place arcs t d.tick k (1 + arcs + a) lt (omega (arith, a_lt)) at))
  no_delivery arcs t k lt other (PlainEvent.set s a x) at = tt
  no_delivery arcs t k lt other (PlainEvent.begin b) at = tt
  no_delivery arcs t k lt other (PlainEvent.ended e) at = tt
  no_delivery arcs t k lt other (PlainEvent.arrive x) at = tt
  no_delivery arcs t k lt other (PlainEvent.active s a x) at = tt
  no_delivery arcs t k lt other (PlainEvent.enter e) at = tt
  no_delivery arcs t k lt other (PlainEvent.dropped e) at = tt
  no_delivery arcs t k lt other (PlainEvent.count a c) at = tt
  no_delivery arcs t k lt other (PlainEvent.end e) at = tt

  each_soon : {X : Type 0} (R : X → History → Type 0) (xs : List X) (es : History) → Every (λ x. (fs : History) → R x fs → Every InBound fs) xs → Each R xs es → Every InBound es
  each_soon R [] es says is = subst (Every InBound) (sym is) tt
  each_soon R (x ∷ xs) es says (front, rest, now, more, is) = subst (Every InBound) (sym is) (every-append InBound front rest (says.0 front now) (each_soon R xs rest says.1 more))

  module _ (t a : ℕ) (past : History) (lt : a < length w.net.arcs) (legal : LegalUpTo w (number (length w.net.arcs) t (1 + length w.net.arcs + a)) past) where
    carried_at : (i f : ℕ) → frame_at past a i ≡ Some f → (b : Begin) × (slice_get (Begins past a) i ≡ Some b) × (b.what ≡ what.Frame (record { 0 = f }))
    carried_at i f is = go (slice_get (Begins past a) i) refl is
      where
        go : (o : Option Begin) → slice_get (Begins past a) i ≡ o → option_and_then (λ b. frame_in b.what) o ≡ Some f → (b : Begin) × (slice_get (Begins past a) i ≡ Some b) × (b.what ≡ what.Frame (record { 0 = f }))
        go None at is = absurd (cc is)
        go (Some b) at is = (b, at, frame_in_is b.what f is)

    delivered_soon : (node f : ℕ) (octets : List ℕ) (next : Option ℕ) → (IsExpressFrame w f → t ≤ (send w f).send.tick.0 + v.bound (stream_of w f)) → Every InBound (delivered t node f octets next)
    delivered_soon node f octets None soon = (soon, tt)
    delivered_soon node f octets (Some b) soon = tt

    with_delivery : (k : ℕ) (e : Ended) → slice_get (Ends past a) k ≡ Some e → e.tick + (arc w a).delay ≡ t → (result : Outcome) (es : History) → WithDelivery w past t a e.ord result es → Every InBound es
    with_delivery k e at due outcome.Frame es (f, octets, carried, gives, is) =
        let o = (steady w (number (length w.net.arcs) t (1 + length w.net.arcs + a)) past a lt legal).ordered in
        let ord : e.ord ≡ k = o.end_places k e at in
        let b = carried_at k f (subst (λ i. frame_at past a i ≡ Some f) ord carried) in
        subst (Every InBound) (sym is) (
          tt,
          delivered_soon (arc w a).to.0 f octets (next_arc w a f)
              (λ stream. let high = begun_high w run (number (length w.net.arcs) t (1 + length w.net.arcs + a)) past legal a k b.0 (record { 0 = f }) b.1 b.2 stream in let x = ends_in_bound (number (length w.net.arcs) t (1 + length w.net.arcs + a)) past legal a k f b.0 e lt high b.1 at b.2 in omega (arith, x, due)),
        )
    with_delivery k e at due outcome.Lost es is = subst (Every InBound) (sym is) (tt, tt)
    with_delivery k e at due outcome.Part es is = subst (Every InBound) (sym is) (tt, tt)
    with_delivery k e at due outcome.Verify es is = subst (Every InBound) (sym is) (tt, tt)
    with_delivery k e at due outcome.Respond es is = subst (Every InBound) (sym is) (tt, tt)
    with_delivery k e at due outcome.Lldp es is = subst (Every InBound) (sym is) (tt, tt)
    with_delivery k e at due outcome.Nothing es is = subst (Every InBound) (sym is) (tt, tt)

    arriving : (k : ℕ) (e : Ended) → slice_get (Ends past a) k ≡ Some e → (fs : History) → Arriving w past t a e fs → Every InBound fs
    arriving k e at fs (inl (due, (result, gives, more))) = with_delivery k e at due result fs more
    arriving k e at fs (inr (other, is)) = subst (Every InBound) (sym is) tt

    arrivals_soon : (es : History) → Each (Arriving w past t a) (Ends past a) es → Every InBound es
    arrivals_soon es each = each_soon (Arriving w past t a) (Ends past a) es (every_placed (λ e. (fs : History) → Arriving w past t a e fs → Every InBound fs) (Ends past a) arriving) each

  module _ (past es : History) (t k : ℕ) (k_lt : k < moments (length w.net.arcs)) (at : AllAt (length w.net.arcs) (number (length w.net.arcs) t k) es) (legal : LegalUpTo w (number (length w.net.arcs) t k) past) where
    none : ((a : ℕ) → a < length w.net.arcs → k ≢ 1 + length w.net.arcs + a) → Every InBound es
    none other = every_weaker (IsAt (length w.net.arcs) (number (length w.net.arcs) t k)) InBound (no_delivery (length w.net.arcs) t k k_lt other) es at

    phase_soon : (p : Phase) → HasPlace (length w.net.arcs) k p → HappensIn w past t p es → Every InBound es
    unfolding HappensIn
    phase_soon Phase.sets place is = none (λ a lt e. absurd (omega (arith, e, place)))
    phase_soon (Phase.ends b) (b_lt, place) is = none (λ a lt e. absurd (omega (arith, e, place, b_lt)))
    phase_soon (Phase.arrivals b) (b_lt, place) is = arrivals_soon t b past b_lt (subst (λ m. LegalUpTo w (number (length w.net.arcs) t m) past) place legal) es is
    phase_soon (Phase.expiries b) (b_lt, place) is = none (λ a lt e. absurd (omega (arith, e, place, lt)))
    phase_soon Phase.entries place is = none (λ a lt e. absurd (omega (arith, e, place, lt)))
    phase_soon (Phase.starts b) (b_lt, place) is = none (λ a lt e. absurd (omega (arith, e, place, lt)))

  all_soon : (n : ℕ) (h : History) → LegalUpTo w n h → Every InBound h
  all_soon zero h is = subst (Every InBound) (sym is) tt
  all_soon (suc n) h (past, es, is, legal, happens) =
      let A = length w.net.arcs in
      let t = n / moments A in
      let k = n % moments A in
      let n_is : n ≡ number A t k = numbered A n in
      subst (Every InBound) (sym is) (every-append InBound past es (all_soon n past legal)
      (phase_soon past es t k (place_below A n) (subst (λ m. AllAt A m es) n_is (moment_events w past n es happens)) (subst (λ m. LegalUpTo w m past) n_is legal) (phase_at A k) (place_at A n) happens))

  delivery_soon : (e : PlainEvent) (d : Delivery) → InBound e → delivery_of e ≡ Some d → IsExpressFrame w d.frame → d.tick ≤ (send w d.frame).send.tick.0 + v.bound (stream_of w d.frame)
  delivery_soon (PlainEvent.deliver c) d soon is =
      let same : c ≡ d = cc is in
      subst (λ (x : Delivery). IsExpressFrame w x.frame → x.tick ≤ (send w x.frame).send.tick.0 + v.bound (stream_of w x.frame)) same soon
  delivery_soon (PlainEvent.set s a x) d soon is = absurd (cc is)
  delivery_soon (PlainEvent.begin b) d soon is = absurd (cc is)
  delivery_soon (PlainEvent.ended e) d soon is = absurd (cc is)
  delivery_soon (PlainEvent.arrive x) d soon is = absurd (cc is)
  delivery_soon (PlainEvent.active s a x) d soon is = absurd (cc is)
  delivery_soon (PlainEvent.enter e) d soon is = absurd (cc is)
  delivery_soon (PlainEvent.dropped e) d soon is = absurd (cc is)
  delivery_soon (PlainEvent.count a c) d soon is = absurd (cc is)
  delivery_soon (PlainEvent.end e) d soon is = absurd (cc is)

  -- Each delivered frame of an express priority was sent at most its stream's bound before.
  pub deliveries_in_bound : (n : ℕ) (h : History) → LegalUpTo w n h → (j : ℕ) (d : Delivery) → slice_get (Deliveries h) j ≡ Some d → IsExpressFrame w d.frame
      → d.tick ≤ (send w d.frame).send.tick.0 + v.bound (stream_of w d.frame)
  deliveries_in_bound n h legal j d at =
      every_at (λ (x : Delivery). IsExpressFrame w x.frame → x.tick ≤ (send w x.frame).send.tick.0 + v.bound (stream_of w x.frame)) (Deliveries h) j d
      (every_selected delivery_of InBound (λ (x : Delivery). IsExpressFrame w x.frame → x.tick ≤ (send w x.frame).send.tick.0 + v.bound (stream_of w x.frame)) delivery_soon h (all_soon n h legal)) at
