-- Where no arrival is an alias, each delivery is of a frame of the script, with its octets, and no two are of one frame.
use Rattle.std.proofs.Common.{ℕ, zero, suc, ◌≡◌, ◌≢◌, ◌⊎◌, ◌==◌, ◌&&◌, ◌+◌, ◌/◌, ◌%◌, ◌<◌, ◌≤◌, Bool}
use Rattle.std.proofs.Common.{true, false, List, [], ◌∷◌, ◌++◌, length, refl, sym, ◌∙◌, ap, inl, inr, arith, subst, append_assoc, Option}
use Rattle.std.proofs.Common.{Some, None}
use Rattle.std.specs.Prelude.{if◌then◌else◌, slice_get, option_and_then, AllPairs}
use Rattle.std.specs.List.{AllByRecursion as Every}
use Rattle.std.proofs.lemmas.List.{append-nil}
use Rattle.std.proofs.lemmas.List.Elements.{filter_map-append, All-from_recursion, All-same}
use Rattle.pre_mpacket.specs.Arrivals.{Given}
use Rattle.pre_history.specs.declared.events.Outcome.{Outcome}
use Rattle.pre_history.specs.declared.events.Outcome.TheVariants as outcome
use Rattle.pre_history.specs.Scenario.{Scenario, arc, send, FrameOf}
use Rattle.pre_history.specs.Moments.{Phase, moments, phase_at}
use Rattle.pre_history.specs.History.{PlainEvent, History, Begin, Ended, Arrive, Delivery}
use Rattle.pre_history.specs.Selected.{begin_on, arrive_on, delivery_of, frame_in, is_frame_result}
use Rattle.pre_history.specs.Queries.{Begins, Ends, Arrivals, Deliveries}
use Rattle.pre_history.specs.Octets.{Air}
use Rattle.pre_history.specs.ArrivalResults.{Result}
use Rattle.pre_history.specs.Comings.{hops, frame_at, next_arc}
use Rattle.pre_history.specs.Rules.{HappensIn, EventsOf, WithDelivery, delivered, arrival}
use Rattle.pre_history.specs.Placed.{HasPlace, number, IsAt, AllAt}
use Rattle.pre_history.specs.Legal.{LegalUpTo, LegalBefore, Legal, CountLines, count_line, closing, last_moment}
use Rattle.pre_history.specs.Deliveries.{DeliversOnce}
use Rattle.pre_history.proofs.Lists.{within, at_front, at_last, any_at, every_at, every_placed, every_weaker, every_selected, none_selected}
use Rattle.pre_history.proofs.Pairs.{Pairs, all_pairs, pairs-append}
use Rattle.pre_history.proofs.Routes.{one_last}
use Rattle.pre_history.proofs.Placing.{placed, same_place, moment_events, place_at, place_below, numbered}
use Rattle.pre_history.proofs.ArrivalTurns.{one_arrival, what_arrives}
use Rattle.pre_history.proofs.InOrder.{steady}
use Rattle.pre_history.specs.Read.{IsTold, IsFromArrival}
use Rattle.pre_laws.specs.Routed.{IsRouted, IsOnRoute, ArrivesWhole}
use Rattle.pre_history.proofs.Known.{one_given}
use Rattle.pre_history.proofs.DeliveriesRead.{delivery_source, delivered_so}
use Rattle.pre_laws.proofs.FrameArrivals.{arrives_whole}
use Rattle.pre_laws.proofs.RunSteps.{right_at}
use Rattle.pre_laws.proofs.Once.{one_place}

abbrev pub OtherFrame : Delivery → Delivery → Type 0
OtherFrame d e = d.frame ≢ e.frame

-- what an mPacket carries doesn't change later
frame_later : (past es : History) (a i f : ℕ) → frame_at past a i ≡ Some f → frame_at (past ++ es) a i ≡ Some f
frame_later past es a i f is = go (slice_get (Begins past a) i) refl is
  where
    go : (o : Option Begin) → slice_get (Begins past a) i ≡ o → option_and_then (λ b. frame_in b.what) o ≡ Some f → frame_at (past ++ es) a i ≡ Some f
    go None at is = absurd (cc is)
    go (Some b) at is =
        let here : slice_get (Begins (past ++ es) a) i ≡ Some b = ap (λ l. slice_get l i) (filter_map-append (begin_on a) past es) ∙ at_front (Begins past a) (Begins es a) i b at in
        ap (λ (o : Option Begin). option_and_then (λ b. frame_in b.what) o) here ∙ is

arrival_later : (past es : History) (a i : ℕ) (x : Arrive) → slice_get (Arrivals past a) i ≡ Some x → slice_get (Arrivals (past ++ es) a) i ≡ Some x
arrival_later past es a i x at = ap (λ l. slice_get l i) (filter_map-append (arrive_on a) past es) ∙ at_front (Arrivals past a) (Arrivals es a) i x at

-- the events of an arrival deliver once at most
one_delivery : (w : Scenario) (past : History) (t a i : ℕ) (r : Outcome) (es : List PlainEvent) → WithDelivery w past t a i r es → (Deliveries es ≡ []) ⊎ ((d : Delivery) × (Deliveries es ≡ d ∷ []))
one_delivery w past t a i r es = by_test (is_frame_result r)
  where
    go : (f : ℕ) (octets : List ℕ) (next : Option ℕ) → es ≡ arrival t a i r ∷ delivered t (arc w a).to.0 f octets next → (Deliveries es ≡ []) ⊎ ((d : Delivery) × (Deliveries es ≡ d ∷ []))
    go f octets None is = inr (record { tick = t; node = (arc w a).to.0; frame = f; octets = octets }, ap Deliveries is)
    go f octets (Some b) is = inl (ap Deliveries is)

    by_test : (is_user : Bool) → EventsOf w past t is_user a i r es → (Deliveries es ≡ []) ⊎ ((d : Delivery) × (Deliveries es ≡ d ∷ []))
    by_test true (f, octets, frame, gives, is) = go f octets (next_arc w a f) is
    by_test false is = inl (ap Deliveries is)

no_delivery : (arcs t k : ℕ) → k < moments arcs → ((a : ℕ) → a < arcs → k ≢ 1 + arcs + a) → (e : PlainEvent) → IsAt arcs (number arcs t k) e → delivery_of e ≡ None
no_delivery arcs t k lt other (PlainEvent.deliver d) (a, a_lt, at) = absurd (other a a_lt (same_place arcs t d.tick k (1 + arcs + a) lt (omega (arith, a_lt)) at))
no_delivery arcs t k lt other (PlainEvent.enter e) at = refl
no_delivery arcs t k lt other (PlainEvent.dropped e) at = refl
no_delivery arcs t k lt other (PlainEvent.set s b v) at = refl
no_delivery arcs t k lt other (PlainEvent.begin b) at = refl
no_delivery arcs t k lt other (PlainEvent.ended e) at = refl
no_delivery arcs t k lt other (PlainEvent.arrive x) at = refl
no_delivery arcs t k lt other (PlainEvent.active s b v) at = refl
no_delivery arcs t k lt other (PlainEvent.count b c) at = refl
no_delivery arcs t k lt other (PlainEvent.end e) at = refl

-- a delivery that is selected stands in the history
told_each : (h : History) → Every (λ (d : Delivery). IsTold h (PlainEvent.deliver d)) (Deliveries h)
told_each h = every_selected delivery_of (λ e. IsTold h e) (λ d. IsTold h (PlainEvent.deliver d)) of h (every_placed (λ e. IsTold h e) h (λ i e at. any_at (λ x. x ≡ e) h i e at refl))
  where
    of : (e : PlainEvent) (d : Delivery) → IsTold h e → delivery_of e ≡ Some d → IsTold h (PlainEvent.deliver d)
    of (PlainEvent.deliver x) d told is = let same : x ≡ d = cc is in subst (λ (y : Delivery). IsTold h (PlainEvent.deliver y)) same told
    of (PlainEvent.enter e) d told is = absurd (cc is)
    of (PlainEvent.dropped e) d told is = absurd (cc is)
    of (PlainEvent.set s b v) d told is = absurd (cc is)
    of (PlainEvent.begin b) d told is = absurd (cc is)
    of (PlainEvent.ended e) d told is = absurd (cc is)
    of (PlainEvent.arrive x) d told is = absurd (cc is)
    of (PlainEvent.active s b v) d told is = absurd (cc is)
    of (PlainEvent.count b c) d told is = absurd (cc is)
    of (PlainEvent.end e) d told is = absurd (cc is)

module _ (w : Scenario) (routed : IsRouted w) (n : ℕ) (h : History) (legal : LegalBefore w h n) where
  -- the frame that an arrived mPacket carries is the one that it gives
  pub whole_at : (a i f : ℕ) (x : Arrive) → a < length w.net.arcs → slice_get (Arrivals h a) i ≡ Some x → x.result ≡ outcome.Frame → frame_at h a i ≡ Some f → ArrivesWhole w h a i f
  whole_at a i f x lt at is frame =
      let o = arrives_whole w n h legal a lt i x at is in
      let same : Some o.0 ≡ Some f = ap frame_in (sym o.1.carries) ∙ (ap (λ (y : Option Begin). option_and_then (λ b. frame_in b.what) y) (sym o.1.begun) ∙ frame) in
      subst (ArrivesWhole w h a i) (cc same) o.1

  on_route : (a i f : ℕ) → a < length w.net.arcs → (x : ArrivesWhole w h a i f) → IsOnRoute w a x.begin.tick f
  on_route a i f lt x = (right_at w routed n h legal.0 a lt i x.begin x.begun).on (record { 0 = f }) x.carries

  pub record IsRight (d : Delivery) : Type 0 where
    pub known : d.frame < length w.script.sends
    pub octets : d.octets ≡ FrameOf w d.frame
    pub sent : (send w d.frame).send.tick.0 ≤ d.tick

  from_right : (d : Delivery) → IsFromArrival w h d → IsRight d
  from_right d o =
      let x = whole_at o.arc_number o.ordinal d.frame o.arrived o.known o.arrival o.result o.frame in
      let on = on_route o.arc_number o.ordinal d.frame o.known x in
      let given : Given.frame d.octets ≡ Given.frame (FrameOf w d.frame) = one_given (Air w h o.arc_number) o.ordinal (Given.frame d.octets) (Given.frame (FrameOf w d.frame)) o.gives x.gives in
      let s = (steady w n h o.arc_number o.known legal.0).ordered in
      let span = s.spans o.ordinal x.begin x.ended x.begun x.over in
      let travel = s.travels o.ordinal x.ended o.arrived x.over o.arrival in
      let sent = on.sent in
      let tick = o.tick in
      record { known = on.known; octets = cc given; sent = omega (arith, sent, span, travel, tick) }

  each_right : Every IsRight (Deliveries h)
  each_right = every_weaker (λ (d : Delivery). IsTold h (PlainEvent.deliver d)) IsRight (λ d told. from_right d (delivery_source w n h d legal.0 told)) (Deliveries h) (told_each h)

  -- ---- no two are of one frame

  -- the last arc of a frame's route and its mPacket there are one
  one_end : (a b i j f : ℕ) → a < length w.net.arcs → b < length w.net.arcs → ArrivesWhole w h a i f → ArrivesWhole w h b j f → next_arc w a f ≡ None → next_arc w b f ≡ None → (a ≡ b) × (i ≡ j)
  one_end a b i j f lt lt' x y none none' =
      let same : a ≡ b = one_last (hops w f) a b (on_route a i f lt x).arc (on_route b j f lt' y).arc none none' in
      (same, one_place w routed n h legal b i j f lt' (subst (λ c. ArrivesWhole w h c i f) same x) y)

  module _ (past es rest : History) (joined : h ≡ (past ++ es) ++ rest) (t k : ℕ) (k_lt : k < moments (length w.net.arcs)) (legal' : LegalUpTo w (number (length w.net.arcs) t k) past)
      (at : AllAt (length w.net.arcs) (number (length w.net.arcs) t k) es) (old : Pairs OtherFrame (Deliveries past)) where
    none_new : Deliveries es ≡ [] → Pairs OtherFrame (Deliveries (past ++ es))
    none_new none = subst (Pairs OtherFrame) (sym (filter_map-append delivery_of past es ∙ (ap (λ l. Deliveries past ++ l) none ∙ append-nil (Deliveries past)))) old

    quiet : ((a : ℕ) → a < length w.net.arcs → k ≢ 1 + length w.net.arcs + a) → Pairs OtherFrame (Deliveries (past ++ es))
    quiet other = none_new (none_selected delivery_of es (every_weaker (IsAt (length w.net.arcs) (number (length w.net.arcs) t k)) (λ e. delivery_of e ≡ None) (no_delivery (length w.net.arcs) t k k_lt other) es at))

    to_h : (a i : ℕ) (x : Arrive) → slice_get (Arrivals (past ++ es) a) i ≡ Some x → slice_get (Arrivals h a) i ≡ Some x
    to_h a i x here = subst (λ (l : History). slice_get (Arrivals l a) i ≡ Some x) (sym joined) (arrival_later (past ++ es) rest a i x here)

    frame_h : (a i f : ℕ) → frame_at past a i ≡ Some f → frame_at h a i ≡ Some f
    frame_h a i f is = subst (λ (l : History). frame_at l a i ≡ Some f) (sym joined) (frame_later (past ++ es) rest a i f (frame_later past es a i f is))

    module _ (a : ℕ) (a_lt : a < length w.net.arcs) (e : Ended) (r : Outcome) (ord : e.ord ≡ length (Arrivals past a)) (with' : WithDelivery w past t a e.ord r es) where
      new_at : slice_get (Arrivals (past ++ es) a) e.ord ≡ Some (record { tick = t; arc = a; ord = e.ord; result = r })
      new_at =
          ap (λ l. slice_get l e.ord) (filter_map-append (arrive_on a) past es ∙ ap (λ l. Arrivals past a ++ l) (one_arrival w past es t a a_lt e.ord r es with'))
          ∙ (ap (slice_get (Arrivals past a ++ record { tick = t; arc = a; ord = e.ord; result = r } ∷ [])) ord ∙ at_last (Arrivals past a) (record { tick = t; arc = a; ord = e.ord; result = r }))

      fresh : (d x : Delivery) → IsTold es (PlainEvent.deliver d) → IsTold past (PlainEvent.deliver x) → OtherFrame x d
      fresh d x told told' same =
          let o = delivered_so w past t a e.ord r es d with' told in
          let y = delivery_source w (number (length w.net.arcs) t k) past x legal' told' in
          let new = whole_at a e.ord d.frame (record { tick = t; arc = a; ord = e.ord; result = r }) a_lt (to_h a e.ord (record { tick = t; arc = a; ord = e.ord; result = r }) new_at) o.0 (frame_h a e.ord d.frame o.3) in
          let before = whole_at y.arc_number y.ordinal x.frame y.arrived y.known (to_h y.arc_number y.ordinal y.arrived (arrival_later past es y.arc_number y.ordinal y.arrived y.arrival)) y.result (frame_h y.arc_number y.ordinal x.frame y.frame) in
          let one = one_end y.arc_number a y.ordinal e.ord d.frame y.known a_lt (subst (ArrivesWhole w h y.arc_number y.ordinal) same before) new (subst (λ f. next_arc w y.arc_number f ≡ None) same y.last_arc) o.5 in
          let lt = within (Arrivals past y.arc_number) y.ordinal y.arrived y.arrival in
          let lt' : y.ordinal < length (Arrivals past a) = subst (λ b. y.ordinal < length (Arrivals past b)) one.0 lt in
          omega (arith, lt', one.1, ord)

      with_new : Pairs OtherFrame (Deliveries (past ++ es))
      with_new = go (one_delivery w past t a e.ord r es with')
        where
          go : (Deliveries es ≡ []) ⊎ ((d : Delivery) × (Deliveries es ≡ d ∷ [])) → Pairs OtherFrame (Deliveries (past ++ es))
          go (inl none) = none_new none
          go (inr (d, one)) =
              let told : IsTold es (PlainEvent.deliver d) = every_at (λ (d : Delivery). IsTold es (PlainEvent.deliver d)) (Deliveries es) 0 d (told_each es) (ap (λ l. slice_get l 0) one) in
              subst (Pairs OtherFrame) (sym (filter_map-append delivery_of past es ∙ ap (λ l. Deliveries past ++ l) one))
              (pairs-append OtherFrame (Deliveries past) (d ∷ []) old (tt, tt)
              (every_weaker (λ (x : Delivery). IsTold past (PlainEvent.deliver x)) (λ x. Every (OtherFrame x) (d ∷ [])) (λ x told'. (fresh d x told told', tt)) (Deliveries past) (told_each past)))

    step : (f : Phase) → HasPlace (length w.net.arcs) k f → HappensIn w past t f es → Pairs OtherFrame (Deliveries (past ++ es))
    step Phase.sets place happens = quiet (λ b lt e. absurd (omega (arith, e, place)))
    step (Phase.ends c) (c_lt, place) happens = quiet (λ b lt e. absurd (omega (arith, e, place, c_lt)))
    step (Phase.expiries c) (c_lt, place) happens = quiet (λ b lt e. absurd (omega (arith, e, place, c_lt, lt)))
    step Phase.entries place happens = quiet (λ b lt e. absurd (omega (arith, e, place, lt)))
    step (Phase.starts c) (c_lt, place) happens = quiet (λ b lt e. absurd (omega (arith, e, place, lt)))
    step (Phase.arrivals a) (a_lt, place) happens = go (what_arrives w past es t a a_lt (omega (arith, a_lt)) (placed w (number (length w.net.arcs) t (1 + length w.net.arcs + a)) past legal'')
        (subst (λ k. AllAt (length w.net.arcs) (number (length w.net.arcs) t k) es) place at) (steady w (number (length w.net.arcs) t (1 + length w.net.arcs + a)) past a a_lt legal'') happens)
      where
        legal'' : LegalUpTo w (number (length w.net.arcs) t (1 + length w.net.arcs + a)) past
        legal'' = subst (λ k. LegalUpTo w (number (length w.net.arcs) t k) past) place legal'

        go : (es ≡ []) ⊎ ((e : Ended) × (slice_get (Ends past a) (length (Arrivals past a)) ≡ Some e) × (e.tick + (arc w a).delay ≡ t) × ((r : Outcome) × Result (Air w past a) e.ord r × WithDelivery w past t a e.ord r es))
            → Pairs OtherFrame (Deliveries (past ++ es))
        go (inl none) = none_new (ap Deliveries none)
        go (inr (e, at_e, due, (r, result, with'))) =
            with_new a a_lt e r ((steady w (number (length w.net.arcs) t (1 + length w.net.arcs + a)) past a a_lt legal'').ordered.end_places (length (Arrivals past a)) e at_e) with'

  pairs_upto : (m : ℕ) (front rest : History) → h ≡ front ++ rest → LegalUpTo w m front → Pairs OtherFrame (Deliveries front)
  pairs_upto zero front rest joined is = subst (λ (l : History). Pairs OtherFrame (Deliveries l)) (sym is) tt
  pairs_upto (suc m) front rest joined (past, es, is, before, happens) =
      let t = m / moments (length w.net.arcs) in
      let k = m % moments (length w.net.arcs) in
      let m_is : m ≡ number (length w.net.arcs) t k = numbered (length w.net.arcs) m in
      let whole : h ≡ (past ++ es) ++ rest = joined ∙ ap (λ l. l ++ rest) is in
      subst (λ (l : History). Pairs OtherFrame (Deliveries l)) (sym is)
      (step past es rest whole t k (place_below (length w.net.arcs) m) (subst (λ m. LegalUpTo w m past) m_is before) (subst (λ m. AllAt (length w.net.arcs) m es) m_is (moment_events w past m es happens))
      (pairs_upto m past (es ++ rest) (whole ∙ append_assoc past es rest) before) (phase_at (length w.net.arcs) k) (place_at (length w.net.arcs) m) happens)

  pub delivers_once : DeliversOnce w h
  delivers_once = record {
    known = All-from_recursion (λ (d : Delivery). d.frame < length w.script.sends) (Deliveries h) (every_weaker IsRight (λ d. d.frame < length w.script.sends) (λ d r. r.known) (Deliveries h) each_right);
    octets = All-from_recursion (λ (d : Delivery). d.octets ≡ FrameOf w d.frame) (Deliveries h) (every_weaker IsRight (λ d. d.octets ≡ FrameOf w d.frame) (λ d r. r.octets) (Deliveries h) each_right);
    sent = All-from_recursion (λ (d : Delivery). (send w d.frame).send.tick.0 ≤ d.tick) (Deliveries h) (every_weaker IsRight (λ d. (send w d.frame).send.tick.0 ≤ d.tick) (λ d r. r.sent) (Deliveries h) each_right);
    once = all_pairs OtherFrame (Deliveries h) (pairs_upto n h [] (sym (append-nil h)) legal.0);
  }

counts_deliver_none : (w : Scenario) (h : History) (a : ℕ) (es : History) → CountLines w h a es → Deliveries es ≡ []
counts_deliver_none w h zero es is = ap Deliveries is
counts_deliver_none w h (suc a) es (before, c, lines, counts, is) =
    ap Deliveries is ∙ (filter_map-append delivery_of before (count_line a c) ∙ (ap (λ xs. xs ++ Deliveries (count_line a c)) (counts_deliver_none w h a before lines)
    ∙ go ((c.err == 0) && (c.smd == 0) && (c.ok == 0) && (c.rx == 0) && (c.tx == 0))))
  where
    go : (b : Bool) → Deliveries (if b then [] else PlainEvent.count a c ∷ []) ≡ []
    go true = refl
    go false = refl

-- so it is with a whole history
pub whole_delivers_once : (w : Scenario) → IsRouted w → (h : History) → Legal w h → DeliversOnce w h
whole_delivers_once w routed h (body, counts, legal, lines, is) =
    let same : Deliveries h ≡ Deliveries body =
    ap Deliveries is ∙ (filter_map-append delivery_of (body ++ counts) (PlainEvent.end (closing w body) ∷ []) ∙ (append-nil (Deliveries (body ++ counts))
    ∙ (filter_map-append delivery_of body counts ∙ (ap (λ xs. Deliveries body ++ xs) (counts_deliver_none w body (length w.net.arcs) counts lines) ∙ append-nil (Deliveries body))))) in
    let so_far = delivers_once w routed (last_moment w) body legal in
    record {
      known = All-same (λ d. d.frame < length w.script.sends) (Deliveries h) (Deliveries body) same so_far.known;
      octets = All-same (λ d. d.octets ≡ FrameOf w d.frame) (Deliveries h) (Deliveries body) same so_far.octets;
      sent = All-same (λ d. (send w d.frame).send.tick.0 ≤ d.tick) (Deliveries h) (Deliveries body) same so_far.sent;
      once = subst (AllPairs (λ (d : Delivery) (e : Delivery). d.frame ≢ e.frame)) (sym same) so_far.once;
    }
