-- What is delivered arrived then.
use Rattle.std.proofs.Common.{ℕ, zero, suc, ◌≡◌, ◌⊎◌, ◌+◌, ◌<◌, List, [], ◌∷◌, ◌++◌, length, refl, sym, ◌∙◌}
use Rattle.std.proofs.Common.{ap, inl, inr, arith, subst, append_assoc, Option, Some, None}
use Rattle.std.specs.Prelude.{slice_get, option_and_then}
use Rattle.std.proofs.lemmas.List.Elements.{filter_map-append}
use Rattle.pre_mpacket.specs.Arrivals.{Given, Gives}
use Rattle.pre_history.specs.declared.events.Outcome.{Outcome}
use Rattle.pre_history.specs.declared.events.Outcome.TheVariants as outcome
use Rattle.pre_history.specs.Scenario.{Scenario, arc}
use Rattle.pre_history.specs.Moments.{Phase, Moment, moment_at}
use Rattle.pre_history.specs.History.{PlainEvent, History, Begin, Ended, Arrive, Delivery}
use Rattle.pre_history.specs.Selected.{begin_on, arrive_on, frame_in}
use Rattle.pre_history.specs.Queries.{Begins, Ends, Arrivals}
use Rattle.pre_history.specs.Octets.{Air}
use Rattle.pre_history.specs.ArrivalResults.{Result}
use Rattle.pre_history.specs.Comings.{frame_at, next_arc}
use Rattle.pre_history.specs.Rules.{WithDelivery, delivered, arrival, HappensIn, Happens}
use Rattle.pre_history.specs.Placed.{number, IsAt, AllAt}
use Rattle.pre_history.specs.Legal.{LegalUpTo}
use Rattle.pre_history.proofs.Lists.{there, within, found_at, every_at, at_front}
use Rattle.pre_history.proofs.Moments.{moment_in, arrivals_place}
use Rattle.pre_history.proofs.Placing.{placed, moment_events}
use Rattle.pre_history.proofs.ArrivalTurns.{one_arrival, what_arrives}
use Rattle.pre_history.proofs.InOrder.{steady}
use Rattle.pre_history.specs.Cuts.{IsCutAt}
use Rattle.pre_history.specs.Read.{IsTold, IsFromArrival}
use Rattle.pre_history.proofs.Cut.{event_moment, following}
use Rattle.pre_history.proofs.AirStays.{gives_stays}

only_one : (t a i : ℕ) (r : Outcome) (es : List PlainEvent) (d : Delivery) → es ≡ arrival t a i r ∷ [] → IsTold es (PlainEvent.deliver d) → ⊥
only_one t a i r es d es_is (k, e, lt, at, is) = go k (ap (λ l. slice_get l k) (sym es_is) ∙ (found_at es k e lt at ∙ ap Some is))
  where
    go : (k : ℕ) → slice_get (arrival t a i r ∷ []) k ≡ Some (PlainEvent.deliver d) → ⊥
    go zero at = let no_way : arrival t a i r ≡ PlainEvent.deliver d = cc at in cc no_way
    go (suc k) at = cc at

-- what an arrival's events deliver
pub delivered_so : (w : Scenario) (h : History) (t a i : ℕ) (r : Outcome) (es : List PlainEvent) (d : Delivery) → WithDelivery w h t a i r es → IsTold es (PlainEvent.deliver d)
    → (r ≡ outcome.Frame) × (d.tick ≡ t) × (d.node ≡ (arc w a).to.0) × (frame_at h a i ≡ Some d.frame) × Gives (Air w h a) i (Given.frame d.octets) × (next_arc w a d.frame ≡ None)
delivered_so w h t a i outcome.Frame es d (f, octets, frame, gives, es_is) (k, e, lt, at, is) =
    go (next_arc w a f) refl k (ap (λ l. slice_get l k) (sym es_is) ∙ (found_at es k e lt at ∙ ap Some is))
  where
    go : (next : Option ℕ) → next_arc w a f ≡ next → (k : ℕ) → slice_get (arrival t a i outcome.Frame ∷ delivered t (arc w a).to.0 f octets (next_arc w a f)) k ≡ Some (PlainEvent.deliver d)
        → (outcome.Frame ≡ outcome.Frame) × (d.tick ≡ t) × (d.node ≡ (arc w a).to.0) × (frame_at h a i ≡ Some d.frame) × Gives (Air w h a) i (Given.frame d.octets) × (next_arc w a d.frame ≡ None)
    go next next_is zero at = absurd (let no_way : arrival t a i outcome.Frame ≡ PlainEvent.deliver d = cc at in cc no_way)
    go (Some b) next_is (suc k) at = absurd (let none : slice_get (delivered t (arc w a).to.0 f octets (Some b)) k ≡ Some (PlainEvent.deliver d) = ap (λ o. slice_get (delivered t (arc w a).to.0 f octets o) k) (sym next_is) ∙ at in cc none)
    go None next_is (suc (suc k)) at = absurd (let none : slice_get (delivered t (arc w a).to.0 f octets None) (suc k) ≡ Some (PlainEvent.deliver d) = ap (λ o. slice_get (delivered t (arc w a).to.0 f octets o) (suc k)) (sym next_is) ∙ at in cc none)
    go None next_is (suc zero) at =
        let made : Delivery = record { tick = t; node = (arc w a).to.0; frame = f; octets = octets } in
        let one : Some (PlainEvent.deliver made) ≡ Some (PlainEvent.deliver d) = ap (λ o. slice_get (delivered t (arc w a).to.0 f octets o) 0) (sym next_is) ∙ at in
        let same : made ≡ d = cc one in (
          refl,
          ap (λ (x : Delivery). x.tick) (sym same),
          ap (λ (x : Delivery). x.node) (sym same),
          subst (λ (x : Delivery). frame_at h a i ≡ Some x.frame) same frame,
          subst (λ (x : Delivery). Gives (Air w h a) i (Given.frame x.octets)) same gives,
          subst (λ (x : Delivery). next_arc w a x.frame ≡ None) same next_is,
        )
delivered_so w h t a i outcome.Lost es d es_is told = absurd (only_one t a i outcome.Lost es d es_is told)
delivered_so w h t a i outcome.Lldp es d es_is told = absurd (only_one t a i outcome.Lldp es d es_is told)
delivered_so w h t a i outcome.Part es d es_is told = absurd (only_one t a i outcome.Part es d es_is told)
delivered_so w h t a i outcome.Verify es d es_is told = absurd (only_one t a i outcome.Verify es d es_is told)
delivered_so w h t a i outcome.Respond es d es_is told = absurd (only_one t a i outcome.Respond es d es_is told)
delivered_so w h t a i outcome.Nothing es d es_is told = absurd (only_one t a i outcome.Nothing es d es_is told)

pub delivery_source : (w : Scenario) (n : ℕ) (h : History) (d : Delivery) → LegalUpTo w n h → IsTold h (PlainEvent.deliver d) → IsFromArrival w h d
delivery_source w n h d legal told = by_moment (event_moment w (λ e. e ≡ PlainEvent.deliver d) n h legal told)
  where
    by_moment : (m : ℕ) × (front : History) × (events : History) × (rest : History) × (m < n) × IsCutAt w m n h front events rest × IsTold events (PlainEvent.deliver d) → IsFromArrival w h d
    by_moment (m, front, events, rest, m_lt, c, here) = at_arc (deliver_at here)
      where
        at : AllAt (length w.net.arcs) m events
        at = moment_events w front m events c.happens

        deliver_at : IsTold events (PlainEvent.deliver d) → IsAt (length w.net.arcs) m (PlainEvent.deliver d)
        deliver_at (k, e, lt, here, is) = subst (IsAt (length w.net.arcs) m) is (every_at (IsAt (length w.net.arcs) m) events k e at (found_at events k e lt here))

        at_arc : IsAt (length w.net.arcs) m (PlainEvent.deliver d) → IsFromArrival w h d
        at_arc (a, a_lt, m_is) = go (what_arrives w front events d.tick a a_lt (omega (arith, a_lt)) (placed w p front legal_p) at_p (steady w p front a a_lt legal_p) happens_p)
          where
            p : ℕ
            p = number (length w.net.arcs) d.tick (1 + length w.net.arcs + a)

            moment_is : moment_at (length w.net.arcs) m ≡ record { tick = d.tick; phase = Phase.arrivals a }
            moment_is = ap (moment_at (length w.net.arcs)) m_is
                ∙ (moment_in (length w.net.arcs) d.tick (1 + length w.net.arcs + a) (omega (arith, a_lt)) ∙ ap (λ (p : Phase). record { tick = d.tick; phase = p }) (arrivals_place (length w.net.arcs) a a_lt))

            legal_p : LegalUpTo w (number (length w.net.arcs) d.tick (1 + length w.net.arcs + a)) front
            legal_p = subst (λ k. LegalUpTo w k front) m_is c.legal

            at_p : AllAt (length w.net.arcs) (number (length w.net.arcs) d.tick (1 + length w.net.arcs + a)) events
            at_p = subst (λ k. AllAt (length w.net.arcs) k events) m_is at

            happens_p : HappensIn w front d.tick (Phase.arrivals a) events
            happens_p = subst (λ (m : Moment). Happens w front m events) moment_is c.happens

            joined : h ≡ front ++ (events ++ rest)
            joined = c.joined ∙ append_assoc front events rest

            go : (events ≡ []) ⊎ ((e : Ended) × (slice_get (Ends front a) (length (Arrivals front a)) ≡ Some e) × (e.tick + (arc w a).delay ≡ d.tick) × ((r : Outcome) × Result (Air w front a) e.ord r × WithDelivery w front d.tick a e.ord r events)) → IsFromArrival w h d
            go (inl none) = absurd (let o : IsTold [] (PlainEvent.deliver d) = subst (λ (l : History). IsTold l (PlainEvent.deliver d)) none here in omega (arith, o.2))
            go (inr (e, at_e, due, (r, result, with'))) =
                let o = delivered_so w front d.tick a e.ord r events d with' here in
                let x : Arrive = record { tick = d.tick; arc = a; ord = e.ord; result = r } in
                let ord : e.ord ≡ length (Arrivals front a) = (steady w m front a a_lt c.legal).ordered.end_places (length (Arrivals front a)) e at_e in
                let e_lt : e.ord < length (Ends front a) = omega (arith, ord, within (Ends front a) (length (Arrivals front a)) e at_e) in
                let b = there (Begins front a) e.ord (omega (arith, e_lt, (steady w m front a a_lt c.legal).ordered.ends_begun)) in
                let begins : slice_get (Begins h a) e.ord ≡ slice_get (Begins front a) e.ord
                = ap (λ l. slice_get l e.ord) (ap (λ l. Begins l a) joined ∙ filter_map-append (begin_on a) front (events ++ rest)) ∙ (at_front (Begins front a) (Begins (events ++ rest) a) e.ord b.0 b.1 ∙ sym b.1) in
                let only : Arrivals events a ≡ x ∷ [] = one_arrival w front events d.tick a a_lt e.ord r events with' in
                let whole : Arrivals h a ≡ Arrivals front a ++ (x ∷ Arrivals rest a)
                = ap (λ l. Arrivals l a) joined ∙ (filter_map-append (arrive_on a) front (events ++ rest) ∙ ap (λ l. Arrivals front a ++ l) (filter_map-append (arrive_on a) events rest ∙ ap (λ l. l ++ Arrivals rest a) only)) in
                record {
                  arc_number = a;
                  ordinal = e.ord;
                  arrived = x;
                  known = a_lt;
                  arrival = ap (λ l. slice_get l e.ord) whole ∙ (ap (slice_get (Arrivals front a ++ (x ∷ Arrivals rest a))) ord ∙ next_at (Arrivals front a) (Arrivals rest a) x);
                  tick = refl;
                  result = o.0;
                  gives = subst (λ (l : History). Gives (Air w l a) e.ord (Given.frame d.octets)) (sym joined)
                      ((gives_stays w m n front (events ++ rest) c.legal (following w m n h front events rest m_lt c).later a a_lt e.ord e_lt (Given.frame d.octets)).1 o.4);
                  frame = ap (λ (y : Option Begin). option_and_then (λ b. frame_in b.what) y) begins ∙ o.3;
                  last_arc = o.5;
                  node = o.2;
                }
              where
                next_at : (xs ys : List Arrive) (x : Arrive) → slice_get (xs ++ (x ∷ ys)) (length xs) ≡ Some x
                next_at [] ys x = refl
                next_at (y ∷ xs) ys x = next_at xs ys x
