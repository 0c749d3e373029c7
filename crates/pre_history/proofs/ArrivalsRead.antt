-- What arrived on an arc did so with its result by the whole history, and was delivered where its route ends.
use Rattle.std.proofs.Common.{ℕ, zero, suc, ◌≡◌, ◌⊎◌, ◌+◌, ◌<◌, List, [], ◌∷◌, ◌++◌, length, refl, sym, ◌∙◌, ap, inl, inr, arith, subst, Option, Some, None}
use Rattle.std.specs.Prelude.{slice_get, option_and_then, Any}
use Rattle.std.proofs.lemmas.List.Elements.{filter_map-append}
use Rattle.pre_mpacket.specs.Arrivals.{Given, Gives}
use Rattle.pre_history.specs.declared.events.Outcome.{Outcome}
use Rattle.pre_history.specs.declared.events.Outcome.TheVariants as outcome
use Rattle.pre_history.specs.Scenario.{Scenario, arc}
use Rattle.pre_history.specs.Moments.{Phase}
use Rattle.pre_history.specs.History.{PlainEvent, History, Begin, Ended, Arrive}
use Rattle.pre_history.specs.Selected.{begin_on, arrive_on, frame_in}
use Rattle.pre_history.specs.Queries.{Begins, Ends, Arrivals}
use Rattle.pre_history.specs.Octets.{Air}
use Rattle.pre_history.specs.ArrivalResults.{Result}
use Rattle.pre_history.specs.Comings.{frame_at, next_arc}
use Rattle.pre_history.specs.Rules.{WithDelivery, delivered, arrival}
use Rattle.pre_history.specs.Placed.{number}
use Rattle.pre_history.specs.Legal.{LegalUpTo}
use Rattle.pre_history.proofs.Lists.{there, within, every_at, at_front, any_at, found_at}
use Rattle.pre_history.proofs.Moments.{arrivals_place}
use Rattle.pre_history.proofs.Placing.{placed}
use Rattle.pre_history.proofs.Free.{arrivals_before}
use Rattle.pre_history.proofs.ArrivalTurns.{one_arrival, what_arrives}
use Rattle.pre_history.proofs.Steady.{Steady}
use Rattle.pre_history.proofs.InOrder.{steady}
use Rattle.pre_history.specs.Read.{IsTold, HaveResults, AreDelivered}
use Rattle.pre_history.proofs.AirStays.{gives_stays, result_stays}
use Rattle.pre_history.proofs.Around.{Around, around, arrivals_within, split_three}
use Rattle.pre_history.proofs.Known.{one_given}

pub any_middle : {X : Type 0} (P : X → Type 0) (xs ys zs : List X) → Any P ys → Any P (xs ++ (ys ++ zs))
any_middle {X} P xs ys zs (k, y, lt, is, p) = go xs
  where
    go : (xs : List X) → Any P (xs ++ (ys ++ zs))
    go [] = any_at P (ys ++ zs) k y (at_front ys zs k y (found_at ys k y lt is)) p
    go (x ∷ xs) = let o = go xs in any_at P (x ∷ (xs ++ (ys ++ zs))) (suc o.0) o.1 (found_at (xs ++ (ys ++ zs)) o.0 o.1 o.2 o.3) o.4

module _ (w : Scenario) (n : ℕ) (h : History) (a : ℕ) (a_lt : a < length w.net.arcs) (legal : LegalUpTo w n h) (i : ℕ) (x : Arrive) (at : slice_get (Arrivals h a) i ≡ Some x) where
  here : Around w n h x.tick (1 + length w.net.arcs + a) (Phase.arrivals a)
  here =
      let y = every_at (λ (x : Arrive). (x.arc ≡ a) × (number (length w.net.arcs) x.tick (1 + length w.net.arcs + a) < n)) (Arrivals h a) i x (arrivals_before (length w.net.arcs) n a h (placed w n h legal)) at in
      around w n h x.tick (1 + length w.net.arcs + a) (Phase.arrivals a) (omega (arith, a_lt)) (arrivals_place (length w.net.arcs) a a_lt) y.1 legal

  module _ (o : Around w n h x.tick (1 + length w.net.arcs + a) (Phase.arrivals a)) where
    now : (j : ℕ) × (slice_get (Arrivals o.events a) j ≡ Some x)
    now = elim (split_three (arrive_on a) h o.front o.events o.rest o.joined i x at) [
      | inr (inl found) ↦ found
      | inl old ↦
          let y = every_at (λ (y : Arrive). (y.arc ≡ a) × (number (length w.net.arcs) y.tick (1 + length w.net.arcs + a) < number (length w.net.arcs) x.tick (1 + length w.net.arcs + a))) (Arrivals o.front a) i x
          (arrivals_before (length w.net.arcs) (number (length w.net.arcs) x.tick (1 + length w.net.arcs + a)) a o.front (placed w (number (length w.net.arcs) x.tick (1 + length w.net.arcs + a)) o.front o.legal)) old in
          absurd (omega (arith, y.1))
      | inr (inr new) ↦
          let y = arrivals_within (length w.net.arcs) (suc (number (length w.net.arcs) x.tick (1 + length w.net.arcs + a))) n a o.rest o.later new.0 x new.1 in
          absurd (omega (arith, y))
    ]

    -- what happened at its moment
    happened : (i < length (Ends o.front a)) × Result (Air w o.front a) i x.result × WithDelivery w o.front x.tick a i x.result o.events
    happened = go (what_arrives w o.front o.events x.tick a a_lt (omega (arith, a_lt)) (placed w (number (length w.net.arcs) x.tick (1 + length w.net.arcs + a)) o.front o.legal) o.at s o.happens)
      where
        s : Steady w (number (length w.net.arcs) x.tick (1 + length w.net.arcs + a)) o.front a
        s = steady w (number (length w.net.arcs) x.tick (1 + length w.net.arcs + a)) o.front a a_lt o.legal

        go : (o.events ≡ []) ⊎ ((e : Ended) × (slice_get (Ends o.front a) (length (Arrivals o.front a)) ≡ Some e) × (e.tick + (arc w a).delay ≡ x.tick) × ((r : Outcome) × Result (Air w o.front a) e.ord r × WithDelivery w o.front x.tick a e.ord r o.events))
            → (i < length (Ends o.front a)) × Result (Air w o.front a) i x.result × WithDelivery w o.front x.tick a i x.result o.events
        go (inl none) = absurd (let empty : slice_get (Arrivals [] a) now.0 ≡ Some x = subst (λ (l : History). slice_get (Arrivals l a) now.0 ≡ Some x) none now.1 in cc empty)
        go (inr (e, at_e, due, (r, result, with'))) =
            let only = one_arrival w o.front o.events x.tick a a_lt e.ord r o.events with' in
            let same = single (record { tick = x.tick; arc = a; ord = e.ord; result = r }) now.0 (ap (λ l. slice_get l now.0) (sym only) ∙ now.1) in
            let result_is : r ≡ x.result = ap (λ (y : Arrive). y.result) same in
            let ord_is : e.ord ≡ i = ap (λ (y : Arrive). y.ord) same ∙ (steady w n h a a_lt legal).ordered.arrival_places i x at in
            let place_is : e.ord ≡ length (Arrivals o.front a) = s.ordered.end_places (length (Arrivals o.front a)) e at_e in (
              omega (arith, within (Ends o.front a) (length (Arrivals o.front a)) e at_e, ord_is, place_is),
              subst (λ j. Result (Air w o.front a) j x.result) ord_is (subst (Result (Air w o.front a) e.ord) result_is result),
              subst (λ j. WithDelivery w o.front x.tick a j x.result o.events) ord_is (subst (λ y. WithDelivery w o.front x.tick a e.ord y o.events) result_is with'),
            )
          where
            single : (r : Arrive) (j : ℕ) → slice_get (r ∷ []) j ≡ Some x → r ≡ x
            single r zero at = cc at
            single r (suc j) at = absurd (cc at)

    result_by : Result (Air w h a) i x.result
    result_by =
        let f = happened in
        subst (λ (l : History). Result (Air w l a) i x.result) (sym o.joined)
        ((result_stays w (number (length w.net.arcs) x.tick (1 + length w.net.arcs + a)) n o.front (o.events ++ o.rest) o.legal o.follows a a_lt i f.0 x.result).1 f.1)

    delivered_by : (f : ℕ) (octets : List ℕ) → x.result ≡ outcome.Frame → Gives (Air w h a) i (Given.frame octets) → frame_at h a i ≡ Some f → next_arc w a f ≡ None
        → IsTold h (PlainEvent.deliver (record { tick = x.tick; node = (arc w a).to.0; frame = f; octets = octets }))
    delivered_by f octets is gives frame last' = subst (λ (l : History). IsTold l (PlainEvent.deliver (record { tick = x.tick; node = (arc w a).to.0; frame = f; octets = octets }))) (sym o.joined)
        (any_middle (λ e. e ≡ PlainEvent.deliver (record { tick = x.tick; node = (arc w a).to.0; frame = f; octets = octets })) o.front o.events o.rest
        (go (subst (λ r. WithDelivery w o.front x.tick a i r o.events) is happened.2)))
      where
        go : WithDelivery w o.front x.tick a i outcome.Frame o.events → IsTold o.events (PlainEvent.deliver (record { tick = x.tick; node = (arc w a).to.0; frame = f; octets = octets }))
        go (g, octets', frame', gives', es_is) =
            let b = there (Begins o.front a) i (omega (arith, happened.0, (steady w (number (length w.net.arcs) x.tick (1 + length w.net.arcs + a)) o.front a a_lt o.legal).ordered.ends_begun)) in
            let begins : slice_get (Begins h a) i ≡ slice_get (Begins o.front a) i
            = ap (λ l. slice_get l i) (ap (λ l. Begins l a) o.joined ∙ filter_map-append (begin_on a) o.front (o.events ++ o.rest)) ∙ (at_front (Begins o.front a) (Begins (o.events ++ o.rest) a) i b.0 b.1 ∙ sym b.1) in
            let frame_same : frame_at h a i ≡ frame_at o.front a i = ap (λ (y : Option Begin). option_and_then (λ b. frame_in b.what) y) begins in
            let f_is : g ≡ f = cc (sym frame' ∙ (sym frame_same ∙ frame)) in
            let old = (gives_stays w (number (length w.net.arcs) x.tick (1 + length w.net.arcs + a)) n o.front (o.events ++ o.rest) o.legal o.follows a a_lt i happened.0 (Given.frame octets)).0
            (subst (λ (l : History). Gives (Air w l a) i (Given.frame octets)) o.joined gives) in
            let given : Given.frame octets' ≡ Given.frame octets = one_given (Air w o.front a) i (Given.frame octets') (Given.frame octets) gives' old in
            let octets_is : octets' ≡ octets = cc given in
            let events_are : o.events ≡ arrival x.tick a i outcome.Frame ∷ delivered x.tick (arc w a).to.0 f octets None
            = es_is ∙ ap (λ l. arrival x.tick a i outcome.Frame ∷ l) (cc (ap (λ y. delivered x.tick (arc w a).to.0 y octets' (next_arc w a y)) f_is, ap (λ y. delivered x.tick (arc w a).to.0 f y (next_arc w a f)) octets_is, ap (delivered x.tick (arc w a).to.0 f octets) last')) in
            subst (λ (l : History). IsTold l (PlainEvent.deliver (record { tick = x.tick; node = (arc w a).to.0; frame = f; octets = octets }))) (sym events_are)
            (any_at (λ e. e ≡ PlainEvent.deliver (record { tick = x.tick; node = (arc w a).to.0; frame = f; octets = octets })) (arrival x.tick a i outcome.Frame ∷ delivered x.tick (arc w a).to.0 f octets None) 1
            (PlainEvent.deliver (record { tick = x.tick; node = (arc w a).to.0; frame = f; octets = octets })) refl refl)

pub results_read : (w : Scenario) (n : ℕ) (h : History) (a : ℕ) → a < length w.net.arcs → LegalUpTo w n h → HaveResults w h a
results_read w n h a a_lt legal i x at = result_by w n h a a_lt legal i x at (here w n h a a_lt legal i x at)

pub deliveries_read : (w : Scenario) (n : ℕ) (h : History) (a : ℕ) → a < length w.net.arcs → LegalUpTo w n h → AreDelivered w h a
deliveries_read w n h a a_lt legal i f x octets at is gives frame last' = delivered_by w n h a a_lt legal i x at (here w n h a a_lt legal i x at) f octets is gives frame last'
