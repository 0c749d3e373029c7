-- What lands at the end of an arc is what happens at the moment of its arrivals.
use Rattle.std.proofs.Common.{ℕ, suc, ◌≡◌, ◌≢◌, ◌+◌, ◌<◌, Bool, true, false, List, [], ◌∷◌, ◌++◌, length, take}
use Rattle.std.proofs.Common.{drop, refl, sym, ◌∙◌, ap, inl, inr, arith, subst, Option, Some, None, length-append}
use Rattle.std.specs.Prelude.{slice_get, if◌then◌else◌}
use Rattle.std.specs.List.{AllZip}
use Rattle.std.proofs.lemmas.Bool.{cases_lt}
use Rattle.std.proofs.lemmas.List.{append-nil}
use Rattle.std.proofs.lemmas.List.Elements.{filter_map-append}
use Rattle.pre_receive.specs.declared.receivers.Receiver.{Receiver}
use Rattle.pre_receive.specs.Receivers.{Stands}
use Rattle.pre_history.specs.Scenario.{Scenario, arc}
use Rattle.pre_history.specs.Moments.{Phase}
use Rattle.pre_history.specs.History.{Ended, History}
use Rattle.pre_history.specs.Selected.{ended_on, arrive_on}
use Rattle.pre_history.specs.Queries.{Ends, Arrivals}
use Rattle.pre_history.specs.Octets.{Air}
use Rattle.pre_history.specs.ArrivalResults.{Result}
use Rattle.pre_history.specs.Rules.{HappensIn, WithDelivery, arrival}
use Rattle.pre_history.specs.Legal.{Alias, ArrivesAsAlias, LegalBefore}
use Rattle.pre_history.proofs.ArrivalTurns.{one_arrival}
use Rattle.pre_history.proofs.Lists.{there, within, one_at, no_append}
use Rattle.pre_history.proofs.Making.{arrives_one, arrives_none}
use Rattle.pre_history.proofs.Placing.{phase_events}
use Rattle.pre_history.specs.Placed.{AllWithin}
use Rattle.pre_history.specs.Placed.{moment_of}
use Rattle.pre_laws.specs.Routed.{IsRouted}
use Rattle.pre_history.proofs.Cut.{at_within}
use Rattle.pre_incoming.specs.declared.incomings.Incoming.{Incoming}
use Rattle.pre_incoming.specs.declared.landings.Landed.{Landed}
use Rattle.pre_incoming.specs.declared.landings.Landed.TheVariants as landed
use Rattle.pre_incoming.specs.declared.landings.Landing.{Landing}
use Rattle.pre_incoming.specs.Flights.{OnWire, on_wire, IsWhole, HasRoom}
use Rattle.pre_incoming.specs.Arriving.{arrived, Comes, HasFront, IsNotDue}
use Rattle.pre_incoming.specs.Changes.{loses}
use Rattle.pre_incoming.specs.Landings.{GoesOn, IsGiven, IsNext, LandsAs, delivery, events, result_of}
use Rattle.pre_incoming.specs.Wires.{IsOnWire, Receives}
use Rattle.pre_incoming.proofs.Goings.{at_arrivals}
use Rattle.pre_incoming.proofs.NextOne.{end_ord, its_ord, air_is, with_it}
use Rattle.pre_incoming.proofs.OnAir.{zip_weaker, first_of, none_of, by_lists, air_front, still_on_wire}
use Rattle.pre_incoming.proofs.Telling.{no_ends}
use Rattle.pre_incoming.proofs.Verdicts.{IsVerdict, lost_one, by_answer}

-- a lost arrival leaves a receiver as it was
abbrev pub LostLaw : Type 0
LostLaw = (r : Receiver) (A : List (Option (List ℕ))) → Stands r A → Stands r (A ++ None ∷ [])

-- what was given and isn't an alias
as_landed : (w : Scenario) (h : History) (t a : ℕ) (x : Landing) (into : List ℕ) (new : Incoming) (g : Landed) → g ≢ landed.Alias → IsNext w h t a x → GoesOn w h t a (events w h t a x) new
    → IsGiven w h t a x.ord (take x.size into) g → LandsAs w h t a x into new g
as_landed w h t a x into new landed.Lost other next goes given = (next, goes, given)
as_landed w h t a x into new (landed.Frame f) other next goes given = (next, goes, given)
as_landed w h t a x into new landed.Lldp other next goes given = (next, goes, given)
as_landed w h t a x into new landed.Part other next goes given = (next, goes, given)
as_landed w h t a x into new landed.Verify other next goes given = (next, goes, given)
as_landed w h t a x into new landed.Respond other next goes given = (next, goes, given)
as_landed w h t a x into new landed.Nothing other next goes given = (next, goes, given)
as_landed w h t a x into new landed.Alias other next goes given = absurd (other refl)

module _ (w : Scenario) (h : History) (t a : ℕ) (a_lt : a < length w.net.arcs) (legal : LegalBefore w h (moment_of w t (Phase.arrivals a))) where
  abbrev k : ℕ
  k = length (Arrivals h a)

  -- ---- nothing is due

  later_by : (ps : List OnWire) → AllZip (IsOnWire w h a) ps (drop k (Ends h a)) → IsNotDue t ps → (e : Ended) → slice_get (Ends h a) k ≡ Some e → e.tick + (arc w a).delay ≢ t
  later_by [] all far e at due = let few = none_of (IsOnWire w h a) k (Ends h a) all in let some = within (Ends h a) k e at in absurd (omega (arith, few, some))
  later_by (p ∷ ps) all far e at due =
      let next = first_of (IsOnWire w h a) k p ps (Ends h a) all in
      let same : next.0 ≡ e = one_at (Ends h a) k next.0 e next.1 at in
      far (next.2.due ∙ (ap (λ (d : Ended). d.tick + (arc w a).delay) same ∙ due))

  nothing_happens : ((e : Ended) → slice_get (Ends h a) k ≡ Some e → e.tick + (arc w a).delay ≢ t) → HappensIn w h t (Phase.arrivals a) []
  nothing_happens later = elim (cases_lt k (length (Ends h a))) [
    | inl lt ↦ let e = there (Ends h a) k lt in arrives_one w h t a a_lt legal.0 [] e.0 e.1 (inr (later e.0 e.1, refl))
    | inr few ↦ arrives_none w h t a a_lt legal.0 few
  ]

  pub none_lands : (x : Incoming) → Receives w h a x → IsNotDue t (on_wire x.wire) → GoesOn w h t a [] x
  none_lands x is far =
      let later = later_by (on_wire x.wire) is.wire far in
      let happens = nothing_happens later in
      record {
        happens = happens;
        legal = at_arrivals w h [] t a a_lt legal happens (λ e at due alias. later e at due);
        receives = subst (λ (g : History). Receives w g a x) (sym (append-nil h)) is;
      }

  -- ---- one is due

  module _ (routed : IsRouted w) (p : OnWire) (old new : Incoming) (is : Receives w h a old) (wire : (on_wire old.wire) ≡ p ∷ (on_wire new.wire)) (whole : IsWhole new.wire)
      (room : HasRoom (arc w a).delay (arc w a).cost new.wire) (due : p.due.0 ≡ t) where
    next : (e : Ended) × (slice_get (Ends h a) k ≡ Some e) × IsOnWire w h a p e × AllZip (IsOnWire w h a) (on_wire new.wire) (drop (suc k) (Ends h a))
    next = first_of (IsOnWire w h a) k p (on_wire new.wire) (Ends h a) (subst (λ ps. AllZip (IsOnWire w h a) ps (drop k (Ends h a))) wire is.wire)

    due_now : next.0.tick + (arc w a).delay ≡ t
    due_now = sym next.2.due ∙ due

    number_is : (x : Landing) → x.ord ≡ p.ord → x.ord ≡ k
    number_is x ord = ord ∙ its_ord w (moment_of w t (Phase.arrivals a)) h legal.0 a a_lt next.0 p next.1 next.2

    goes_on : (x : Landing) → x.ord ≡ p.ord → IsVerdict w h t a p x.given → Stands new.receiver (take (suc k) (Air w h a)) → GoesOn w h t a (events w h t a x) new
    goes_on x ord verdict stands =
        subst (λ (fs : History). GoesOn w h t a fs new) (ap (λ i. arrival t a i (result_of x.given) ∷ delivery w h t a x.given) (sym (number_is x ord)))
        (record {
          happens = happens;
          legal = at_arrivals w h es t a a_lt legal happens (λ d at now alias. verdict.none alias);
          receives = by_lists w (h ++ es) a (suc k) (Ends h a) (take (suc k) (Air w h a)) new more
              (filter_map-append (ended_on a) h es ∙ no_append (Ends h a) (Ends es a) (no_ends w h t a a k x.given))
              (air_front w (moment_of w t (Phase.arrivals a)) (suc (moment_of w t (Phase.arrivals a))) h es legal.0 later a a_lt (suc k) (within (Ends h a) k next.0 next.1)) whole room stands
              (zip_weaker (IsOnWire w h a) (IsOnWire w (h ++ es) a) (still_on_wire w (moment_of w t (Phase.arrivals a))
              (suc (moment_of w t (Phase.arrivals a))) h es legal.0 later a a_lt) (on_wire new.wire) (drop (suc k) (Ends h a)) next.3);
        })
      where
        es : History
        es = arrival t a k (result_of x.given) ∷ delivery w h t a x.given

        both : Result (Air w h a) next.0.ord (result_of x.given) × WithDelivery w h t a next.0.ord (result_of x.given) es
        both = subst (λ i. Result (Air w h a) i (result_of x.given) × WithDelivery w h t a i (result_of x.given) es)
            (sym (end_ord w (moment_of w t (Phase.arrivals a)) h legal.0 a a_lt next.0 p next.1 next.2)) (verdict.result, verdict.events)

        happens : HappensIn w h t (Phase.arrivals a) es
        happens = arrives_one w h t a a_lt legal.0 es next.0 next.1 (inl (due_now, (result_of x.given, both.0, both.1)))

        later : AllWithin (length w.net.arcs) (moment_of w t (Phase.arrivals a)) (suc (moment_of w t (Phase.arrivals a))) es
        later = at_within (length w.net.arcs) (moment_of w t (Phase.arrivals a)) (suc (moment_of w t (Phase.arrivals a))) es (omega arith)
            (phase_events w h t (1 + length w.net.arcs + a) (Phase.arrivals a) es (a_lt, refl) happens)

        more : length (Arrivals (h ++ es) a) ≡ suc k
        more =
            let one = one_arrival w h es t a a_lt k (result_of x.given) es verdict.events in
            let all = ap length (filter_map-append (arrive_on a) h es ∙ ap (λ xs. Arrivals h a ++ xs) one) in
            let long = length-append (Arrivals h a) (record { tick = t; arc = a; ord = k; result = result_of x.given } ∷ []) in
            omega (arith, all, long)

    -- it is an alias
    stops : (x : Landing) → x.ord ≡ p.ord → Alias w h a k → ArrivesAsAlias w h t a x.ord
    stops x ord alias = subst (ArrivesAsAlias w h t a) (sym (number_is x ord)) (next.0, next.1, due_now, alias)

    pub one_lands : LostLaw → (x : Landing) (into : List ℕ) → x.ord ≡ p.ord → Comes w a p old.receiver new.receiver x.given → HasFront w a p (take x.size into) x.given
        → LandsAs w h t a x into new x.given
    one_lands lost_law x into ord comes front = go (loses w.script a p.ord) refl
      where
        finish : IsVerdict w h t a p x.given → Stands new.receiver (take (suc k) (Air w h a)) → LandsAs w h t a x into new x.given
        finish verdict stands =
            as_landed w h t a x into new x.given verdict.no_stop (record { place = number_is x ord; over = within (Ends h a) k next.0 next.1 }) (goes_on x ord verdict stands)
            (subst (λ i. IsGiven w h t a i (take x.size into) x.given) (sym (number_is x ord)) (verdict.known (take x.size into) front))

        on_air : (v : Bool) → loses w.script a p.ord ≡ v → slice_get (Air w h a) k ≡ Some (if v then None else Some (arrived w a p))
        on_air v test = air_is w (moment_of w t (Phase.arrivals a)) h legal.0 a a_lt next.0 p next.1 next.2 ∙ ap (λ (u : Bool). Some (if u then None else Some (arrived w a p))) test

        taken_to : (o : Option (List ℕ)) → slice_get (Air w h a) k ≡ Some o → (r : Receiver) → Stands r (take k (Air w h a) ++ o ∷ []) → Stands r (take (suc k) (Air w h a))
        taken_to o at r stands = subst (Stands r) (with_it w (moment_of w t (Phase.arrivals a)) h legal.0 a a_lt next.0 p next.1 next.2 o at) stands

        go : (v : Bool) → loses w.script a p.ord ≡ v → LandsAs w h t a x into new x.given
        go true test =
            let none = comes.lost test in
            let at = on_air true test in
            finish (subst (IsVerdict w h t a p) (sym none.0) (lost_one w routed (moment_of w t (Phase.arrivals a)) h legal.0 t a a_lt next.0 p next.1 next.2 at))
            (subst (λ (r : Receiver). Stands r (take (suc k) (Air w h a))) (sym none.1) (taken_to None at old.receiver (lost_law old.receiver (take k (Air w h a)) is.receiver)))
        go false test =
            let took = comes.took test (take k (Air w h a)) is.receiver in
            let at = on_air false test in
            elim (by_answer w routed (moment_of w t (Phase.arrivals a)) h legal.0 t a a_lt next.0 p next.1 next.2 (arrived w a p) at took.answer took.taken x.given took.judged) [
              | inl verdict ↦ finish verdict (taken_to (Some (arrived w a p)) at new.receiver took.stands)
              | inr (is_alias, alias) ↦ subst (LandsAs w h t a x into new) (sym is_alias) (stops x ord alias)
            ]
