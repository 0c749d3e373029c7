-- What a landing comes to is the result of the arrival, or the arrival is an alias.
use Rattle.std.proofs.Common.{ℕ, ◌≡◌, ◌≢◌, ◌⊎◌, ◌<◌, Bool, true, false, List, [], ◌∷◌, ◌++◌, length, take, refl, sym, ◌∙◌, ap, inl, inr, subst, Option, Some}
use Rattle.std.specs.Prelude.{slice_get, if◌then◌else◌, option_and_then}
use Rattle.pre_mpacket.specs.declared.packets.Kind.TheVariants as kind
use Rattle.pre_mpacket.specs.Arrivals.{Given, Gives, GivesNothing, IsLost}
use Rattle.pre_lldp.specs.LldpLayout.{is_lldp_frame}
use Rattle.pre_receive.specs.Takings.{Taking, gave, gave_nothing, IsTaken}
use Rattle.pre_history.specs.declared.events.What.{What}
use Rattle.pre_history.specs.declared.events.What.TheVariants as what
use Rattle.pre_history.specs.declared.events.Outcome.TheVariants as outcome
use Rattle.pre_history.specs.Scenario.{Scenario, FrameOf, arc}
use Rattle.pre_history.specs.History.{Begin, Ended, History}
use Rattle.pre_history.specs.Selected.{frame_in}
use Rattle.pre_history.specs.Queries.{Begins, Ends, Arrivals}
use Rattle.pre_history.specs.Octets.{Air, WholeOf, whole_of, AdvertAt}
use Rattle.pre_history.specs.ArrivalResults.{Result}
use Rattle.pre_history.specs.Comings.{frame_at}
use Rattle.pre_history.specs.Rules.{WithDelivery, arrival}
use Rattle.pre_history.specs.Legal.{Alias, IsOfKind, IsLastOf, LegalUpTo}
use Rattle.pre_history.proofs.Arrived.{lost_gives_nothing}
use Rattle.pre_history.proofs.Undamaged.{user_frame}
use Rattle.pre_laws.specs.Routed.{IsRouted}
use Rattle.pre_history.proofs.Aliases.{IsLastBy, kind_is, last_is}
use Rattle.pre_history.proofs.Known.{one_given, sent_lldp}
use Rattle.pre_incoming.specs.Flights.{OnWire}
use Rattle.pre_incoming.specs.declared.landings.Landed.{Landed}
use Rattle.pre_incoming.specs.declared.landings.Landed.TheVariants as landed
use Rattle.pre_incoming.specs.Arriving.{HasFront}
use Rattle.pre_incoming.specs.Judging.{Judged, carried, expected}
use Rattle.pre_incoming.specs.Landings.{result_of, delivery, IsGiven}
use Rattle.pre_incoming.specs.Wires.{IsOnWire}
use Rattle.pre_incoming.proofs.NextOne.{at_begin, gives_as_last}
use Rattle.pre_incoming.proofs.Expecting.{is_last, is_expected}

-- what gives nothing is no alias
none_of_nothing : (w : Scenario) (h : History) (a i : ℕ) → GivesNothing (Air w h a) i → ¬ Alias w h a i
none_of_nothing w h a i none (inl (gives, other)) = none Given.verify gives
none_of_nothing w h a i none (inr (inl (gives, other))) = none Given.respond gives
none_of_nothing w h a i none (inr (inr (octets, gives, other))) = none (Given.frame octets) gives

-- what gives what it is to give is none
none_of_given : (w : Scenario) (h : History) (a i : ℕ) (g : Given) → Gives (Air w h a) i g → (g ≡ Given.verify → IsOfKind h a i kind.Verify) → (g ≡ Given.respond → IsOfKind h a i kind.Respond)
    → ((octets : List ℕ) → g ≡ Given.frame octets → IsLastOf w h a i octets) → ¬ Alias w h a i
none_of_given w h a i g gives verify respond frame (inl (so, other)) = other (verify (one_given (Air w h a) i g Given.verify gives so))
none_of_given w h a i g gives verify respond frame (inr (inl (so, other))) = other (respond (one_given (Air w h a) i g Given.respond gives so))
none_of_given w h a i g gives verify respond frame (inr (inr (octets, so, other))) = other (frame octets (one_given (Air w h a) i g (Given.frame octets) gives so))

-- All that the history asks of an arrival which gives this.
pub record IsVerdict (w : Scenario) (h : History) (t a : ℕ) (p : OnWire) (given : Landed) : Type 0 where
  pub result : Result (Air w h a) (length (Arrivals h a)) (result_of given)
  pub none : ¬ Alias w h a (length (Arrivals h a))
  pub events : WithDelivery w h t a (length (Arrivals h a)) (result_of given) (arrival t a (length (Arrivals h a)) (result_of given) ∷ delivery w h t a given)
  pub known : (front : List ℕ) → HasFront w a p front given → IsGiven w h t a (length (Arrivals h a)) front given
  pub no_stop : given ≢ landed.Alias

module _ (w : Scenario) (routed : IsRouted w) (n : ℕ) (h : History) (legal : LegalUpTo w n h) (t a : ℕ) (a_lt : a < length w.net.arcs) (e : Ended) (p : OnWire)
    (at_e : slice_get (Ends h a) (length (Arrivals h a)) ≡ Some e) (on : IsOnWire w h a p e) where
  abbrev k : ℕ
  k = length (Arrivals h a)

  abbrev A : List (Option (List ℕ))
  A = Air w h a

  begun : slice_get (Begins h a) k ≡ Some on.begin
  begun = at_begin w n h legal a a_lt e p at_e on

  last_octets : (octets : List ℕ) → expected w p ≡ Some octets → IsLastBy (WholeOf w h on.begin) on.begin e octets
  last_octets octets is = is_last w routed n h legal a a_lt e p at_e on octets is

  pub lost_one : IsLost A k → IsVerdict w h t a p landed.Lost
  lost_one lost = record {
    result = inl (lost, refl);
    none = none_of_nothing w h a k (λ g gives. lost_gives_nothing A k g lost gives);
    events = refl;
    known = λ front is. tt;
    no_stop = λ is. cc is;
  }

  nothing_of : (x : List ℕ) → slice_get A k ≡ Some (Some x) → GivesNothing A k → IsVerdict w h t a p landed.Nothing
  nothing_of x at none = record {
    result = inr (inr ((λ lost. cc (lost, at)), none, refl));
    none = none_of_nothing w h a k none;
    events = refl;
    known = λ front is. tt;
    no_stop = λ is. cc is;
  }

  part_of : Gives A k Given.part → IsVerdict w h t a p landed.Part
  part_of gives = record {
    result = inr (inl (Given.part, gives, refl));
    none = none_of_given w h a k Given.part gives (λ is. cc is) (λ is. cc is) (λ octets is. cc is);
    events = refl;
    known = λ front is. tt;
    no_stop = λ is. cc is;
  }

  verify_of : Gives A k Given.verify → p.kind ≡ kind.Verify → IsVerdict w h t a p landed.Verify
  verify_of gives is = record {
    result = inr (inl (Given.verify, gives, refl));
    none = none_of_given w h a k Given.verify gives (λ same. (kind_is w h a k on.begin e begun at_e kind.Verify).1 (sym on.kind ∙ is)) (λ same. cc same) (λ octets same. cc same);
    events = refl;
    known = λ front so. tt;
    no_stop = λ so. cc so;
  }

  respond_of : Gives A k Given.respond → p.kind ≡ kind.Respond → IsVerdict w h t a p landed.Respond
  respond_of gives is = record {
    result = inr (inl (Given.respond, gives, refl));
    none = none_of_given w h a k Given.respond gives (λ same. cc same) (λ same. (kind_is w h a k on.begin e begun at_e kind.Respond).1 (sym on.kind ∙ is)) (λ octets same. cc same);
    events = refl;
    known = λ front so. tt;
    no_stop = λ so. cc so;
  }

  frame_none : (octets : List ℕ) → Gives A k (Given.frame octets) → expected w p ≡ Some octets → ¬ Alias w h a k
  frame_none octets gives is = none_of_given w h a k (Given.frame octets) gives (λ same. cc same) (λ same. cc same)
      (λ others same.
      let one : octets ≡ others = cc same in
      (last_is w h a k on.begin e begun at_e others).1 (subst (IsLastBy (WholeOf w h on.begin) on.begin e) one (last_octets octets is)))

  frame_of : (octets : List ℕ) → Gives A k (Given.frame octets) → expected w p ≡ Some octets → (x : What) → on.begin.what ≡ x → IsVerdict w h t a p (carried x)
  frame_of octets gives is (what.Frame f) carries =
      let whole : octets ≡ FrameOf w f.0 = (last_octets octets is).1 ∙ ap (whole_of w h on.begin) carries in
      let user : is_lldp_frame octets ≡ false = ap is_lldp_frame whole ∙ user_frame w f.0 in
      let named : frame_at h a k ≡ Some f.0 = ap (λ (o : Option Begin). option_and_then (λ b. frame_in b.what) o) begun ∙ ap frame_in carries in
      record {
        result = inr (inl (Given.frame octets, gives, ap (λ (v : Bool). if v then outcome.Lldp else outcome.Frame) (sym user)));
        none = frame_none octets gives is;
        events = (f.0, FrameOf w f.0, named, subst (λ xs. Gives A k (Given.frame xs)) whole gives, refl);
        known = λ front so. let both : Some front ≡ Some octets = sym so ∙ is in let same : front ≡ octets = cc both in
            record { named = named; gives = subst (λ xs. Gives A k (Given.frame xs)) (sym same) gives };
        no_stop = λ so. cc so;
      }
  frame_of octets gives is what.Lldp carries =
      let whole : octets ≡ whole_of w h on.begin what.Lldp = (last_octets octets is).1 ∙ ap (whole_of w h on.begin) carries in
      let lldp : is_lldp_frame octets ≡ true = ap is_lldp_frame whole ∙ sent_lldp (arc w on.begin.arc).from.0 on.begin.arc (AdvertAt w h on.begin.arc on.begin.tick) in
      record {
        result = inr (inl (Given.frame octets, gives, ap (λ (v : Bool). if v then outcome.Lldp else outcome.Frame) (sym lldp)));
        none = frame_none octets gives is;
        events = refl;
        known = λ front so. let both : Some front ≡ Some octets = sym so ∙ is in let same : front ≡ octets = cc both in
            record {
              begin = on.begin;
              begun = begun;
              carries = carries;
              as_sent = same ∙ (last_octets octets is).1;
              is_lldp = ap is_lldp_frame same ∙ lldp;
              gives = subst (λ xs. Gives A k (Given.frame xs)) (sym same) gives;
            };
        no_stop = λ so. cc so;
      }
  frame_of octets gives is what.Nothing carries = absurd ((last_octets octets is).0 carries)

  -- by what the receiver answers
  pub by_answer : (x : List ℕ) → slice_get A k ≡ Some (Some x) → (answer : Taking) → IsTaken (take k A ++ Some x ∷ []) (length (take k A)) answer → (given : Landed)
      → Judged p.kind p.what (expected w p) answer given
      → IsVerdict w h t a p given ⊎ (given ≡ landed.Alias) × Alias w h a k
  by_answer x at (gave (Given.frame octets)) taken given (inl (is, as_carried)) =
      let gives = (gives_as_last w n h legal a a_lt e p at_e on (Some x) at (Given.frame octets)).0 taken in
      inl (subst (IsVerdict w h t a p) (ap carried (sym on.carries) ∙ sym as_carried) (frame_of octets gives is on.begin.what refl))
  by_answer x at (gave (Given.frame octets)) taken given (inr (other, is)) =
      let gives = (gives_as_last w n h legal a a_lt e p at_e on (Some x) at (Given.frame octets)).0 taken in
      inr (is, inr (inr (octets, gives, λ last'. other (is_expected w routed n h legal a a_lt e p at_e on octets ((last_is w h a k on.begin e begun at_e octets).0 last')))))
  by_answer x at (gave Given.part) taken given is =
      inl (subst (IsVerdict w h t a p) (sym is) (part_of ((gives_as_last w n h legal a a_lt e p at_e on (Some x) at Given.part).0 taken)))
  by_answer x at (gave Given.verify) taken given (inl (same, is)) =
      inl (subst (IsVerdict w h t a p) (sym is) (verify_of ((gives_as_last w n h legal a a_lt e p at_e on (Some x) at Given.verify).0 taken) same))
  by_answer x at (gave Given.verify) taken given (inr (other, is)) =
      inr (
        is,
        inl (
          (gives_as_last w n h legal a a_lt e p at_e on (Some x) at Given.verify).0 taken,
          λ of_kind. other (on.kind ∙ (kind_is w h a k on.begin e begun at_e kind.Verify).0 of_kind),
        ),
      )
  by_answer x at (gave Given.respond) taken given (inl (same, is)) =
      inl (subst (IsVerdict w h t a p) (sym is) (respond_of ((gives_as_last w n h legal a a_lt e p at_e on (Some x) at Given.respond).0 taken) same))
  by_answer x at (gave Given.respond) taken given (inr (other, is)) =
      inr (
        is,
        inr (inl (
          (gives_as_last w n h legal a a_lt e p at_e on (Some x) at Given.respond).0 taken,
          λ of_kind. other (on.kind ∙ (kind_is w h a k on.begin e begun at_e kind.Respond).0 of_kind),
        )),
      )
  by_answer x at (gave_nothing c) taken given is =
      inl (subst (IsVerdict w h t a p) (sym is) (nothing_of x at (λ g gives. taken.0 g ((gives_as_last w n h legal a a_lt e p at_e on (Some x) at g).1 gives))))
