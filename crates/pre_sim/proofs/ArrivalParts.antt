-- The part of an arc's arrivals: nothing lands, an mPacket without a frame, a frame that goes on, or one that is delivered.
use Rattle.std.proofs.Common.{ℕ, suc, ◌≡◌, ◌≢◌, ◌+◌, ◌<◌, ◌≤◌, true, false, List, [], ◌∷◌, ◌++◌, length}
use Rattle.std.proofs.Common.{take, refl, sym, ◌∙◌, ap, subst, Option, Some, None, filter_map, map, append_assoc}
use Rattle.std.specs.Prelude.{slice_get, option_map, option_and_then, Contains}
use Rattle.std.specs.List.{cons_option}
use Rattle.std.proofs.lemmas.List.{append-nil}
use Rattle.std.proofs.lemmas.List.Sums.{fold-append}
use Rattle.pre_base.specs.declared.limits.TheConstants.{LEAST_FRAME}
use Rattle.pre_base.specs.declared.numbers.FrameNo.{FrameNo}
use Rattle.pre_base.specs.declared.numbers.ArcId.{ArcId}
use Rattle.pre_history.specs.declared.events.What.{What}
use Rattle.pre_history.specs.declared.events.What.TheVariants as what
use Rattle.pre_history.specs.declared.events.Outcome.{Outcome}
use Rattle.pre_history.specs.Scenario.{Scenario, arc, row, send, latency, FrameOf}
use Rattle.pre_history.specs.History.{Begin, PlainEvent, History}
use Rattle.pre_history.specs.Moments.{Phase}
use Rattle.pre_history.specs.Placed.{number, moment_of}
use Rattle.pre_history.specs.Selected.{frame_in, is_frame_result}
use Rattle.pre_history.specs.Queries.{Begins}
use Rattle.pre_history.specs.Comings.{frame_at, hops, next_arc}
use Rattle.pre_history.specs.Rules.{arrival, delivered}
use Rattle.pre_history.specs.Legal.{LegalBefore, LegalUpTo}
use Rattle.pre_history.proofs.Lists.{every_at}
use Rattle.pre_laws.specs.Routed.{IsRouted}
use Rattle.pre_laws.proofs.Routed.{BegunRight, begins_right, all_right}
use Rattle.pre_bridge.specs.declared.relays.Relay.{Relay}
use Rattle.pre_bridge.specs.Inside.{Call, Entry, delivered as delivery_call, after, inside, kept}
use Rattle.pre_bridge.specs.Table as table
use Rattle.pre_bridge.specs.Relays.{Stands}
use Rattle.pre_incoming.specs.declared.incomings.Incoming.{Incoming}
use Rattle.pre_incoming.specs.declared.landings.Landed.{Landed}
use Rattle.pre_incoming.specs.declared.landings.Landed.TheVariants as landed
use Rattle.pre_incoming.specs.declared.landings.Landing.{Landing}
use Rattle.pre_incoming.specs.Landings.{GoesOn, HoldsFrame, LandsAs, IsGiven, IsNext, delivery, events, result_of}
use Rattle.pre_incoming.specs.Wires.{Receives}
use Rattle.pre_links.specs.declared.partners.Partner.{Partner}
use Rattle.pre_sim.specs.declared.lanes.Lane.{Lane}
use Rattle.pre_sim.specs.Arriving.{IsStored, KeepsInside, Listens, delivered_at, in_slot}
use Rattle.pre_sim.specs.Keeps.{Store, TakesIn}
use Rattle.pre_sim.specs.Reach.{AllFit}
use Rattle.pre_sim.specs.Stands.{Onward, onward, passes}
use Rattle.pre_sim.specs.Parts.{After, ArrivalPart, Before, LaneAlias, LaneFront, LanePart, LaneReached, LegalAt}
use Rattle.pre_sim.proofs.ArrivalRoutes.{GoAlong, goes_onward, still_over, at_bridge, stays_for}
use Rattle.pre_sim.proofs.Keeping.{keep_lane, keep_arrived}
use Rattle.pre_sim.proofs.FrameSizes.{routed}
use Rattle.pre_sim.proofs.Landings.{AdvertLaw, lane_with, landed_as, done_none, done_one}

-- a frame that a place of the list names
named_frame : (o : Option Begin) (n : ℕ) → option_and_then (λ (b : Begin). frame_in b.what) o ≡ Some n → (b : Begin) × (o ≡ Some b) × (b.what ≡ what.Frame (record { 0 = n }))
named_frame None n is = absurd (cc is)
named_frame (Some b) n is = (b, refl, go b.what is)
  where
    go : (x : What) → frame_in x ≡ Some n → x ≡ what.Frame (record { 0 = n })
    go (what.Frame f) is = let same : f.0 ≡ n = cc is in ap (λ i. what.Frame (record { 0 = i })) same
    go what.Lldp is = absurd (cc is)
    go what.Nothing is = absurd (cc is)

there_is : {X : Type 0} (o : Option X) → o ≢ None → (x : X) × (o ≡ Some x)
there_is None other = absurd (other refl)
there_is (Some x) other = (x, refl)

-- what isn't a user frame is delivered nowhere, and goes nowhere
no_delivery : (w : Scenario) (h : History) (t a : ℕ) (g : Landed) → ((f : FrameNo) → g ≢ landed.Frame f) → delivery w h t a g ≡ []
no_delivery w h t a landed.Lost plain = refl
no_delivery w h t a (landed.Frame f) plain = absurd (plain f refl)
no_delivery w h t a landed.Lldp plain = refl
no_delivery w h t a landed.Part plain = refl
no_delivery w h t a landed.Verify plain = refl
no_delivery w h t a landed.Respond plain = refl
no_delivery w h t a landed.Nothing plain = refl
no_delivery w h t a landed.Alias plain = refl

no_frame : (g : Landed) → ((f : FrameNo) → g ≢ landed.Frame f) → is_frame_result (result_of g) ≡ false
no_frame landed.Lost plain = refl
no_frame (landed.Frame f) plain = absurd (plain f refl)
no_frame landed.Lldp plain = refl
no_frame landed.Part plain = refl
no_frame landed.Verify plain = refl
no_frame landed.Respond plain = refl
no_frame landed.Nothing plain = refl
no_frame landed.Alias plain = refl

-- no frames came into bridges
takes_none : (w : Scenario) (relay : Relay) → TakesIn w relay relay []
takes_none w relay calls stands = (calls, stands, sym (append-nil (inside w.net w.streams calls)))

-- the frame that lands goes over the arc
pub goes_over : (w : Scenario) → IsRouted w → (n : ℕ) (h : History) (a i f : ℕ) → LegalUpTo w n h → frame_at h a i ≡ Some f → Contains (hops w f) a
goes_over w routed n h a i f legal named =
    let b = named_frame (slice_get (Begins h a) i) f named in
    ((every_at (BegunRight w a) (Begins h a) i b.0 (begins_right w h a (all_right w routed n h legal)) b.1).on (record { 0 = f }) b.2).arc

module _ (w : Scenario) (t a : ℕ) (old : Lane) (incoming : Incoming) (x : Landing) (into : List ℕ) where
  -- the landing is what happens then
  abbrev pub LandsSo : Type 0
  LandsSo = (h : History) → LegalBefore w h (moment_of w t (Phase.arrivals a)) → Receives w h a old.incoming → LandsAs w h t a x into incoming x.given

  -- An mPacket landed that is no alias: this is its result, and what it says of the partner is heard.
  pub record HasLanded (partner : Partner) (r : Outcome) : Type 0 where
    pub lands : LandsSo
    pub some : x.given ≢ landed.Alias
    pub result : r ≡ result_of x.given
    pub listens : Listens t x.given (take x.size into) old.partner partner
    pub unheard : (f : FrameNo) → x.given ≡ landed.Frame f → partner ≡ old.partner

  -- It gave this frame of the script, whose route goes over the arc.
  pub record GivesFrame (f : FrameNo) : Type 0 where
    pub is : x.given ≡ landed.Frame f
    pub known : f.0 < length w.script.sends
    pub over : Contains (hops w f.0) a
    pub octets : take x.size into ≡ FrameOf w f.0

  -- so it is where some history leads there
  pub gives_frame : IsRouted w → LaneReached w t (Phase.arrivals a) a None old → LandsSo → (f : FrameNo) → x.given ≡ landed.Frame f → HoldsFrame w x.size into x.given → GivesFrame f
  gives_frame routed (h, items, b) lands f is holds =
      let frame : HoldsFrame w x.size into (landed.Frame f) = subst (HoldsFrame w x.size into) is holds in
      let one = subst (LandsAs w h t a x into incoming) is (lands h b.legal b.stands.incoming) in
      record {
        is = is;
        known = frame.0;
        over = goes_over w routed (moment_of w t (Phase.arrivals a)) h a x.ord f.0 b.legal.0 one.2.named;
        octets = frame.2;
      }

  -- an alias is due
  pub alias_part : a < length w.net.arcs → LandsSo → t ≤ w.script.until.0 → x.given ≡ landed.Alias → LaneAlias w t (Phase.arrivals a) a None old a x.ord []
  alias_part a_lt lands by is = (refl, refl, λ h items b. (by, a_lt, b.legal, subst (LandsAs w h t a x into incoming) is (lands h b.legal b.stands.incoming)))

-- ---- nothing lands

pub none_part : (w : Scenario) (t a : ℕ) → a < length w.net.arcs → (old : Lane) (incoming : Incoming) (store : Store) (relay : Relay)
    → ((h : History) → LegalBefore w h (moment_of w t (Phase.arrivals a)) → Receives w h a old.incoming → GoesOn w h t a [] incoming)
    → ArrivalPart w t a 0 store store relay relay old (lane_with old incoming old.partner) []
none_part w t a a_lt old incoming store relay lands = (
  [],
  record {
    arc = tt;
    deliveries = refl;
    drops = refl;
    here = tt;
    goes = λ h items b. done_none w t a a_lt old incoming old.partner h items b (lands h b.legal b.stands.incoming) refl;
    keeps = keep_lane w a store old (lane_with old incoming old.partner) refl refl;
  },
  takes_none w relay,
)

module _ (w : Scenario) (t a : ℕ) (a_lt : a < length w.net.arcs) (adverts : AdvertLaw) (old : Lane) (incoming : Incoming) (partner : Partner) (x : Landing) (into : List ℕ) (r : Outcome)
    (landed_so : HasLanded w t a old incoming x into partner r) where
  abbrev A : ℕ
  A = length w.net.arcs

  abbrev here : ℕ
  here = moment_of w t (Phase.arrivals a)

  abbrev new : Lane
  new = lane_with old incoming partner

  abbrev it_arrives : PlainEvent
  it_arrives = arrival t a x.ord r

  -- the events by its result
  events_of : (h : History) → events w h t a x ≡ it_arrives ∷ delivery w h t a x.given
  events_of h = ap (λ q. arrival t a x.ord q ∷ delivery w h t a x.given) (sym landed_so.result)

  -- what lands
  its : (h : History) (items : List Entry) → Before w t (Phase.arrivals a) a None old h items
      → IsNext w h t a x × GoesOn w h t a (events w h t a x) incoming × IsGiven w h t a x.ord (take x.size into) x.given
  its h items b = landed_as w h t a x into incoming x.given landed_so.some (landed_so.lands h b.legal b.stands.incoming)

  -- the lane behind these events, where they are those of the landing and this comes into the bridge
  after_one : (es : History) (more : List Entry) (h : History) (items : List Entry) → Before w t (Phase.arrivals a) a None old h items → it_arrives ∷ delivery w h t a x.given ≡ es
      → filter_map (onward w a (Begins h a)) (record { tick = t; arc = a; ord = x.ord; result = result_of x.given } ∷ []) ≡ map passes more
      → After w t (Phase.arrivals a) a None old new h (items ++ more) es
  after_one es more h items b are hands =
      let l = its h items b in
      subst (After w t (Phase.arrivals a) a None old new h (items ++ more)) (events_of h ∙ are)
      (done_one w t a a_lt old incoming partner adverts x (take x.size into) landed_so.listens landed_so.unheard h items b l.0 l.1 landed_so.some l.2 more hands)

  -- the arrival is a front
  pub arrival_front : LaneFront w t (Phase.arrivals a) a None old (it_arrives ∷ [])
  arrival_front h items b =
      let whole = subst (λ es. LegalBefore w (h ++ es) (suc here)) (events_of h) (its h items b).1.legal in
      (suc here, delivery w h t a x.given, subst (λ g. LegalBefore w g (suc here)) (sym (append_assoc h (it_arrives ∷ []) (delivery w h t a x.given))) whole)

  -- ---- an mPacket lands that gives no user frame

  pub plain_part : (store : Store) (relay : Relay) → ((f : FrameNo) → x.given ≢ landed.Frame f) → ArrivalPart w t a 0 store store relay relay old new (it_arrives ∷ [])
  plain_part store relay plain = (
    [],
    record {
      arc = (refl, tt);
      deliveries = refl;
      drops = refl;
      here = tt;
      goes = λ h items b. after_one (it_arrives ∷ []) [] h items b (ap (λ es. it_arrives ∷ es) (no_delivery w h t a x.given plain)) (hands_none h);
      keeps = keep_lane w a store old new refl refl;
    },
    takes_none w relay,
  )
    where
      hands_none : (h : History) → filter_map (onward w a (Begins h a)) (record { tick = t; arc = a; ord = x.ord; result = result_of x.given } ∷ []) ≡ []
      hands_none h = let none = no_frame x.given plain in rw none refl

  -- ---- a user frame lands

  module _ (fit : AllFit w.net w.streams w.script) (along : GoAlong w) (f : FrameNo) (user : GivesFrame w t a old incoming x into f) where
    -- where the table sends it
    abbrev onto : Option ArcId
    onto = table.onward w.net w.streams a (row w f.0).vid

    next_is : (o : Option ArcId) → onto ≡ o → next_arc w a f.0 ≡ option_map (λ (b : ArcId). b.0) o
    next_is o goes = sym (goes_onward w fit along f.0 a user.known user.over) ∙ ap (option_map (λ (b : ArcId). b.0)) goes

    -- its arrival, and its delivery where its route goes no further
    abbrev told : Option ℕ → History
    told o = it_arrives ∷ delivered t (arc w a).to.0 f.0 (FrameOf w f.0) o

    events_are : (h : History) (o : Option ArcId) → onto ≡ o → it_arrives ∷ delivery w h t a x.given ≡ told (option_map (λ (b : ArcId). b.0) o)
    events_are h o goes = ap (λ g. it_arrives ∷ delivery w h t a g) user.is ∙ ap told (next_is o goes)

    abbrev it_is_delivered : PlainEvent
    it_is_delivered = delivered_at w.net t a f (FrameOf w f.0)

    -- what the arrival hands to the bridge
    handed : (h : History) (o : Option ArcId) → onto ≡ o → frame_at h a x.ord ≡ Some f.0
        → onward w a (Begins h a) (record { tick = t; arc = a; ord = x.ord; result = result_of x.given })
        ≡ option_map (λ (b : ArcId). record { due = t + latency w a; arc = b.0; frame = f.0 }) o
    handed h o goes found =
        let Goes = λ (n : Option ℕ). option_map {U = Onward} (λ b. record { due = t + latency w a; arc = b; frame = f.0 }) n in
        ap (λ g. onward w a (Begins h a) (record { tick = t; arc = a; ord = x.ord; result = result_of g })) user.is
        ∙ (ap (λ p. option_and_then {U = Onward} (λ n. option_map (λ b. record { due = t + latency w a; arc = b; frame = n }) (next_arc w a n)) p) found
        ∙ (ap Goes (next_is o goes) ∙ twice o))
      where
        twice : (o : Option ArcId) → option_map {U = Onward} (λ b. record { due = t + latency w a; arc = b; frame = f.0 }) (option_map (λ (b : ArcId). b.0) o)
            ≡ option_map (λ (b : ArcId). record { due = t + latency w a; arc = b.0; frame = f.0 }) o
        twice None = refl
        twice (Some b) = refl

    -- it is the frame at that place
    is_at_place : (h : History) (items : List Entry) → Before w t (Phase.arrivals a) a None old h items → frame_at h a x.ord ≡ Some f.0
    is_at_place h items b = (subst (IsGiven w h t a x.ord (take x.size into)) user.is (its h items b).2).named

    -- where its route goes no further
    given_after : onto ≡ None → (h : History) (items : List Entry) → Before w t (Phase.arrivals a) a None old h items
        → After w t (Phase.arrivals a) a None old new h (items ++ []) (it_arrives ∷ it_is_delivered ∷ [])
    given_after last h items b =
        after_one (it_arrives ∷ it_is_delivered ∷ []) [] h items b (events_are h None last) (ap (λ o. cons_option o []) (handed h None last (is_at_place h items b)))

    -- its arrival and its delivery are a front
    pub both_front : onto ≡ None → LaneFront w t (Phase.arrivals a) a None old (it_arrives ∷ it_is_delivered ∷ [])
    both_front last h items b =
        let legal = (given_after last h items b).legal in
        (number A t (1 + A + a + 1), [], subst (λ g. LegalAt w t (1 + A + a + 1) g) (sym (append-nil (h ++ it_arrives ∷ it_is_delivered ∷ []))) legal)

    given_part : (store : Store) → onto ≡ None → LanePart w t (Phase.arrivals a) a None old 1 store store new [] (it_arrives ∷ it_is_delivered ∷ [])
    given_part store last = record {
      arc = (refl, (tt, tt));
      deliveries = refl;
      drops = refl;
      here = tt;
      goes = given_after last;
      keeps = keep_lane w a store old new refl refl;
    }

    abbrev entry : ArcId → ℕ → Entry
    entry b slot = record { arc = a; due = t + table.latency_of w.net a; next = b; frame = in_slot w f slot }

    long_enough : LEAST_FRAME ≤ (send w f.0).send.size
    long_enough = ((routed w fit).sizes f.0 user.known).0

    hands_it : (b : ArcId) (slot : ℕ) → onto ≡ Some b → (h : History) (items : List Entry) → Before w t (Phase.arrivals a) a None old h items
        → filter_map (onward w a (Begins h a)) (record { tick = t; arc = a; ord = x.ord; result = result_of x.given } ∷ []) ≡ map passes (entry b slot ∷ [])
    hands_it b slot goes_on h items before =
        let later = ap (λ n. Some (record { due = t + n; arc = b.0; frame = f.0 })) (sym (stays_for w a a_lt)) in
        ap (λ o. cons_option o []) (handed h (Some b) goes_on (is_at_place h items before) ∙ later)

    -- where it goes on it is inside the bridge, in a slot of its own
    kept_part : (b : ArcId) → onto ≡ Some b → (store store' : Store) (slot : ℕ) → IsStored store (FrameOf w f.0) slot store'
        → LanePart w t (Phase.arrivals a) a None old 0 store store' new (entry b slot ∷ []) (it_arrives ∷ [])
    kept_part b goes_on store store' slot stored = record {
      arc = (refl, tt);
      deliveries = refl;
      drops = refl;
      here = (refl, tt);
      goes = λ h items before. after_one (it_arrives ∷ []) (entry b slot ∷ []) h items before (events_are h (Some b) goes_on) (hands_it b slot goes_on h items before);
      keeps = keep_arrived w a store store' old new f slot (entry b slot) refl refl user.known long_enough stored refl
          (at_bridge w fit along f.0 a b user.known user.over goes_on) (still_over w fit along f.0 a b user.known user.over goes_on);
    }

    one_inside : (calls : List Call) (b : ArcId) (slot : ℕ) → onto ≡ Some b
        → inside w.net w.streams (calls ++ delivery_call t a (in_slot w f slot) ∷ []) ≡ inside w.net w.streams calls ++ entry b slot ∷ []
    one_inside calls b slot goes_on =
        fold-append (after w.net w.streams) [] calls (delivery_call t a (in_slot w f slot) ∷ [])
        ∙ ap (λ o. inside w.net w.streams calls ++ kept t a (table.latency_of w.net a) (in_slot w f slot) o) goes_on

    module _ (store store' : Store) (relay relay' : Relay) (reached : (calls : List Call) × Stands relay w.net w.streams calls) where
      -- it goes into the relay
      pub kept_arrival : KeepsInside w t a f store store' relay relay' true → ArrivalPart w t a 0 store store' relay relay' old new (it_arrives ∷ [])
      kept_arrival keeps =
          let b = there_is onto (keeps.2 w.net w.streams reached.0 reached.1).1 in (
            entry b.0 keeps.0 ∷ [],
            kept_part b.0 b.1 store store' keeps.0 keeps.1,
            λ calls stands. (calls ++ delivery_call t a (in_slot w f keeps.0) ∷ [], (keeps.2 w.net w.streams calls stands).0, one_inside calls b.0 keeps.0 b.1),
          )

      -- or it is delivered
      pub ends_here : KeepsInside w t a f store store' relay relay' false → onto ≡ None
      ends_here keeps = keeps.2 w.net w.streams reached.0 reached.1

      pub given_arrival : KeepsInside w t a f store store' relay relay' false → ArrivalPart w t a 1 store store' relay relay' old new (it_arrives ∷ it_is_delivered ∷ [])
      given_arrival keeps = (
        [],
        subst (λ s. LanePart w t (Phase.arrivals a) a None old 1 store s new [] (it_arrives ∷ it_is_delivered ∷ [])) (sym keeps.0) (given_part store (ends_here keeps)),
        λ calls stands. (calls, subst (λ q. Stands q w.net w.streams calls) (sym keeps.1) stands, sym (append-nil (inside w.net w.streams calls))),
      )
