-- What lands at the end of an arc and is no alias, as its lane stands for it.
use Rattle.std.proofs.Common.{ℕ, suc, ◌≡◌, ◌≢◌, ◌+◌, ◌<◌, true, List, [], ◌∷◌, ◌++◌, length, take, refl, sym, ◌∙◌, ap, arith, subst, Some, None, filter_map, map}
use Rattle.std.specs.Prelude.{IsSome}
use Rattle.std.specs.List.{AllByRecursion as Every}
use Rattle.std.proofs.lemmas.List.{append-nil}
use Rattle.std.proofs.lemmas.List.Elements.{filter_map-append}
use Rattle.pre_base.specs.declared.numbers.FrameNo.{FrameNo}
use Rattle.pre_lldp.specs.LldpLayout.{advert_of, is_lldp_frame}
use Rattle.pre_mpacket.specs.Arrivals.{Given, Gives}
use Rattle.pre_history.specs.Scenario.{Scenario}
use Rattle.pre_history.specs.History.{Begin, Arrive, History}
use Rattle.pre_history.specs.Moments.{Phase}
use Rattle.pre_history.specs.Placed.{AllAt, AllWithin, IsAt, IsWithin, number, moment_of}
use Rattle.pre_history.specs.Selected.{arrive_on}
use Rattle.pre_history.specs.Queries.{Begins, Ends, Arrivals, Entries}
use Rattle.pre_history.specs.Octets.{AdvertAt, Air, ToldActive, WholeOf}
use Rattle.pre_history.specs.Rules.{arrival}
use Rattle.pre_history.specs.Legal.{LegalBefore}
use Rattle.pre_history.proofs.Placing.{phase_events, begins_arc}
use Rattle.pre_history.proofs.Turns.{same_begins, same_ends}
use Rattle.pre_bridge.specs.Inside.{Entry}
use Rattle.pre_outgoing.proofs.Keeping.{other_events}
use Rattle.pre_incoming.specs.declared.incomings.Incoming.{Incoming}
use Rattle.pre_incoming.specs.declared.landings.Landed.{Landed}
use Rattle.pre_incoming.specs.declared.landings.Landed.TheVariants as landed
use Rattle.pre_incoming.specs.declared.landings.Landing.{Landing}
use Rattle.pre_incoming.specs.Landings.{GoesOn, GivesLldp, IsGiven, IsNext, LandsAs, delivery, events, result_of}
use Rattle.pre_incoming.proofs.Telling.{its_arrival}
use Rattle.pre_links.specs.declared.partners.Partner.{Partner}
use Rattle.pre_links.specs.Listening.{Hears, IsSilent}
use Rattle.pre_links.specs.Standing.{AreOver}
use Rattle.pre_links.proofs.Listened.{unheard_events}
use Rattle.pre_links.proofs.Phases.{still_stands}
use Rattle.pre_sim.specs.declared.lanes.Lane.{Lane}
use Rattle.pre_sim.specs.Arriving.{IsAdvert, Listens}
use Rattle.pre_sim.specs.Stages.{set_up, link_turn, stage_at}
use Rattle.pre_sim.specs.Stands.{AreInside, LaneStands, onward, passes}
use Rattle.pre_sim.specs.Parts.{Before, After}
use Rattle.pre_sim.proofs.ArrivedInside.{arrived_inside}
use Rattle.pre_sim.proofs.Lists.{every_at, every_weaker}
use Rattle.pre_sim.proofs.Listening.{frame_silent}
use Rattle.pre_sim.proofs.Others.{same_rings, same_entries, same_active}
use Rattle.pre_sim.proofs.Rows.{are_over}
use Rattle.pre_sim.proofs.StageTests.{is_set_up}

-- what LLDP frames say that were sent
abbrev pub AdvertLaw : Type 0
AdvertLaw = (w : Scenario) (h : History) (b : Begin) → b.arc < length w.net.arcs → is_lldp_frame (WholeOf w h b) ≡ true → advert_of (WholeOf w h b) ≡ Some (AdvertAt w h b.arc b.tick)

-- what lands and is no alias
pub landed_as : (w : Scenario) (h : History) (t a : ℕ) (x : Landing) (into : List ℕ) (new : Incoming) (g : Landed) → g ≢ landed.Alias → LandsAs w h t a x into new g
    → IsNext w h t a x × GoesOn w h t a (events w h t a x) new × IsGiven w h t a x.ord (take x.size into) g
landed_as w h t a x into new landed.Lost other lands = lands
landed_as w h t a x into new (landed.Frame f) other lands = lands
landed_as w h t a x into new landed.Lldp other lands = lands
landed_as w h t a x into new landed.Part other lands = lands
landed_as w h t a x into new landed.Verify other lands = lands
landed_as w h t a x into new landed.Respond other lands = lands
landed_as w h t a x into new landed.Nothing other lands = lands
landed_as w h t a x into new landed.Alias other lands = absurd (other refl)

-- the lane with another receiving end and another partner
abbrev pub lane_with : Lane → Incoming → Partner → Lane
lane_with old incoming partner = record { rings = old.rings; outgoing = old.outgoing; incoming = incoming; partner = partner; setting = old.setting; link = old.link }

-- ---- the lane behind the events of an arc's arrivals

module _ (w : Scenario) (t a : ℕ) (a_lt : a < length w.net.arcs) (old : Lane) (incoming : Incoming) (partner : Partner) where
  abbrev A : ℕ
  A = length w.net.arcs

  -- where those arrivals stand among all moments
  abbrev here : ℕ
  here = moment_of w t (Phase.arrivals a)

  abbrev new : Lane
  new = lane_with old incoming partner

  its_stage : stage_at A t (1 + A + a) a ≡ set_up t
  its_stage = is_set_up A t (1 + A + a) a (omega arith) (omega arith)

  next_stage : stage_at A t (1 + A + a + 1) a ≡ set_up t
  next_stage = is_set_up A t (1 + A + a + 1) a (omega arith) (omega (arith, a_lt))

  module _ (h : History) (items : List Entry) (b : Before w t (Phase.arrivals a) a None old h items) where
    pub stand : LaneStands w h a (set_up t) old items
    stand = subst (λ s. LaneStands w h a s old items) its_stage b.stands

    module _ (es : History) (goes : GoesOn w h t a es incoming) where
      at : AllAt A here es
      at = phase_events w h t (1 + A + a) (Phase.arrivals a) es (a_lt, refl) goes.happens

      within_moment : AllWithin A here (suc here) es
      within_moment = every_weaker (IsAt A here) (IsWithin A here (suc here)) (λ e is. (here, omega arith, omega arith, is)) es at

      begins : Begins (h ++ es) a ≡ Begins h a
      begins = same_begins A t (1 + A + a) a (omega (arith, a_lt)) a_lt h es (omega (arith, a_lt)) at

      ends : Ends (h ++ es) a ≡ Ends h a
      ends = same_ends A t (1 + A + a) a (omega (arith, a_lt)) a_lt h es (omega (arith, a_lt)) at

      entries : (q : ℕ) → Entries (h ++ es) a q ≡ Entries h a q
      entries q = same_entries A t (1 + A + a) a (omega (arith, a_lt)) a_lt q h es (omega (arith, a_lt)) at

      over : AreOver w t here
      over = subst (λ s. AreOver w (link_turn s) (number A t (1 + A + a))) its_stage (are_over w t (1 + A + a) a a_lt (omega arith))

      told_active : (u : ℕ) → u < t → ToldActive w (h ++ es) a u ≡ ToldActive w h a u
      told_active u lt = same_active A t (1 + A + a) a (omega (arith, a_lt)) a_lt w u h es (omega (arith, a_lt)) at

      now : (more : List Entry) → Hears w (h ++ es) a partner → AreInside w a (Begins (h ++ es) a) (Arrivals (h ++ es) a) t (items ++ more)
          → LaneStands w (h ++ es) a (set_up t) new (items ++ more)
      now more heard inside = record {
        rings = same_rings w h es a old begins entries stand.rings;
        outgoing = other_events w h (h ++ es) a t true old.outgoing begins ends entries told_active stand.outgoing;
        incoming = goes.receives;
        partner = heard;
        setting = stand.setting;
        link = λ negotiates. still_stands w t (Phase.arrivals a) h es a a_lt (a_lt, refl) b.legal.0 goes.happens t old.link over
            (omega (arith, a_lt)) (omega (arith, a_lt)) (stand.link negotiates);
        inside = inside;
      }

      pub done : (more : List Entry) → Hears w (h ++ es) a partner → AreInside w a (Begins (h ++ es) a) (Arrivals (h ++ es) a) t (items ++ more)
          → After w t (Phase.arrivals a) a None old new h (items ++ more) es
      done more heard inside = record {
        happens = goes.happens;
        legal = subst (LegalBefore w (h ++ es)) (next A t a) goes.legal;
        stands = subst (λ s. LaneStands w (h ++ es) a s new (items ++ more)) (sym next_stage) (now more heard inside);
      }
        where
          next : (A t a : ℕ) → suc (number A t (1 + A + a)) ≡ number A t (1 + A + a + 1)
          next A t a = omega arith

    -- where nothing lands, and nothing is heard
    pub done_none : GoesOn w h t a [] incoming → old.partner ≡ partner → After w t (Phase.arrivals a) a None old new h (items ++ []) []
    done_none goes same =
        done [] goes []
        (subst (Hears w (h ++ []) a) same (subst (λ g. Hears w g a old.partner) (sym (append-nil h)) stand.partner))
        (subst (AreInside w a (Begins (h ++ []) a) (Arrivals (h ++ []) a) t) (sym (append-nil items))
        (subst (λ g. AreInside w a (Begins g a) (Arrivals g a) t items) (sym (append-nil h)) stand.inside))

  -- ---- an mPacket lands

  module _ (adverts : AdvertLaw) (x : Landing) (octets : List ℕ) (listens : Listens t x.given octets old.partner partner)
      (unheard : (f : FrameNo) → x.given ≡ landed.Frame f → partner ≡ old.partner) where
    -- what the arrival is
    abbrev new_arrival : Arrive
    new_arrival = record { tick = t; arc = a; ord = x.ord; result = result_of x.given }

    module _ (h : History) (items : List Entry) (b : Before w t (Phase.arrivals a) a None old h items) (next : IsNext w h t a x) (goes : GoesOn w h t a (events w h t a x) incoming) where
      abbrev es : History
      es = events w h t a x

      advert : GivesLldp w h t a x.ord octets → IsAdvert w h a landed.Lldp octets
      advert given =
          let on = every_at (λ (d : Begin). d.arc ≡ a) (Begins h a) x.ord given.begin (begins_arc h a) given.begun in
          let says = adverts w h given.begin (subst (λ n. n < A) (sym on) a_lt) (ap is_lldp_frame (sym given.as_sent) ∙ given.is_lldp) in
          (subst (λ i. Gives (Air w h a) i (Given.frame octets)) next.place given.gives, subst IsSome (sym (ap advert_of given.as_sent ∙ says)) refl)

      -- heard by the arrival alone
      by_arrival : (g : Landed) → x.given ≡ g → IsAdvert w h a g octets → Hears w (h ++ arrival t a x.ord (result_of g) ∷ []) a partner
      by_arrival g is says =
          subst (λ i. Hears w (h ++ arrival t a i (result_of g) ∷ []) a partner) (sym next.place)
          (subst (λ y. Listens t y octets old.partner partner) is listens w h a a_lt b.legal.0 (stand h items b).partner says)

      -- a user frame says nothing
      by_frame : (f : FrameNo) → x.given ≡ landed.Frame f → Hears w (h ++ es) a partner
      by_frame f is =
          let silent : IsSilent (result_of x.given) = subst (λ g. IsSilent (result_of g)) (sym is) frame_silent in
          let all = subst (Every (λ (y : Arrive). IsSilent y.result)) (sym (its_arrival w h t a x.ord x.given)) (silent, tt) in
          subst (Hears w (h ++ es) a) (sym (unheard f is))
          (unheard_events w here (suc here) h es a old.partner a_lt b.legal.0 (within_moment h items b es goes) all (stand h items b).partner)

      heard : (g : Landed) → x.given ≡ g → g ≢ landed.Alias → IsGiven w h t a x.ord octets g → Hears w (h ++ arrival t a x.ord (result_of g) ∷ delivery w h t a g) a partner
      heard landed.Lost is other given = by_arrival landed.Lost is tt
      heard (landed.Frame f) is other given = subst (λ g. Hears w (h ++ arrival t a x.ord (result_of g) ∷ delivery w h t a g) a partner) is (by_frame f is)
      heard landed.Lldp is other given = by_arrival landed.Lldp is (advert given)
      heard landed.Part is other given = by_arrival landed.Part is tt
      heard landed.Verify is other given = by_arrival landed.Verify is tt
      heard landed.Respond is other given = by_arrival landed.Respond is tt
      heard landed.Nothing is other given = by_arrival landed.Nothing is tt
      heard landed.Alias is other given = absurd (other refl)

      arrivals : Arrivals (h ++ es) a ≡ Arrivals h a ++ new_arrival ∷ []
      arrivals = filter_map-append (arrive_on a) h es ∙ ap (λ xs. Arrivals h a ++ xs) (its_arrival w h t a x.ord x.given)

      -- the frames inside the bridge, where this is what the arrival hands to it
      inside : (more : List Entry) → filter_map (onward w a (Begins h a)) (new_arrival ∷ []) ≡ map passes more
          → AreInside w a (Begins (h ++ es) a) (Arrivals (h ++ es) a) t (items ++ more)
      inside more hands =
          subst (λ xs. AreInside w a (Begins (h ++ es) a) xs t (items ++ more)) (sym arrivals)
          (subst (λ bs. AreInside w a bs (Arrivals h a ++ new_arrival ∷ []) t (items ++ more)) (sym (begins h items b es goes))
          (arrived_inside w a t (Begins h a) (Arrivals h a) items new_arrival more (stand h items b).inside (omega arith) hands))

      pub done_one : x.given ≢ landed.Alias → IsGiven w h t a x.ord octets x.given → (more : List Entry)
          → filter_map (onward w a (Begins h a)) (new_arrival ∷ []) ≡ map passes more → After w t (Phase.arrivals a) a None old new h (items ++ more) es
      done_one other given more hands = done h items b es goes more (heard x.given refl other given) (inside more hands)
