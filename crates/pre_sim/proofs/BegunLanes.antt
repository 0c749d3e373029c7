-- The lane of an arc on which an mPacket began.
use Rattle.std.proofs.Common.{ℕ, suc, ◌≡◌, ◌≢◌, ◌==◌, ◌&&◌, ◌+◌, ◌<◌, Bool, true, false, List, [], ◌∷◌}
use Rattle.std.proofs.Common.{◌++◌, length, drop, refl, sym, ◌∙◌, ap, inl, arith, subst, Some, None, filter_map}
use Rattle.std.specs.Prelude.{if◌then◌else◌, option_map, option_and_then}
use Rattle.std.specs.List.{cons_option, AllByRecursion as Every}
use Rattle.std.proofs.lemmas.List.{append-nil}
use Rattle.std.proofs.lemmas.List.Elements.{filter_map-append}
use Rattle.pre_topo.specs.declared.arcs.Mode.TheVariants as mode
use Rattle.pre_mpacket.specs.Arrivals.{is_continue}
use Rattle.pre_history.specs.Scenario.{Scenario, arc, latency}
use Rattle.pre_history.specs.Moments.{Phase}
use Rattle.pre_history.specs.Placed.{AllWithin, moment_of}
use Rattle.pre_history.specs.History.{PlainEvent, Begin, Arrive, History}
use Rattle.pre_history.specs.Selected.{arrive_on, frame_in, is_frame_result, what_is}
use Rattle.pre_history.specs.Queries.{Begins, Arrivals, SettingOf}
use Rattle.pre_history.specs.LinkState.{SettingBefore}
use Rattle.pre_history.specs.Comings.{next_arc}
use Rattle.pre_history.specs.Starts.{Choice, Item, There, StartRule}
use Rattle.pre_history.specs.Rules.{HappensIn}
use Rattle.pre_history.specs.Ordered.{IsOrdered}
use Rattle.pre_history.specs.Legal.{LegalUpTo}
use Rattle.pre_history.proofs.InOrder.{steady}
use Rattle.pre_laws.specs.Parts.{IsLeft}
use Rattle.pre_laws.proofs.Fitting.{is_routed}
use Rattle.pre_laws.proofs.Interruptions.{interruption}
use Rattle.pre_bridge.specs.Inside.{Entry}
use Rattle.pre_incoming.specs.Wires.{Receives}
use Rattle.pre_incoming.proofs.OnAir.{others_stay}
use Rattle.pre_links.specs.declared.partners.Partner.{Partner}
use Rattle.pre_links.specs.Listening.{Hears}
use Rattle.pre_links.specs.Standing.{IsOther, LinkStands, begin_of}
use Rattle.pre_links.proofs.Begun.{other_begin}
use Rattle.pre_links.proofs.Phases.{still_hears}
use Rattle.pre_outgoing.specs.declared.outgoing.Begun.{Begun}
use Rattle.pre_outgoing.specs.Sends.{HasBegun, next_begin}
use Rattle.pre_sim.specs.declared.lanes.Lane.{Lane}
use Rattle.pre_sim.specs.Reach.{AllFit}
use Rattle.pre_sim.specs.Stages.{untouched, entered}
use Rattle.pre_sim.specs.Stands.{AreRings, AreInside, LaneStands, onward}
use Rattle.pre_sim.specs.Parts.{LegalAt, its_place}
use Rattle.pre_sim.specs.Starting.{choice_of, begin_event, StartsAs}
use Rattle.pre_sim.proofs.LeftRings.{one_more_begins, rings_stay}
use Rattle.pre_sim.proofs.Lists.{within, every_drop, every_placed, get_front}
use Rattle.pre_sim.proofs.NumberTests.{not_eq}

-- ---- the frames inside the bridge at the arc's end stay, as more mPackets begin

onward_same : (w : Scenario) (a : ℕ) (bs cs : List Begin) (x : Arrive) → x.ord < length bs → onward w a (bs ++ cs) x ≡ onward w a bs x
onward_same w a bs cs x lt =
    ap (λ o. if is_frame_result x.result then option_and_then (λ f. option_map (λ b. record { due = x.tick + latency w a; arc = b; frame = f }) (next_arc w a f))
    (option_and_then (λ b. frame_in b.what) o) else None)
    (get_front bs cs x.ord lt)

all_onward : (w : Scenario) (a : ℕ) (bs cs : List Begin) (xs : List Arrive) → Every (λ (x : Arrive). x.ord < length bs) xs → filter_map (onward w a (bs ++ cs)) xs ≡ filter_map (onward w a bs) xs
all_onward w a bs cs [] known = refl
all_onward w a bs cs (x ∷ xs) (here, more) = λ i. cons_option (onward_same w a bs cs x here i) (all_onward w a bs cs xs more i)

begun_inside : (w : Scenario) (a t : ℕ) (bs cs : List Begin) (xs : List Arrive) (items : List Entry) → Every (λ (x : Arrive). x.ord < length bs) xs → AreInside w a bs xs t items
    → AreInside w a (bs ++ cs) xs t items
begun_inside w a t bs cs xs items known is = record {
  gone = is.gone;
  few = is.few;
  past = is.past;
  later = is.later;
  are = all_onward w a bs cs (drop is.gone xs) (every_drop (λ (x : Arrive). x.ord < length bs) is.gone xs known) ∙ is.are;
}

-- at the next tick the setting before it is the tick's
pub setting_then : (w : Scenario) (g : History) (a t : ℕ) → SettingOf w a t ≡ SettingBefore w g a (t + 1)
setting_then w g a t = let next : suc t ≡ t + 1 = omega arith in ap (SettingBefore w g a) next

module _ (w : Scenario) (t a : ℕ) (a_lt : a < length w.net.arcs) (h : History) (items : List Entry) (old new : Lane) (c : Choice) (b : Begun)
    (legal : LegalAt w t (its_place w (Phase.starts a)) h) (stand : LaneStands w h a (entered t) old items) (rule : StartRule w h a t c) (begun : HasBegun w h t a c b new.outgoing)
    (incoming : new.incoming ≡ old.incoming) (partner : new.partner ≡ old.partner) (setting : new.setting ≡ old.setting) where
  abbrev next : Begin
  next = next_begin h t a c

  abbrev after : History
  after = h ++ PlainEvent.begin next ∷ []

  told_is : PlainEvent.begin next ≡ begin_event t a b
  told_is i = PlainEvent.begin (record { tick = t; arc = a; ord = sym begun.ord i; kind = sym begun.kind i; what = sym begun.carries i; from = sym begun.from i })

  choice_is : c ≡ choice_of b
  choice_is i = record { kind = sym begun.kind i; what = sym begun.carries i; from = sym begun.from i }

  happens : HappensIn w h t (Phase.starts a) (PlainEvent.begin next ∷ [])
  unfolding HappensIn
  happens = inl (PlainEvent.begin next, (c, rule, refl), refl)

  at_its_place : AllWithin (length w.net.arcs) (moment_of w t (Phase.starts a)) (suc (moment_of w t (Phase.starts a))) (PlainEvent.begin next ∷ [])
  at_its_place = ((moment_of w t (Phase.starts a), omega arith, omega arith, (a_lt, refl)), tt)

  order : IsOrdered w h a
  order = (steady w (moment_of w t (Phase.starts a)) h a a_lt legal.0).ordered

  -- each arrival is of an mPacket that began
  known : Every (λ (x : Arrive). x.ord < length (Begins h a)) (Arrivals h a)
  known = every_placed (λ (x : Arrive). x.ord < length (Begins h a)) (Arrivals h a) (λ i x at.
      let lt : i < length (Arrivals h a) = within (Arrivals h a) i x at in
      omega (arith, lt, order.arrival_places i x at, order.arrivals_ended, order.ends_begun))

  arrivals : Arrivals after a ≡ Arrivals h a
  arrivals = filter_map-append (arrive_on a) h (PlainEvent.begin next ∷ []) ∙ append-nil (Arrivals h a)

  module _ (rings : AreRings w after a new.rings) (link : (arc w a).mode ≡ mode.Negotiate → LinkStands w (h ++ begin_of h a t c ∷ []) a (t + 1) new.link) where
    now : LaneStands w after a (untouched (t + 1)) new items
    now = record {
      rings = rings;
      outgoing = begun.sends;
      incoming = subst (Receives w after a) (sym incoming)
          (others_stay w (moment_of w t (Phase.starts a)) (suc (moment_of w t (Phase.starts a))) h (PlainEvent.begin next ∷ []) legal.0 at_its_place a a_lt old.incoming refl refl stand.incoming);
      partner = subst (Hears w after a) (sym partner) (still_hears w t (Phase.starts a) h (PlainEvent.begin next ∷ []) a a_lt (a_lt, refl) legal.0 happens old.partner
          (omega (arith, a_lt)) stand.partner);
      setting = setting ∙ (stand.setting ∙ setting_then w after a t);
      link = link;
      inside = subst (λ xs. AreInside w a (Begins after a) xs (t + 1) items) (sym arrivals)
          (subst (λ bs. AreInside w a bs (Arrivals h a) (t + 1) items) (sym (one_more_begins h a next refl))
          (begun_inside w a (t + 1) (Begins h a) (next ∷ []) (Arrivals h a) items known stand.inside));
    }

    -- this is what begins, and the lane stands for it
    pub started : (heard : Partner) (from to : ℕ) → StartsAs w t a heard from to old new (Some b) h items
    started heard from to = (subst (StartRule w h a t) choice_is rule, begun.ord, subst (λ e. LaneStands w (h ++ e ∷ []) a (untouched (t + 1)) new items) told_is now)

-- ---- a continuation isn't the first octet of a frame

pub rest_later : (w : Scenario) → AllFit w.net w.streams w.script → (h : History) (t a : ℕ) → a < length w.net.arcs → LegalUpTo w (moment_of w t (Phase.starts a)) h
    → (c : Choice) → There w h a t Item.rest c → (f : ℕ) → (what_is c.what f && (c.from == 0)) ≡ false
rest_later w fit h t a a_lt legal c (r, interrupted, is) f =
    let left : IsLeft w h a t r = interruption w (moment_of w t (Phase.starts a)) h legal a a_lt t (is_routed w fit.streams_fit fit.script_fits) r interrupted in
    let some : c.from ≢ 0 = λ none. omega (arith, ap (λ (x : Choice). x.from) is, none, left.from, left.least) in
    ap (λ x. what_is c.what f && x) (not_eq c.from 0 some) ∙ and_no (what_is c.what f)
  where
    and_no : (x : Bool) → (x && false) ≡ false
    and_no true = refl
    and_no false = refl

-- it is nothing for the link either
rest_other : (w : Scenario) (h : History) (a t : ℕ) (c : Choice) → There w h a t Item.rest c → IsOther c
rest_other w h a t c (r, interrupted, is) = record {
  no_verify = λ verify. cc (ap (λ (x : Choice). x.kind) is, verify);
  no_respond = λ respond. cc (ap (λ (x : Choice). x.kind) is, respond);
  no_lldp = λ lldp. cc (ap (λ (x : Choice). x.what) is, lldp);
}

pub rest_continues : (w : Scenario) (h : History) (a t : ℕ) (c : Choice) → There w h a t Item.rest c → is_continue c.kind ≡ true
rest_continues w h a t c (r, interrupted, is) = ap (λ (x : Choice). is_continue x.kind) is

module _ (w : Scenario) (fit : AllFit w.net w.streams w.script) (t a : ℕ) (a_lt : a < length w.net.arcs) (h : History) (items : List Entry) (old new : Lane) (c : Choice) (b : Begun)
    (legal : LegalAt w t (its_place w (Phase.starts a)) h) (stand : LaneStands w h a (entered t) old items) (rule : StartRule w h a t c) (begun : HasBegun w h t a c b new.outgoing)
    (rings : new.rings ≡ old.rings) (incoming : new.incoming ≡ old.incoming) (partner : new.partner ≡ old.partner) (setting : new.setting ≡ old.setting) (link : new.link ≡ old.link)
    (there : There w h a t Item.rest c) where
  -- the rest of the interrupted frame begins
  pub rest_started : (heard : Partner) (from to : ℕ) → StartsAs w t a heard from to old new (Some b) h items
  rest_started heard from to =
      started w t a a_lt h items old new c b legal stand rule begun incoming partner setting
      (subst (AreRings w (h ++ PlainEvent.begin (next_begin h t a c) ∷ []) a) (sym rings)
      (rings_stay h a (next_begin h t a c) refl w old.rings (rest_later w fit h t a a_lt legal.0 c there) stand.rings))
      (λ negotiates. subst (LinkStands w (h ++ begin_of h a t c ∷ []) a (t + 1)) (sym link) (other_begin w h a t c a_lt legal.0 old.link (stand.link negotiates) (rest_other w h a t c there)))
      heard from to
