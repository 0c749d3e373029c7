-- A frame that waited in a ring begins.
use Rattle.std.proofs.Common.{ℕ, ◌≡◌, ◌≢◌, ◌+◌, ◌<◌, ◌≤◌, List, [], ◌∷◌, ◌++◌, length, refl, sym, ◌∙◌, arith, subst, Option, Some, None}
use Rattle.std.specs.Prelude.{slice_get}
use Rattle.std.specs.List.{AllByRecursion as Every}
use Rattle.pre_base.specs.declared.limits.TheConstants.{LEAST_FRAME, GREATEST_FRAME}
use Rattle.pre_topo.specs.declared.arcs.Arc.{Arc}
use Rattle.pre_mpacket.specs.declared.packets.Kind.{Kind}
use Rattle.pre_mpacket.specs.declared.packets.Kind.TheVariants as kind
use Rattle.pre_rings.specs.declared.slots.FrameRef.{FrameRef}
use Rattle.pre_rings.specs.Ports.{Port}
use Rattle.pre_history.specs.Scenario.{Scenario, arc, no_arc, FrameOf}
use Rattle.pre_history.specs.History.{History}
use Rattle.pre_history.specs.Moments.{Phase}
use Rattle.pre_history.specs.Starts.{Choice, Item, There, StartRule, whole_frame}
use Rattle.pre_history.specs.Placed.{moment_of}
use Rattle.pre_history.specs.Legal.{LegalUpTo}
use Rattle.pre_history.proofs.Undamaged.{length-FrameOf}
use Rattle.pre_laws.proofs.Fitting.{is_routed}
use Rattle.pre_bridge.specs.Inside.{Entry}
use Rattle.pre_links.specs.declared.partners.Partner.{Partner}
use Rattle.pre_links.specs.Standing.{LinkStands, begin_of}
use Rattle.pre_links.proofs.Begun.{other_begin}
use Rattle.pre_outgoing.specs.declared.outgoing.Begun.{Begun}
use Rattle.pre_outgoing.specs.Sends.{HasBegun, next_begin}
use Rattle.pre_sim.specs.declared.lanes.Lane.{Lane}
use Rattle.pre_sim.specs.Reach.{AllFit}
use Rattle.pre_sim.specs.Keeps.{Store, Waits, LaneKeeps}
use Rattle.pre_sim.specs.Choices.{NoneWaits, LeavesFirst}
use Rattle.pre_sim.specs.Stages.{entered}
use Rattle.pre_sim.specs.Stands.{AreRings, LaneStands}
use Rattle.pre_sim.specs.Parts.{LegalAt, its_place}
use Rattle.pre_sim.specs.Starting.{StartsAs}
use Rattle.pre_sim.proofs.BegunLanes.{started}
use Rattle.pre_sim.proofs.LeftRings.{rings_left}
use Rattle.pre_sim.proofs.Lists.{read_at}
use Rattle.pre_sim.proofs.WaitingNow.{no_front}

-- the least express priority of an arc is one of the eight, and not the least of all
pub express_from_within : (w : Scenario) (a : ℕ) (link : Arc) → a < length w.net.arcs → slice_get w.net.arcs a ≡ Some link → (1 ≤ link.express_from) × (link.express_from ≤ 7)
express_from_within w a link a_lt found =
    let rules = w.net.rules.each_arc a no_arc a_lt in
    subst (λ (x : Arc). (1 ≤ x.express_from) × (x.express_from ≤ 7)) (read_at w.net.arcs a link no_arc found) rules.express_from

-- a lane is the one whose rings it has
pub same_lane : (old : Lane) (rings : Port) → rings ≡ old.rings
    → record { rings = rings; outgoing = old.outgoing; incoming = old.incoming; partner = old.partner; setting = old.setting; link = old.link } ≡ old
same_lane old rings is i = record { rings = is i; outgoing = old.outgoing; incoming = old.incoming; partner = old.partner; setting = old.setting; link = old.link }

-- where the express rings are empty, no express frame is there
pub none_express : (w : Scenario) (h : History) (t a : ℕ) → a < length w.net.arcs → LegalUpTo w (moment_of w t (Phase.starts a)) h → (rings : Port) → AreRings w h a rings → (link : Arc)
    → slice_get w.net.arcs a ≡ Some link
    → NoneWaits link.express_from 7 rings → (c : Choice) → ¬ There w h a t Item.express c
none_express w h t a a_lt legal rings are link found none c (f, front, is) =
    no_front w h t a a_lt legal rings are (arc w a).express_from 7 8 f refl (subst (λ (x : Arc). NoneWaits x.express_from 7 rings) (sym (read_at w.net.arcs a link no_arc found)) none) front

-- what begins, or that nothing does, from a lane that stayed till then
pub starts_since : (w : Scenario) (t a : ℕ) (heard : Partner) (from since to : ℕ) (old mid new : Lane) (b : Option Begun) (h : History) (items : List Entry) → mid ≡ old
    → StartsAs w t a heard since to mid new b h items → StartsAs w t a heard from to old new b h items
starts_since w t a heard from since to old mid new None h items same (none, stays) = (none, stays ∙ same)
starts_since w t a heard from since to old mid new (Some b) h items same starts = starts

-- a kind in which a frame begins
abbrev pub IsFirstKind : Kind → Type 0
IsFirstKind kind.Express = Unit {0}
IsFirstKind (kind.Start c) = Unit {0}
IsFirstKind (kind.Continue c n) = ⊥
IsFirstKind kind.Verify = ⊥
IsFirstKind kind.Respond = ⊥

module _ (w : Scenario) (fit : AllFit w.net w.streams w.script) (t a : ℕ) (a_lt : a < length w.net.arcs) (store : Store) (old new : Lane) (keeps : LaneKeeps w store a old) (least greatest : ℕ)
    (few : greatest ≤ 7)
    (f : FrameRef) (leaves : LeavesFirst least greatest old.rings new.rings f) where
  waited : Waits w store a leaves.prio f
  waited = (subst (Every (Waits w store a leaves.prio)) leaves.front (keeps.waiting leaves.prio)).0

  -- it has the size of a frame
  pub has_size : (LEAST_FRAME ≤ f.size) × (f.size ≤ GREATEST_FRAME)
  has_size =
      let sizes = (is_routed w fit.streams_fit fit.script_fits).sizes f.frame.0 waited.frame.known in
      (waited.frame.long, omega (arith, waited.frame.size, sizes.1))

  -- that of the script's frame
  pub has_its_size : f.size ≡ length (FrameOf w f.frame.0)
  has_its_size = waited.frame.size ∙ sym (length-FrameOf w f.frame.0 (omega (arith, waited.frame.long, waited.frame.size)))

  module _ (h : History) (items : List Entry) (k : Kind) (first : IsFirstKind k) (b : Begun)
      (legal : LegalAt w t (its_place w (Phase.starts a)) h) (stand : LaneStands w h a (entered t) old items) (rule : StartRule w h a t (whole_frame f.frame.0 k))
      (begun : HasBegun w h t a (whole_frame f.frame.0 k) b new.outgoing)
      (incoming : new.incoming ≡ old.incoming) (partner : new.partner ≡ old.partner) (setting : new.setting ≡ old.setting) (link : new.link ≡ old.link) where
    no_verify : (k : Kind) → IsFirstKind k → k ≢ kind.Verify
    no_verify kind.Express first is = cc is
    no_verify (kind.Start c) first is = cc is
    no_verify (kind.Continue c n) first is = first
    no_verify kind.Verify first is = first
    no_verify kind.Respond first is = first

    no_respond : (k : Kind) → IsFirstKind k → k ≢ kind.Respond
    no_respond kind.Express first is = cc is
    no_respond (kind.Start c) first is = cc is
    no_respond (kind.Continue c n) first is = first
    no_respond kind.Verify first is = first
    no_respond kind.Respond first is = first

    -- the lane stands for it
    pub frame_started : (heard : Partner) (from to : ℕ) → StartsAs w t a heard from to old new (Some b) h items
    frame_started heard from to =
        started w t a a_lt h items old new (whole_frame f.frame.0 k) b legal stand rule begun incoming partner setting
        (rings_left h a (next_begin h t a (whole_frame f.frame.0 k)) refl w store old new.rings least greatest f few keeps leaves refl refl stand.rings)
        (λ negotiates. subst (LinkStands w (h ++ begin_of h a t (whole_frame f.frame.0 k) ∷ []) a (t + 1)) (sym link)
        (other_begin w h a t (whole_frame f.frame.0 k) a_lt legal.0 old.link (stand.link negotiates)
        (record { no_verify = no_verify k first; no_respond = no_respond k first; no_lldp = λ is. cc is })))
        heard from to
