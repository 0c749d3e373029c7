-- The part of an arc's ends.
use Rattle.std.proofs.Common.{ℕ, suc, ◌≡◌, ◌+◌, ◌<◌, Bool, true, List, [], ◌∷◌, ◌++◌, length, refl, sym, ◌∙◌, ap, arith, subst, Option, Some, None}
use Rattle.std.specs.Prelude.{IsTrue, ◌↔◌}
use Rattle.std.specs.List.{AllByRecursion as Every}
use Rattle.std.proofs.lemmas.List.{append-nil}
use Rattle.std.proofs.lemmas.List.Elements.{filter_map-append}
use Rattle.pre_rings.specs.declared.slots.FrameRef.{FrameRef}
use Rattle.pre_rings.specs.Stores.{HoldsFrame, IsOut}
use Rattle.pre_send.specs.Endings.{plans_end}
use Rattle.pre_send.specs.Owned.{frames_of, frames_done}
use Rattle.pre_history.specs.Scenario.{Scenario, arc, FrameOf}
use Rattle.pre_history.specs.History.{PlainEvent, Begin, Ended, History}
use Rattle.pre_history.specs.Moments.{Phase}
use Rattle.pre_history.specs.Placed.{number, moment_of}
use Rattle.pre_history.specs.Selected.{begin_on, arrive_on, entry_on}
use Rattle.pre_history.specs.Queries.{Begins, Ends, Arrivals, Entries}
use Rattle.pre_history.specs.Octets.{WholeOf, SentOctets}
use Rattle.pre_history.specs.Rules.{HappensIn}
use Rattle.pre_history.specs.Legal.{LegalUpTo, LegalBefore}
use Rattle.pre_history.proofs.Moments.{ends_place}
use Rattle.pre_history.proofs.Undamaged.{length-FrameOf}
use Rattle.pre_bridge.specs.Inside.{Entry}
use Rattle.pre_outgoing.specs.declared.outgoing.Finished.{Finished}
use Rattle.pre_outgoing.specs.Sends.{Sends, Leaves, HasEnded, AreStored, AreHeld}
use Rattle.pre_incoming.specs.Flights.{OnWire}
use Rattle.pre_incoming.specs.Wires.{IsOnWire, Receives}
use Rattle.pre_incoming.proofs.Goings.{elsewhere}
use Rattle.pre_links.specs.Listening.{Hears}
use Rattle.pre_links.specs.Standing.{LinkStands}
use Rattle.pre_links.proofs.Phases.{still_hears}
use Rattle.pre_sim.specs.declared.lanes.Lane.{Lane}
use Rattle.pre_sim.specs.declared.ends.Leaving.{Leaving}
use Rattle.pre_sim.specs.Ending.{IsLeaving, without}
use Rattle.pre_sim.specs.Keeps.{Store, LaneKeeps, IsUnderWay, KeepsOn}
use Rattle.pre_sim.specs.Stages.{set_up, stage_at}
use Rattle.pre_sim.specs.Stands.{AreRings, AreInside, LaneStands}
use Rattle.pre_sim.specs.Parts.{Before, After, LegalAt, LanePart, LaneFront}
use Rattle.pre_sim.proofs.Keeping.{keep_same, keep_lane, keep_ended}
use Rattle.pre_sim.proofs.Lists.{every_weaker, within}
use Rattle.pre_sim.proofs.Others.{same_rings}
use Rattle.pre_sim.proofs.StageTests.{is_set_up}

-- ---- the frames that a sender has

module _ (w : Scenario) (store : Store) (a : ℕ) (lane : Lane) (keeps : LaneKeeps w store a lane) where
  is_held : (f : FrameRef) → IsUnderWay w store a f → HoldsFrame store f
  is_held f on =
      let frame = on.frame in
      (FrameOf w f.frame.0, frame.held, length-FrameOf w f.frame.0 (omega (arith, frame.long, frame.size)) ∙ sym frame.size)

  pub all_held : AreHeld store (frames_of lane.outgoing.sender)
  all_held = every_weaker (IsUnderWay w store a) (HoldsFrame store) is_held (frames_of lane.outgoing.sender) keeps.sending

  pub all_stored : AreStored w store (frames_of lane.outgoing.sender)
  all_stored = every_weaker (IsUnderWay w store a) _ (λ f on. on.frame.held) (frames_of lane.outgoing.sender) keeps.sending

-- ---- an arc of which nothing ends

module _ (w : Scenario) (t a : ℕ) (a_lt : a < length w.net.arcs) (old : Lane) where
  abbrev A : ℕ
  A = length w.net.arcs

  pub its_stage : stage_at A t (1 + a) a ≡ set_up t
  its_stage = is_set_up A t (1 + a) a (omega arith) (omega arith)

  next_stage : stage_at A t (1 + a + 1) a ≡ set_up t
  next_stage = is_set_up A t (1 + a + 1) a (omega arith) (omega (arith, a_lt))

  -- the history goes on at the next place
  pub goes : (h es : History) → LegalAt w t (1 + a) h → HappensIn w h t (Phase.ends a) es → LegalAt w t (1 + a + 1) (h ++ es)
  goes h es legal happens =
      subst (LegalBefore w (h ++ es)) (next A t a) (elsewhere w h es t (1 + a) (Phase.ends a) (omega (arith, a_lt)) (ends_place A a a_lt) legal happens (λ b e. absurd (cc e)))
    where
      next : (A t a : ℕ) → suc (number A t (1 + a)) ≡ number A t (1 + a + 1)
      next A t a = omega arith

  pub quiet_part : (store : Store) → ((h : History) → LegalUpTo w (number A t (1 + a)) h → Sends w h a t true old.outgoing → HappensIn w h t (Phase.ends a) [])
      → LanePart w t (Phase.ends a) a None old 0 store store old [] []
  quiet_part store none = record {
    arc = tt;
    deliveries = refl;
    drops = refl;
    here = tt;
    goes = λ h items b.
        let stand = subst (λ s. LaneStands w h a s old items) its_stage b.stands in
        let happens = none h b.legal.0 stand.outgoing in
        record {
          happens = happens;
          legal = goes h [] b.legal happens;
          stands = subst (λ g. LaneStands w g a (stage_at A t (1 + a + 1) a) old (items ++ [])) (sym (append-nil h))
              (subst (λ xs. LaneStands w h a (stage_at A t (1 + a + 1) a) old xs) (sym (append-nil items)) (subst (λ s. LaneStands w h a s old items) (sym next_stage) stand));
        };
    keeps = keep_same w a store old;
  }

-- ---- an arc of which an mPacket ends

module _ (w : Scenario) (t a : ℕ) (a_lt : a < length w.net.arcs) (store : Store) (old new : Lane) (keeps : LaneKeeps w store a old) (l : Leaving) (f : Finished) (p : OnWire) (sent : List ℕ)
    (leaves : IsLeaving store old.outgoing l sent) (due : plans_end old.outgoing.sender ≡ Some t)
    (ends : (h : History) (e : Ended) → LegalUpTo w (number (length w.net.arcs) t (1 + a)) h → Sends w h a t true old.outgoing → AreStored w store (frames_of old.outgoing.sender)
    → HappensIn w h t (Phase.ends a) (PlainEvent.ended e ∷ []) → HasEnded w h t a e f new.outgoing)
    (pushed : (h : History) (e : Ended) → e.arc ≡ a → LegalUpTo w (moment_of w e.tick (Phase.ends a)) h → IsOnWire w h a p e → Receives w h a old.incoming
    → Receives w (h ++ PlainEvent.ended e ∷ []) a new.incoming)
    (linked : (h : History) (e : Ended) → LegalUpTo w (moment_of w t (Phase.ends a)) h → LinkStands w h a t old.link → e.arc ≡ a → e.tick ≡ t → e.ord ≡ length (Ends h a)
    → length (Ends h a) < length (Begins h a)
    → LinkStands w (h ++ PlainEvent.ended e ∷ []) a t new.link)
    (ord : p.ord ≡ f.ord) (carries : p.what ≡ f.what) (is_last : p.is_last ≡ f.is_last) (kind : p.kind ≡ l.kind) (octets : p.octets ≡ sent) (its_due : p.due.0 ≡ t + (arc w a).delay)
    (rings : new.rings ≡ old.rings) (partner : new.partner ≡ old.partner) (setting : new.setting ≡ old.setting) where
  abbrev told : Ended
  told = record { tick = t; arc = a; ord = f.ord; size = f.size; check = l.check }

  -- the event by the rules
  module _ (h : History) (items : List Entry) (b : Before w t (Phase.ends a) a None old h items) where
    stand : LaneStands w h a (set_up t) old items
    stand = subst (λ s. LaneStands w h a s old items) (its_stage w t a a_lt old) b.stands

    left : Leaves w h t a (record { kind = l.kind; mdata = leaves.mdata; check = l.check })
    left = leaves.leaves w h t a a_lt b.legal.0 stand.outgoing (all_stored w store a old keeps) due

    abbrev next : Ended
    next = record { tick = t; arc = a; ord = length (Ends h a); size = left.size; check = l.check }

    ended : HasEnded w h t a next f new.outgoing
    ended = ends h next b.legal.0 stand.outgoing (all_stored w store a old keeps) left.happens

    told_is : next ≡ told
    told_is = λ i. record { tick = t; arc = a; ord = sym ended.ord i; size = sym ended.size i; check = l.check }

    same_begin : ended.begin ≡ left.begin
    same_begin = cc (ended.newest, left.newest)

    on_wire : IsOnWire w h a p next
    on_wire = record {
      begin = ended.begin;
      begun = ended.newest;
      its_ord = ord ∙ ended.ord;
      kind = kind ∙ (left.kind ∙ sym (ap (λ (x : Begin). x.kind) same_begin));
      carries = carries ∙ ended.carries;
      is_last = subst (λ (x : Bool). IsTrue x ↔ (ended.begin.from + left.size ≡ length (WholeOf w h ended.begin))) (sym is_last) ended.last;
      octets = octets ∙ (leaves.octets ∙ (left.sent ∙ ap (λ (x : Begin). SentOctets w h x next) (sym same_begin)));
      due = its_due;
    }

    happens : HappensIn w h t (Phase.ends a) (PlainEvent.ended told ∷ [])
    happens = subst (λ e. HappensIn w h t (Phase.ends a) (PlainEvent.ended e ∷ [])) told_is left.happens

    abbrev after : History
    after = h ++ PlainEvent.ended told ∷ []

    begins : Begins after a ≡ Begins h a
    begins = filter_map-append (begin_on a) h (PlainEvent.ended told ∷ []) ∙ append-nil (Begins h a)

    arrivals : Arrivals after a ≡ Arrivals h a
    arrivals = filter_map-append (arrive_on a) h (PlainEvent.ended told ∷ []) ∙ append-nil (Arrivals h a)

    entries : (q : ℕ) → Entries after a q ≡ Entries h a q
    entries q = filter_map-append (entry_on a q) h (PlainEvent.ended told ∷ []) ∙ append-nil (Entries h a q)

    now : LaneStands w after a (set_up t) new (items ++ [])
    now = record {
      rings = subst (AreRings w after a) (sym rings) (same_rings w h (PlainEvent.ended told ∷ []) a old begins entries stand.rings);
      outgoing = subst (λ e. Sends w (h ++ PlainEvent.ended e ∷ []) a t true new.outgoing) told_is ended.sends;
      incoming = subst (λ e. Receives w (h ++ PlainEvent.ended e ∷ []) a new.incoming) told_is (pushed h next refl b.legal.0 on_wire stand.incoming);
      partner = subst (Hears w after a) (sym partner) (still_hears w t (Phase.ends a) h (PlainEvent.ended told ∷ []) a a_lt (a_lt, refl) b.legal.0 happens old.partner
          (omega (arith, a_lt)) stand.partner);
      setting = setting ∙ stand.setting;
      link = λ negotiates. subst (λ e. LinkStands w (h ++ PlainEvent.ended e ∷ []) a t new.link) told_is
          (linked h next b.legal.0 (stand.link negotiates) refl refl refl (within (Begins h a) (length (Ends h a)) left.begin left.newest));
      inside = subst (λ xs. AreInside w a (Begins after a) (Arrivals after a) t xs) (sym (append-nil items))
          (subst (λ xs. AreInside w a (Begins after a) xs t items) (sym arrivals) (subst (λ bs. AreInside w a bs (Arrivals h a) t items) (sym begins) stand.inside));
    }

    pub done : After w t (Phase.ends a) a None old new h (items ++ []) (PlainEvent.ended told ∷ [])
    done = record {
      happens = happens;
      legal = goes w t a a_lt old h (PlainEvent.ended told ∷ []) b.legal happens;
      stands = subst (λ s. LaneStands w after a s new (items ++ [])) (sym (next_stage w t a a_lt old)) now;
    }

  keeps_on : (store' : Store) → store' ≡ without store f.done → frames_of old.outgoing.sender ≡ frames_done f.done ++ frames_of new.outgoing.sender → KeepsOn w a store store' old new []
  keeps_on store' is frames = subst (λ s. KeepsOn w a store s old new []) (sym is) (go f.done frames)
    where
      go : (d : Option FrameRef) → frames_of old.outgoing.sender ≡ frames_done d ++ frames_of new.outgoing.sender → KeepsOn w a store (without store d) old new []
      go None same = keep_lane w a store old new rings (sym same)
      go (Some g) same = keep_ended w a store old new g rings same

  pub ended_part : (store' : Store) → store' ≡ without store f.done → frames_of old.outgoing.sender ≡ frames_done f.done ++ frames_of new.outgoing.sender
      → LanePart w t (Phase.ends a) a None old 0 store store' new [] (PlainEvent.ended told ∷ [])
  ended_part store' is frames = record {
    arc = (refl, tt);
    deliveries = refl;
    drops = refl;
    here = tt;
    goes = λ h items b. done h items b;
    keeps = keeps_on store' is frames;
  }

  pub ended_front : LaneFront w t (Phase.ends a) a None old (PlainEvent.ended told ∷ [])
  ended_front h items b =
      let x = done h items b in
      (number (length w.net.arcs) t (1 + a + 1), [], subst (λ g. LegalAt w t (1 + a + 1) g) (sym (append-nil (h ++ PlainEvent.ended told ∷ []))) x.legal)

-- a frame that has ended holds its slot
pub done_is_out : (store : Store) (o : List FrameRef) (d : Option FrameRef) (rest : List FrameRef) → AreHeld store o → o ≡ frames_done d ++ rest
    → Every (λ (f : FrameRef). IsOut store f.slot) (frames_done d)
done_is_out store o None rest held is = tt
done_is_out store o (Some f) rest held is = let first = (subst (AreHeld store) is held).0 in (rw first.1 refl, tt)
