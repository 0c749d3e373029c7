-- What a part of a tick does: from a history that is legal before it to one that is legal after it.
use Rattle.std.specs.Prelude.{ℕ, ◌+◌, ◌*◌, ◌≡◌, ◌≢◌, ◌<◌, ◌≤◌, ◌⊎◌, Bool, true, false, List, [], ◌∷◌}
use Rattle.std.specs.Prelude.{◌++◌, length, set, count_by, cond, nat_le, Option, Some, None, Result, Ok, Err}
use Rattle.std.specs.List.{AllByRecursion as Every}
use Rattle.pre_rings.specs.declared.slots.FrameRef.{FrameRef}
use Rattle.pre_rings.specs.Ports.{Port, frames_at, capacity_at, with_frames}
use Rattle.pre_topo.specs.declared.network.Network.{Network}
use Rattle.pre_topo.specs.Arcs.{reverse_of}
use Rattle.pre_history.specs.Scenario.{Scenario, send}
use Rattle.pre_history.specs.Moments.{Phase, place_of}
use Rattle.pre_history.specs.Placed.{number}
use Rattle.pre_history.specs.History.{PlainEvent, History}
use Rattle.pre_history.specs.Written.{IsWritten, AreWritten}
use Rattle.pre_history.specs.Selected.{is_dropped}
use Rattle.pre_history.specs.Queries.{Deliveries}
use Rattle.pre_history.specs.Rules.{HappensIn}
use Rattle.pre_history.specs.Legal.{LegalBefore, Legal, FirstAliasAt, CountLines}
use Rattle.pre_bridge.specs.declared.relays.Relay.{Relay}
use Rattle.pre_bridge.specs.Inside.{Call, Entry, inside}
use Rattle.pre_bridge.specs.Relays.{Stands}
use Rattle.pre_links.specs.declared.partners.Partner.{Partner}
use Rattle.pre_links.specs.Listening.{Hears}
use Rattle.pre_sim.specs.declared.halts.Halt.{Halt}
use Rattle.pre_sim.specs.declared.halts.Halt.TheVariants.{Stopped, Alias}
use Rattle.pre_sim.specs.declared.plans.Plan.{Plan}
use Rattle.pre_sim.specs.declared.ticks.Progress.{Progress}
use Rattle.pre_sim.specs.declared.lanes.Lane.{Lane}
use Rattle.pre_sim.specs.Telling.{TellsAll}
use Rattle.pre_sim.specs.Keeps.{Store, Keeps, KeepsOn, TakesIn}
use Rattle.pre_sim.specs.Stages.{stage_at}
use Rattle.pre_sim.specs.Stands.{LaneStands, LanesStand, AreSentBefore, AreSetBefore, Reaches}
use Rattle.pre_sim.specs.Sends.{ComesPart, ComesFront, KeepsCome, comes_to, drops_of, sent_frames}

-- What was told, by how the part ended: a whole part; or the front of one, which ends with the event at which the watcher
-- failed; or what comes before an arrival that is an alias.
abbrev pub TellsPart : {T : Type 0} → Network → Result T Halt → (List ℕ → History → Type 0) → (List ℕ → History → Type 0) → (List ℕ → History → PlainEvent → Type 0)
    → (T → History → Type 0) → (History → Type 0) → (ℕ → ℕ → History → Type 0) → Type 0
TellsPart net (Ok x) old new torn Whole Front Before = (es : History) × TellsAll net old new es × Whole x es
TellsPart net (Err (Alias arc ordinal)) old new torn Whole Front Before = (es : History) × TellsAll net old new es × Before arc.0 ordinal es
TellsPart net (Err Stopped) old new torn Whole Front Before =
    (es : History) × (e : PlainEvent) × AreWritten net es × IsWritten net e × ((base : List ℕ) (h : History) → old base h → torn base (h ++ es) e) × Front (es ++ e ∷ [])

-- in which no arrival is
abbrev pub NoArrival : ℕ → ℕ → History → Type 0
NoArrival a i es = ⊥

-- this event was told, or the watcher failed at it
abbrev pub TellsOne : {T : Type 0} → Network → Result T Halt → (List ℕ → History → Type 0) → (List ℕ → History → Type 0) → (List ℕ → History → PlainEvent → Type 0) → PlainEvent → Type 0
TellsOne net (Ok x) old new torn e = TellsAll net old new (e ∷ [])
TellsOne net (Err (Alias arc ordinal)) old new torn e = ⊥
TellsOne net (Err Stopped) old new torn e = IsWritten net e × ((base : List ℕ) (h : History) → old base h → torn base h e)

-- the history is legal before place k of the tick, and none of its arrivals is an alias
abbrev pub LegalAt : Scenario → ℕ → ℕ → History → Type 0
LegalAt w t k h = LegalBefore w h (number (length w.net.arcs) t k)

-- with some events behind it the history is such a one before some moment
abbrev pub IsFront : Scenario → History → Type 0
IsFront w h = (n : ℕ) × (rest : History) × LegalBefore w (h ++ rest) n

-- the event is of this arc alone
abbrev pub IsOn : ℕ → PlainEvent → Type 0
IsOn a (PlainEvent.begin b) = b.arc ≡ a
IsOn a (PlainEvent.ended e) = e.arc ≡ a
IsOn a (PlainEvent.arrive x) = x.arc ≡ a
IsOn a (PlainEvent.enter e) = e.arc ≡ a
IsOn a (PlainEvent.dropped e) = e.arc ≡ a
IsOn a (PlainEvent.deliver d) = Unit {0}
IsOn a (PlainEvent.set t b v) = Unit {0}
IsOn a (PlainEvent.active t b v) = b ≡ a
IsOn a (PlainEvent.count b c) = Unit {0}
IsOn a (PlainEvent.end e) = Unit {0}

-- one frame was delivered, or none
abbrev pub count_of : Bool → ℕ
count_of x = cond x 1 0

-- ---- the part of one arc, at a phase of the tick

-- what was received of the link partner, where it matters
abbrev pub HearsOf : Scenario → History → ℕ → Option Partner → Type 0
HearsOf w h a None = Unit {0}
HearsOf w h a (Some partner) = Hears w h (reverse_of a) partner

-- the place of a phase in its tick
abbrev pub its_place : Scenario → Phase → ℕ
its_place w p = place_of (length w.net.arcs) p

module _ (w : Scenario) (t : ℕ) (p : Phase) (a : ℕ) (partner : Option Partner) (old : Lane) where
  -- before the phase the lane stands for the events told
  pub record Before (h : History) (items : List Entry) : Type 0 where
    pub legal : LegalAt w t (its_place w p) h
    pub hears : HearsOf w h a partner
    pub stands : LaneStands w h a (stage_at (length w.net.arcs) t (its_place w p) a) old items

  abbrev pub LaneFront : History → Type 0
  LaneFront es = (h : History) (items : List Entry) → Before h items → IsFront w (h ++ es)

  -- some history leads there
  abbrev pub LaneReached : Type 0
  LaneReached = (h : History) × (items : List Entry) × Before h items

  -- Arrival i of the arc is an alias, and nothing of it is told.
  abbrev pub LaneAlias : ℕ → ℕ → History → Type 0
  LaneAlias b i es = (b ≡ a) × (es ≡ []) × ((h : History) (items : List Entry) → Before h items → FirstAliasAt w h t a i)

  -- After it these events have happened, and the lane stands for them too.
  pub record After (new : Lane) (h : History) (items : List Entry) (es : History) : Type 0 where
    pub happens : HappensIn w h t p es
    pub legal : LegalAt w t (its_place w p + 1) (h ++ es)
    pub stands : LaneStands w (h ++ es) a (stage_at (length w.net.arcs) t (its_place w p + 1) a) new items

  -- So many frames are delivered by it, and these come into the bridge at the arc's end.
  pub record LanePart (delivered : ℕ) (store store' : Store) (new : Lane) (more : List Entry) (es : History) : Type 0 where
    pub arc : Every (IsOn a) es
    pub deliveries : length (Deliveries es) ≡ delivered
    pub drops : count_by is_dropped es ≡ 0
    pub here : Every (λ e. e.arc ≡ a) more
    pub goes : (h : History) (items : List Entry) → Before h items → After new h (items ++ more) es
    pub keeps : KeepsOn w a store store' old new more

-- ---- the parts of the first n arcs, from place k on

pub record LanesPart (w : Scenario) (t k n delivered : ℕ) (store store' : Store) (old new : List Lane) (more : List Entry) (es : History) : Type 0 where
  pub deliveries : length (Deliveries es) ≡ delivered
  pub drops : count_by is_dropped es ≡ 0
  pub legal : (h : History) (entries : List Entry) → LegalAt w t k h → LanesStand w h t k old entries
      → LegalAt w t (k + n) (h ++ es) × LanesStand w (h ++ es) t (k + n) new (entries ++ more)
  pub keeps : (entries : List Entry) → Keeps w store old entries [] → Keeps w store' new (entries ++ more) []

abbrev pub LanesFront : (w : Scenario) (t k : ℕ) (old : List Lane) → History → Type 0
LanesFront w t k old es = (h : History) (entries : List Entry) → LegalAt w t k h → LanesStand w h t k old entries → IsFront w (h ++ es)

-- some history leads there
abbrev pub LanesReached : (w : Scenario) (t k : ℕ) (old : List Lane) → Type 0
LanesReached w t k old = (h : History) × (entries : List Entry) × LegalAt w t k h × LanesStand w h t k old entries

-- the part of an arc, or of the first n of them, at which frames arrive and go into the relay
abbrev pub ArrivalPart : (w : Scenario) (t a delivered : ℕ) → (store store' : Store) → (relay relay' : Relay) → (old new : Lane) → History → Type 0
ArrivalPart w t a delivered store store' relay relay' old new es = (more : List Entry) × LanePart w t (Phase.arrivals a) a None old delivered store store' new more es × TakesIn w relay relay' more

abbrev pub ArrivalsPart : (w : Scenario) (t k n delivered : ℕ) → (store store' : Store) → (relay relay' : Relay) → (old new : List Lane) → History → Type 0
ArrivalsPart w t k n delivered store store' relay relay' old new es = (more : List Entry) × LanesPart w t k n delivered store store' old new more es × TakesIn w relay relay' more

-- Some of the arrivals of the tick are told, and the next one, of an arc, is an alias.
abbrev pub ArrivalsAlias : (w : Scenario) (t : ℕ) (old : List Lane) → ℕ → ℕ → History → Type 0
ArrivalsAlias w t old a i es =
    (h : History) (entries : List Entry) → LegalAt w t (its_place w (Phase.arrivals 0)) h → LanesStand w h t (its_place w (Phase.arrivals 0)) old entries → FirstAliasAt w (h ++ es) t a i

-- ---- the entry of a frame, which is a part of the entries' moment

-- a frame that comes to a ring with room enters it and stands at its end, and one that comes to a full ring is dropped, and
-- its slot is in again
abbrev pub RingTells : (t a : ℕ) → FrameRef → (store store' : Store) → (old new : Port) → Bool → History → Type 0
RingTells t a f store store' old new true es =
    (length (frames_at old f.prio) < capacity_at old f.prio) × (new ≡ with_frames old f.prio (frames_at old f.prio ++ f ∷ [])) × (store' ≡ store)
    × (es ≡ PlainEvent.enter (record { tick = t; arc = a; prio = f.prio; frame = f.frame.0 }) ∷ [])
RingTells t a f store store' old new false es =
    (capacity_at old f.prio ≤ length (frames_at old f.prio)) × (new ≡ old) × (store' ≡ set store f.slot None)
    × (es ≡ PlainEvent.dropped (record { tick = t; arc = a; prio = f.prio; frame = f.frame.0 }) ∷ [])

-- what it tells
abbrev pub RingFront : (t a : ℕ) → FrameRef → (store : Store) → (old : Port) → History → Type 0
RingFront t a f store old es = (store' : Store) × (new : Port) × (entered : Bool) × RingTells t a f store store' old new entered es

-- what a run is given
abbrev pub scenario_of : Plan → Scenario
scenario_of plan = record { net = plan.net.now; streams = plan.streams.now; script = plan.script.now }

module _ (w : Scenario) (t a : ℕ) (f : FrameRef) (store store' : Store) (old : List Lane) where
  -- the frame came to its ring
  pub record ComePart (new : List Lane) (entered : Bool) (es : History) : Type 0 where
    pub comes : ComesPart w t (comes_to a f ∷ []) old new (drops_of entered) es
    pub keeps : KeepsCome w store store' old new f

-- ---- what the script sets at a tick

module _ (w : Scenario) (t : ℕ) (old : Progress) where
  pub record SetsPart (new : Progress) (es : History) : Type 0 where
    pub deliveries : length (Deliveries es) ≡ 0
    pub drops : count_by is_dropped es ≡ 0
    pub kept : (new.relay ≡ old.relay) × (new.store ≡ old.store) × (new.sent ≡ old.sent) × (new.delivered ≡ old.delivered) × (new.dropped ≡ old.dropped)
    pub legal : (h : History) (entries : List Entry) → LegalAt w t 0 h → LanesStand w h t 0 old.lanes.items entries → AreSetBefore w t old.set
        → LegalAt w t 1 (h ++ es) × LanesStand w (h ++ es) t 1 new.lanes.items entries × AreSetBefore w (t + 1) new.set
    pub keeps : (entries : List Entry) → Keeps w old.store old.lanes.items entries [] → Keeps w old.store new.lanes.items entries []

  abbrev pub SetsFront : History → Type 0
  SetsFront es = (h : History) (entries : List Entry) → LegalAt w t 0 h → LanesStand w h t 0 old.lanes.items entries → AreSetBefore w t old.set → IsFront w (h ++ es)

-- ---- the entries of a tick

module _ (w : Scenario) (t : ℕ) (old : Progress) where
  -- the next so many frames of the script are those of the tick, and come to their rings
  pub record SendsPart (new : Progress) (es : History) : Type 0 where
    pub count : ℕ
    pub sent : new.sent ≡ old.sent + count
    pub within : old.sent ≤ length w.script.sends → new.sent ≤ length w.script.sends
    pub now : (k : ℕ) → old.sent ≤ k → k < new.sent → (send w k).send.tick.0 ≡ t
    pub over : new.sent < length w.script.sends → (send w new.sent).send.tick.0 ≢ t
    pub delivered : new.delivered ≡ old.delivered
    pub set : new.set ≡ old.set
    pub lost : ℕ
    pub dropped : new.dropped ≡ old.dropped + lost
    pub part : ComesPart w t (sent_frames w old.sent count) old.lanes.items new.lanes.items lost es
    pub relay : new.relay ≡ old.relay

  -- what was told is of the first ones of the tick
  abbrev pub SendsFront : History → Type 0
  SendsFront es =
      (count : ℕ) × (old.sent + count ≤ length w.script.sends) × ((k : ℕ) → old.sent ≤ k → k < old.sent + count → (send w k).send.tick.0 ≡ t)
      × ComesFront w t (sent_frames w old.sent count) old.lanes.items es

  -- the frames that bridges hand on and the sends of the tick come to their rings, one after another
  pub record EntriesPart (new : Progress) (es : History) : Type 0 where
    pub deliveries : length (Deliveries es) ≡ 0
    pub drops : new.dropped ≡ old.dropped + count_by is_dropped es
    pub delivered : new.delivered ≡ old.delivered
    pub set : new.set ≡ old.set
    pub legal : (h : History) (calls : List Call) → LegalAt w t (1 + 3 * length w.net.arcs) h → Stands old.relay w.net w.streams calls
        → LanesStand w h t (1 + 3 * length w.net.arcs) old.lanes.items (inside w.net w.streams calls) → AreSentBefore w t old.sent
        → LegalAt w t (2 + 3 * length w.net.arcs) (h ++ es) × AreSentBefore w (t + 1) new.sent
        × ((calls' : List Call) × Stands new.relay w.net w.streams calls' × LanesStand w (h ++ es) t (2 + 3 * length w.net.arcs) new.lanes.items (inside w.net w.streams calls'))

  abbrev pub EntriesFront : History → Type 0
  EntriesFront es = (h : History) (calls : List Call) → LegalAt w t (1 + 3 * length w.net.arcs) h → Stands old.relay w.net w.streams calls
      → LanesStand w h t (1 + 3 * length w.net.arcs) old.lanes.items (inside w.net w.streams calls) → AreSentBefore w t old.sent → IsFront w (h ++ es)

-- ---- parts of a tick after one another

module _ (w : Scenario) (t k t' k' : ℕ) (old new : Progress) where
  -- it carries what was told from one place on to another
  abbrev pub Carries : History → Type 0
  Carries es = (h : History) → Reaches w t k h old → Reaches w t' k' (h ++ es) new

module _ (w : Scenario) (t k : ℕ) (old : Progress) where
  -- it ended early
  abbrev pub CarriesFront : History → Type 0
  CarriesFront es = (h : History) → Reaches w t k h old → IsFront w (h ++ es)

  -- it ended before an alias, of an arrival that is due at the tick
  abbrev pub CarriesAlias : ℕ → ℕ → History → Type 0
  CarriesAlias a i es = (h : History) → Reaches w t k h old → FirstAliasAt w (h ++ es) t a i

  -- some history leads there
  abbrev pub IsReached : Type 0
  IsReached = (h : History) × Reaches w t k h old

-- the whole tick
abbrev pub TickPart : Scenario → ℕ → (old new : Progress) → History → Type 0
TickPart w t old new es = Carries w t 0 (t + 1) 0 old new es

abbrev pub TickFront : Scenario → ℕ → Progress → History → Type 0
TickFront w t old es = CarriesFront w t 0 old es

-- ---- the end of a run

-- what closes a run that came so far: the `count` lines of its arcs, and the end
abbrev pub end_event : Scenario → Progress → PlainEvent
end_event w p =
    PlainEvent.end (record {
      until = w.script.until.0;
      sent = count_by (λ s. nat_le s.send.tick.0 w.script.until.0) w.script.sends;
      delivered = p.delivered;
      dropped = p.dropped;
    })

-- with some events behind it the history is legal, or legal before some moment
abbrev pub IsFrontOfLegal : Scenario → History → Type 0
IsFrontOfLegal w h = (rest : History) × (Legal w (h ++ rest) ⊎ ((n : ℕ) × LegalBefore w (h ++ rest) n))

module _ (w : Scenario) (p : Progress) where
  -- The `count` lines of the first n arcs.
  abbrev pub CountsPart : ℕ → History → Type 0
  CountsPart n es = (h : History) → Reaches w (w.script.until.0 + 1) 0 h p → CountLines w h n es

  abbrev pub CountsFront : History → Type 0
  CountsFront es = (h : History) → Reaches w (w.script.until.0 + 1) 0 h p → (rest : History) × CountLines w h (length w.net.arcs) (es ++ rest)

  -- the closing events
  abbrev pub ClosesPart : History → Type 0
  ClosesPart es = (h : History) → Reaches w (w.script.until.0 + 1) 0 h p → Legal w (h ++ es)

  abbrev pub ClosesFront : History → Type 0
  ClosesFront es = (h : History) → Reaches w (w.script.until.0 + 1) 0 h p → IsFrontOfLegal w (h ++ es)

module _ (w : Scenario) (t : ℕ) (old : Progress) where
  -- at the last tick the closing events follow
  abbrev pub AdvancePart : Progress → Bool → History → Type 0
  AdvancePart new false es = TickPart w t old new es
  AdvancePart new true es = (h : History) → Reaches w t 0 h old → Legal w (h ++ es)

  abbrev pub AdvanceFront : History → Type 0
  AdvanceFront es = (h : History) → Reaches w t 0 h old → IsFrontOfLegal w (h ++ es)
