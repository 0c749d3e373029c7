-- What becomes of frames that come to rings, one after another.
use Rattle.std.specs.Prelude.{ℕ, zero, suc, ◌+◌, ◌<◌, ◌≤◌, ◌≡◌, ◌≢◌, min, Bool, true, false, List, [], ◌∷◌}
use Rattle.std.specs.Prelude.{◌++◌, length, map, take, count_by, replicate, Contains, Some, slice_get}
use Rattle.std.specs.List.{AllByRecursion as Every}
use Rattle.pre_rings.specs.declared.slots.FrameRef.{FrameRef}
use Rattle.pre_history.specs.Scenario.{Scenario}
use Rattle.pre_history.specs.History.{History}
use Rattle.pre_history.specs.Selected.{what_is, is_dropped}
use Rattle.pre_history.specs.Queries.{Begins, Entries, Deliveries}
use Rattle.pre_history.specs.Comings.{Coming, first_arc, hops, EntriesOf}
use Rattle.pre_bridge.specs.declared.relays.Relay.{Relay}
use Rattle.pre_bridge.specs.Inside.{Call, Entry, taken, inside}
use Rattle.pre_bridge.specs.Turns.{dues}
use Rattle.pre_bridge.specs.Relays.{Stands}
use Rattle.pre_sim.specs.declared.lanes.Lane.{Lane}
use Rattle.pre_sim.specs.Stands.{RingsStand}
use Rattle.pre_sim.specs.Keeps.{Store, Keeps}

-- All mPackets began at earlier ticks, and all that came to a ring came by this one.
pub record BeforeEntries (t : ℕ) (h : History) : Type 0 where
  pub begins : (a : ℕ) → Every (λ b. b.tick < t) (Begins h a)
  pub entries : (a p : ℕ) → Every (λ e. e.tick ≤ t) (Entries h a p)

-- The frame is one of the script's, and comes to an arc of its route for the first time.
pub record IsNew (w : Scenario) (h : History) (c : Coming) : Type 0 where
  pub known : c.frame < length w.script.sends
  pub onroute : Contains (hops w c.frame) c.arc
  pub unbegun : Every (λ b. what_is b.what c.frame ≡ false) (Begins h c.arc)
  pub uncome : (p : ℕ) → Every (λ e. e.frame ≢ c.frame) (Entries h c.arc p)

-- So do these, and no two of them are one frame on one arc.
abbrev pub AreNew : Scenario → History → List Coming → Type 0
AreNew w h [] = Unit {0}
AreNew w h (c ∷ cs) = IsNew w h c × Every (λ d. c.arc ≡ d.arc → c.frame ≢ d.frame) cs × AreNew w h cs

-- a frame that didn't enter its ring was dropped
abbrev pub drops_of : Bool → ℕ
drops_of true = 0
drops_of false = 1

-- ---- which frames come

-- a frame that leaves a bridge comes to the ring of its next arc
abbrev pub coming_of : Entry → Coming
coming_of e = record { arc = e.next.0; frame = e.frame.frame.0 }

-- what the bridges hand on at the tick, of which there are no more than arcs
abbrev pub handed_on : Scenario → ℕ → List Entry → List Coming
handed_on w t entries = map coming_of (take (length w.net.arcs) (dues t (length w.net.arcs) entries))

-- frame k at the first arc of its route
abbrev pub sent_frame : Scenario → ℕ → Coming
sent_frame w k = record { arc = first_arc w k; frame = k }

-- the next n frames of the script
abbrev pub sent_frames : Scenario → ℕ → ℕ → List Coming
sent_frames w k zero = []
sent_frames w k (suc n) = sent_frames w k n ++ sent_frame w (k + n) ∷ []

-- ---- what becomes of them

-- all of a lane but its rings is as it was
pub record SameButRings (old new : Lane) : Type 0 where
  pub outgoing : new.outgoing ≡ old.outgoing
  pub incoming : new.incoming ≡ old.incoming
  pub partner : new.partner ≡ old.partner
  pub setting : new.setting ≡ old.setting
  pub link : new.link ≡ old.link

-- so it is of each lane
abbrev pub AreSameButRings : List Lane → List Lane → Type 0
AreSameButRings old new = (a : ℕ) (lane : Lane) → slice_get new a ≡ Some lane → (was : Lane) × (slice_get old a ≡ Some was) × SameButRings was lane

module _ (w : Scenario) (t : ℕ) (cs : List Coming) (old : List Lane) where
  -- these events are what the rules say of them, and the rings stand behind them
  abbrev pub Come : List Lane → History → Type 0
  Come new es = (h : History) → AreNew w h cs → RingsStand w h old → BeforeEntries t h
      → (es ≡ EntriesOf w t h cs) × RingsStand w (h ++ es) new × BeforeEntries t (h ++ es)

  -- they came to their rings, nothing else changed, and what became of each was told
  pub record ComesPart (new : List Lane) (lost : ℕ) (es : History) : Type 0 where
    pub deliveries : length (Deliveries es) ≡ 0
    pub drops : lost ≡ count_by is_dropped es
    pub others : AreSameButRings old new
    pub come : Come new es

  -- what was told is of the first ones
  abbrev pub ComesFront : History → Type 0
  ComesFront es = (h : History) → AreNew w h cs → RingsStand w h old → BeforeEntries t h
      → (front : List Coming) × (rest : List Coming) × (cs ≡ front ++ rest) × (es ≡ EntriesOf w t h front)

-- the frame comes to the arc
abbrev pub comes_to : ℕ → FrameRef → Coming
comes_to a f = record { arc = a; frame = f.frame.0 }

-- a frame that was on its way has come to a ring, or its slot is in again
abbrev pub KeepsCome : Scenario → (store store' : Store) → (old new : List Lane) → FrameRef → Type 0
KeepsCome w store store' old new f = (entries : List Entry) → Keeps w store old entries (f ∷ []) → Keeps w store' new entries []

-- a frame was sent, and has come to a ring, or its slot is in again
abbrev pub KeepsSame : Scenario → (store store' : Store) → (old new : List Lane) → Type 0
KeepsSame w store store' old new = (entries : List Entry) → Keeps w store old entries [] → Keeps w store' new entries []

-- ---- what bridges hand on

-- What came out of the relay came to its rings; and it was asked once for each arc, or until nothing more was due.
module _ (w : Scenario) (t : ℕ) (relay : Relay) (old : List Lane) where
  pub record RelaysPart (relay' : Relay) (new : List Lane) (lost : ℕ) (es : History) : Type 0 where
    pub deliveries : length (Deliveries es) ≡ 0
    pub drops : lost ≡ count_by is_dropped es
    pub come : (calls : List Call) → Stands relay w.net w.streams calls → ComesPart w t (handed_on w t (inside w.net w.streams calls)) old new lost es
    pub left : (calls : List Call) → Stands relay w.net w.streams calls
        → (n : ℕ) × Stands relay' w.net w.streams (calls ++ replicate n (taken t)) × (min (length w.net.arcs) (length (dues t (length w.net.arcs) (inside w.net w.streams calls))) ≤ n)

  abbrev pub RelaysFront : History → Type 0
  RelaysFront es = (calls : List Call) → Stands relay w.net w.streams calls → ComesFront w t (handed_on w t (inside w.net w.streams calls)) old es
