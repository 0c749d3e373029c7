-- Where the frames of a run stand: each that waits, is being sent, is interrupted or is inside a bridge stands in a slot of the
-- store, no two stand in one slot, and no other slot is out. What is on a wire has octets of its own.
use Rattle.std.specs.Prelude.{ℕ, ◌+◌, ◌≡◌, ◌<◌, ◌≤◌, ◌==◌, List, [], ◌++◌, length, map, count_by, set, slice_get, Contains, Option, Some}
use Rattle.std.specs.List.{sum_by, AllByRecursion as Every}
use Rattle.pre_base.specs.declared.limits.TheConstants.{LEAST_FRAME}
use Rattle.pre_base.specs.declared.numbers.FrameNo.{FrameNo}
use Rattle.pre_rings.specs.declared.slots.FrameRef.{FrameRef}
use Rattle.pre_rings.specs.Ports.{IsPort, frames_at, capacity_at}
use Rattle.pre_rings.specs.Stores.{HoldsAt}
use Rattle.pre_topo.specs.Memory.{slots}
use Rattle.pre_topo.specs.declared.nodes.NodeKind.TheVariants.{Bridge}
use Rattle.pre_history.specs.Scenario.{Scenario, arc, row, send, FrameOf}
use Rattle.pre_history.specs.Comings.{hops}
use Rattle.pre_bridge.specs.declared.relays.Relay.{Relay}
use Rattle.pre_send.specs.Owned.{frames_of}
use Rattle.pre_links.specs.Standing.{IsReady, IsUpTo}
use Rattle.pre_bridge.specs.Inside.{Call, Entry, inside}
use Rattle.pre_bridge.specs.Relays.{Stands}
use Rattle.pre_memory.specs.Slots.{Held, frames_held, slots_out}
use Rattle.pre_memory.specs.Stations.{LeadsTo}
use Rattle.pre_sim.specs.declared.lanes.Lane.{Lane}
use Rattle.pre_sim.specs.declared.ticks.Progress.{Progress}

-- for each slot the octets that it holds, where it is out
abbrev pub Store : Type 0
Store = List (Option (List ℕ))

-- The frame is one of the script's, and its octets stand in its slot.
pub record IsFrameOf (w : Scenario) (store : Store) (f : FrameRef) : Type 0 where
  pub known : f.frame.0 < length w.script.sends
  pub prio : f.prio ≡ (row w f.frame.0).prio
  pub vid : f.vid ≡ (row w f.frame.0).vid
  pub size : f.size ≡ (send w f.frame.0).send.size
  pub long : LEAST_FRAME ≤ f.size
  pub held : HoldsAt store f.slot (FrameOf w f.frame.0)

-- the frame's route goes over the arc
abbrev pub GoesOver : Scenario → FrameNo → ℕ → Type 0
GoesOver w n a = Contains (hops w n.0) a

-- The frame waits in the ring of this priority.
pub record Waits (w : Scenario) (store : Store) (a p : ℕ) (f : FrameRef) : Type 0 where
  pub frame : IsFrameOf w store f
  pub over : GoesOver w f.frame a
  pub ring : f.prio ≡ p

-- The frame is being sent, or is interrupted.
pub record IsUnderWay (w : Scenario) (store : Store) (a : ℕ) (f : FrameRef) : Type 0 where
  pub frame : IsFrameOf w store f
  pub over : GoesOver w f.frame a

-- The frame is inside a bridge, to which the arc leads by which it arrived, and goes on over the arc by which it leaves.
pub record IsKeptInside (w : Scenario) (store : Store) (e : Entry) : Type 0 where
  pub frame : IsFrameOf w store e.frame
  pub from : LeadsTo w.net e.arc Bridge
  pub onto : GoesOver w e.frame.frame e.next.0

pub record LaneKeeps (w : Scenario) (store : Store) (a : ℕ) (lane : Lane) : Type 0 where
  pub eight : IsPort lane.rings
  pub capacities : lane.rings.capacities ≡ (arc w a).rings
  pub within : (p : ℕ) → length (frames_at lane.rings p) ≤ capacity_at lane.rings p
  pub waiting : (p : ℕ) → Every (Waits w store a p) (frames_at lane.rings p)
  pub sending : Every (IsUnderWay w store a) (frames_of lane.outgoing.sender)

-- ---- no two in one slot

-- how many of the frames stand in the slot
abbrev pub among : ℕ → List FrameRef → ℕ
among s frames = count_by (λ f. f.slot == s) frames

-- how many of those that wait for an arc or are being sent on it
abbrev pub of_lane : ℕ → Lane → ℕ
of_lane s lane = sum_by (among s) lane.rings.frames + among s (frames_of lane.outgoing.sender)

-- how many of those at all arcs, inside bridges, and on their way from the one to the other
abbrev pub uses : List Lane → List Entry → List FrameRef → ℕ → ℕ
uses lanes entries moving s = sum_by (of_lane s) lanes + among s (map (λ e. e.frame) entries) + among s moving

-- All that stands at arcs, inside bridges and on its way between them stands in a slot of its own.
pub record StandApart (w : Scenario) (store : Store) (lanes : List Lane) (entries : List Entry) (moving : List FrameRef) : Type 0 where
  pub each_lane : (a : ℕ) (lane : Lane) → slice_get lanes a ≡ Some lane → LaneKeeps w store a lane
  pub each_inside : Every (IsKeptInside w store) entries
  pub each_moving : Every (IsFrameOf w store) moving
  pub once : (s : ℕ) → uses lanes entries moving s ≤ 1

-- ---- no slot without a frame

-- the frames at a lane
abbrev pub held_of : Lane → Held
held_of lane = record { rings = lane.rings.frames; sender = frames_of lane.outgoing.sender }

-- As many slots are out as frames stand at arcs, inside bridges and on their way.
abbrev pub IsCounted : Store → List Lane → List Entry → List FrameRef → Type 0
IsCounted store lanes entries moving = slots_out store ≡ sum_by (λ l. frames_held (held_of l)) lanes + length entries + length moving

-- The frames stand in slots of their own, each slot that is out is that of one, and there are as many slots as the network says.
pub record Keeps (w : Scenario) (store : Store) (lanes : List Lane) (entries : List Entry) (moving : List FrameRef) : Type 0 where
  pub apart : StandApart w store lanes entries moving
  pub counted : IsCounted store lanes entries moving
  pub all : length store ≡ slots w.net

-- So does all of a run, of which no frame came to a bridge later than at this tick.
pub record IsKept (w : Scenario) (tick : ℕ) (p : Progress) : Type 0 where
  pub calls : List Call
  pub stands : Stands p.relay w.net w.streams calls
  pub latest : p.relay.latest.0 ≤ tick
  pub keeps : Keeps w p.store p.lanes.items (inside w.net w.streams calls) []

-- ---- from one to the next

-- with another lane at the arc, and more inside the bridges
abbrev pub KeepsOn : Scenario → (a : ℕ) → (store store' : Store) → (old new : Lane) → (more : List Entry) → Type 0
KeepsOn w a store store' old new more =
    (lanes : List Lane) (entries : List Entry) → slice_get lanes a ≡ Some old → Keeps w store lanes entries [] → Keeps w store' (set lanes a new) (entries ++ more) []

-- these frames came into bridges
abbrev pub TakesIn : Scenario → (old new : Relay) → List Entry → Type 0
TakesIn w old new more =
    (calls : List Call) → Stands old w.net w.streams calls → (calls' : List Call) × Stands new w.net w.streams calls' × (inside w.net w.streams calls' ≡ inside w.net w.streams calls ++ more)

-- ---- the links

-- each link can be settled at the tick, or has been
abbrev pub AreReady : ℕ → List Lane → Type 0
AreReady tick lanes = (a : ℕ) (lane : Lane) → slice_get lanes a ≡ Some lane → IsReady lane.link tick

abbrev pub AreSettled : ℕ → List Lane → Type 0
AreSettled tick lanes = (a : ℕ) (lane : Lane) → slice_get lanes a ≡ Some lane → IsUpTo lane.link tick

-- the links stay as they were
abbrev pub SameLinks : List Lane → List Lane → Type 0
SameLinks old new = map (λ l. l.link) new ≡ map (λ l. l.link) old
