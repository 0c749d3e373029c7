-- Where an mPacket arrives a slot is in for its frame, and there is room inside the bridge.
use Rattle.std.specs.Prelude.{ℕ, ◌+◌, ◌<◌, ◌≡◌, true, List, [], length, slice_get, Some, None}
use Rattle.pre_history.specs.Scenario.{Scenario, arc}
use Rattle.pre_history.specs.Moments.{Phase}
use Rattle.pre_history.specs.History.{Ended, History}
use Rattle.pre_history.specs.Queries.{Ends, Arrivals}
use Rattle.pre_bridge.specs.declared.relays.Relay.{Relay}
use Rattle.pre_bridge.specs.Inside.{Call, Entry, inside}
use Rattle.pre_bridge.specs.Relays.{Stands, has_space}
use Rattle.pre_memory.specs.Slots.{slots_out}
use Rattle.pre_sim.specs.declared.lanes.Lane.{Lane}
use Rattle.pre_sim.specs.Keeps.{Store, Keeps}
use Rattle.pre_sim.specs.Stands.{LanesStand}
use Rattle.pre_sim.specs.Parts.{Before, LegalAt}

-- the next mPacket of the arc to arrive is due at the tick
abbrev pub IsDueAt : Scenario → History → (t a : ℕ) → Type 0
IsDueAt w h t a = (e : Ended) × (slice_get (Ends h a) (length (Arrivals h a)) ≡ Some e) × (e.tick + (arc w a).delay ≡ t)

-- A slot is in, and one more frame that arrives by the arc goes into the bridge.
pub record TakesOne (store : Store) (relay : Relay) (a : ℕ) : Type 0 where
  pub slot : slots_out store < length store
  pub room : has_space relay a ≡ true

-- Some history leads to the arrivals of an arc, and where one is due there, a frame of it is taken.
pub record ArrivalReached (w : Scenario) (t a : ℕ) (lane : Lane) (relay : Relay) (store : Store) : Type 0 where
  pub history : History
  pub items : List Entry
  pub before : Before w t (Phase.arrivals a) a None lane history items
  pub takes : IsDueAt w history t a → TakesOne store relay a

-- Some history leads to the arrivals of a tick, where lanes, relay and store stand by the same calls.
pub record ArrivalsReached (w : Scenario) (t : ℕ) (relay : Relay) (lanes : List Lane) (store : Store) : Type 0 where
  pub history : History
  pub calls : List Call
  pub legal : LegalAt w t (1 + length w.net.arcs) history
  pub relays : Stands relay w.net w.streams calls
  pub stand : LanesStand w history t (1 + length w.net.arcs) lanes (inside w.net w.streams calls)
  pub keeps : Keeps w store lanes (inside w.net w.streams calls) []
