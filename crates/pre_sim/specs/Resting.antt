-- When nothing of a run is due at a tick.
use Rattle.std.specs.Prelude.{ℕ, ◌+◌, ◌≡◌, ◌≢◌, ◌<◌, ◌≤◌, ◌⊎◌, false, [], List, length, slice_get, Some}
use Rattle.std.specs.List.{AllByRecursion as Every}
use Rattle.pre_topo.specs.declared.arcs.Arc.{Arc}
use Rattle.pre_topo.specs.declared.arcs.Mode.TheVariants as mode
use Rattle.pre_topo.specs.declared.arcs.Policy.TheVariants as policy
use Rattle.pre_topo.specs.Arcs.{reverse_of}
use Rattle.pre_rings.specs.Ports.{frames_at}
use Rattle.pre_script.specs.declared.scripts.SetLine.{SetLine}
use Rattle.pre_send.specs.Endings.{plans_end}
use Rattle.pre_send.specs.Senders.{is_free, is_interrupted}
use Rattle.pre_history.specs.Scenario.{Scenario, arc, send}
use Rattle.pre_history.specs.History.{History}
use Rattle.pre_history.specs.LinkState.{Active}
use Rattle.pre_incoming.specs.Flights.{on_wire}
use Rattle.pre_incoming.specs.Arriving.{IsNotDue}
use Rattle.pre_bridge.specs.declared.relays.Relay.{Relay}
use Rattle.pre_bridge.specs.Inside.{Call, Entry, inside}
use Rattle.pre_bridge.specs.Relays.{Stands}
use Rattle.pre_links.specs.declared.links.Link.{Link}
use Rattle.pre_links.specs.declared.partners.Partner.{Partner}
use Rattle.pre_links.specs.Resting.{LinkRests}
use Rattle.pre_links.specs.Standing.{LinkStands}
use Rattle.pre_sim.specs.declared.lanes.Lane.{Lane}
use Rattle.pre_sim.specs.declared.ticks.Progress.{Progress}

-- Nothing waits in the rings of the arc, and no frame of it is interrupted.
abbrev pub IsEmpty : Lane → Type 0
IsEmpty lane = ((q : ℕ) → frames_at lane.rings q ≡ []) × (is_interrupted lane.outgoing.sender ≡ false)

-- The link isn't active.
abbrev pub IsInactive : Link → Type 0
IsInactive link = (w : Scenario) (h : History) (a t : ℕ) → LinkStands w h a (t + 1) link → ¬ Active w h a t

-- No express frame waits, and no frame is interrupted; and what else waits is held back until the link is active.
pub record IsHeld (link : Arc) (lane : Lane) : Type 0 where
  pub talks : link.mode ≡ mode.Negotiate
  pub quiet : link.policy ≡ policy.Quiet
  pub inactive : IsInactive lane.link
  pub express : (q : ℕ) → link.express_from ≤ q → frames_at lane.rings q ≡ []
  pub whole : is_interrupted lane.outgoing.sender ≡ false

-- Nothing of the link is due at the tick.
abbrev pub LinkRestsAt : (interval t : ℕ) → Partner → Link → Type 0
LinkRestsAt interval t partner link = (s : ℕ) × (t ≡ s + 1) × LinkRests interval s partner link

-- Nothing of the arc is due at the tick: nothing ends on it, nothing arrives by it, its link rests where it negotiates, and it is
-- occupied, or nothing is there that may begin.
pub record LaneRests (w : Scenario) (t a : ℕ) (partner : Partner) (lane : Lane) : Type 0 where
  pub link : (arc w a).mode ≡ mode.Negotiate → LinkRestsAt w.net.timing.interval t partner lane.link
  pub no_end : plans_end lane.outgoing.sender ≢ Some t
  pub no_arrival : IsNotDue t (on_wire lane.incoming.wire)
  pub no_start : (is_free lane.outgoing.sender t ≡ false) ⊎ IsEmpty lane ⊎ IsHeld (arc w a) lane

-- So it is of an arc of these, with what was received of its link partner.
abbrev pub RestsAmong : Scenario → (t a : ℕ) → Lane → List Lane → Type 0
RestsAmong w t a lane lanes = (other : Lane) × (slice_get lanes (reverse_of a) ≡ Some other) × LaneRests w t a other.partner lane

-- No frame inside a bridge comes out by the tick.
abbrev pub RelayRests : Scenario → ℕ → Relay → Type 0
RelayRests w t relay = (calls : List Call) → Stands relay w.net w.streams calls → Every (λ (e : Entry). t < e.due) (inside w.net w.streams calls)

-- Nothing of a run is due at the tick.
pub record Rests (w : Scenario) (t : ℕ) (p : Progress) : Type 0 where
  pub lanes : (a : ℕ) (lane : Lane) → slice_get p.lanes.items a ≡ Some lane → RestsAmong w t a lane p.lanes.items
  pub relay : RelayRests w t p.relay
  pub sets : (x : SetLine) → slice_get w.script.sets p.set ≡ Some x → x.tick.0 ≢ t
  pub sends : p.sent < length w.script.sends → (send w p.sent).send.tick.0 ≢ t

-- So it is at each tick from one on, before another.
abbrev pub RestsUntil : Scenario → (t until : ℕ) → Progress → Type 0
RestsUntil w t until p = (u : ℕ) → t ≤ u → u < until → Rests w u p
