-- What the state of a run says of the events told so far, at each place of a tick.
use Rattle.std.specs.Prelude.{ℕ, ◌+◌, ◌*◌, ◌<◌, ◌≤◌, ◌≡◌, ◌≢◌, ◌==◌, ◌&&◌, nat_le, not, Bool}
use Rattle.std.specs.Prelude.{if◌then◌else◌, List, [], ◌∷◌, length, map, filter, filter_map, take, drop}
use Rattle.std.specs.Prelude.{count_by, Option, Some, None, slice_get, option_map, option_and_then}
use Rattle.std.specs.List.{list_any, AllByRecursion as Every}
use Rattle.pre_topo.specs.declared.arcs.Mode.TheVariants as mode
use Rattle.pre_rings.specs.Ports.{Port, frames_at}
use Rattle.pre_history.specs.Scenario.{Scenario, arc, send, capacity, latency}
use Rattle.pre_history.specs.Placed.{number}
use Rattle.pre_history.specs.History.{Begin, Arrive, History}
use Rattle.pre_history.specs.Selected.{what_is, frame_in, is_frame_result, is_dropped}
use Rattle.pre_history.specs.Queries.{Begins, Arrivals, Entries, Deliveries}
use Rattle.pre_history.specs.Comings.{next_arc}
use Rattle.pre_history.specs.Legal.{LegalBefore}
use Rattle.pre_bridge.specs.Inside.{Call, Entry, of_arc, inside}
use Rattle.pre_bridge.specs.Relays as relays
use Rattle.pre_outgoing.specs.Sends.{Sends}
use Rattle.pre_incoming.specs.Wires.{Receives}
use Rattle.pre_links.specs.Listening.{Hears}
use Rattle.pre_links.specs.Standing.{LinkStands}
use Rattle.pre_sim.specs.declared.lanes.Lane.{Lane}
use Rattle.pre_sim.specs.declared.ticks.Progress.{Progress}
use Rattle.pre_sim.specs.Stages.{Stage, stage_at, setting_at, turn_at, is_calm, tick_at, link_turn}

module _ (h : History) where
  -- whether the frame's first octet began on the arc
  abbrev pub has_begun : ℕ → ℕ → Bool
  has_begun a f = list_any (λ b. what_is b.what f && (b.from == 0)) (Begins h a)

  -- the frames, in order of entry, that entered the ring and haven't begun
  unfoldable pub StillWaiting : ℕ → ℕ → List ℕ
  StillWaiting a p = map (λ e. e.frame) (filter (λ e. e.entered && not (has_begun a e.frame)) (Entries h a p))

-- no number stands twice
abbrev pub AreApart : List ℕ → Type 0
AreApart [] = Unit {0}
AreApart (n ∷ ns) = Every (λ m. n ≢ m) ns × AreApart ns

-- the numbers of the frames of a ring, the front one first
abbrev pub ring_numbers : Port → ℕ → List ℕ
ring_numbers rings p = map (λ f. f.frame.0) (frames_at rings p)

-- What the rings of an arc hold is what waits for it.
pub record AreRings (w : Scenario) (h : History) (a : ℕ) (rings : Port) : Type 0 where
  pub numbers : (p : ℕ) → ring_numbers rings p ≡ StillWaiting h a p
  pub fits : (p : ℕ) → length (StillWaiting h a p) ≤ capacity w a p
  pub apart : (p : ℕ) → AreApart (StillWaiting h a p)

-- ---- the frames inside the bridge at an arc's end

-- a frame that arrived and goes on: when its latency is over, and by which arc
pub record Onward : Type 0 where
  pub due : ℕ
  pub arc : ℕ
  pub frame : ℕ

-- what an arrival hands to the bridge
abbrev pub onward : Scenario → ℕ → List Begin → Arrive → Option Onward
onward w a begins x =
    if is_frame_result x.result
    then option_and_then (λ f. option_map (λ b. record { due = x.tick + latency w a; arc = b; frame = f }) (next_arc w a f)) (option_and_then (λ b. frame_in b.what) (slice_get begins x.ord))
    else None

-- what a frame inside is of these
abbrev pub passes : Entry → Onward
passes e = record { due = e.due; arc = e.next.0; frame = e.frame.frame.0 }

-- The frames inside are those that arrived and go on, but for the first ones, whose latency was over before the tick.
pub record AreInside (w : Scenario) (a : ℕ) (begins : List Begin) (arrivals : List Arrive) (tick : ℕ) (items : List Entry) : Type 0 where
  pub gone : ℕ
  pub few : gone ≤ length arrivals
  pub past : Every (λ x. x.tick + latency w a < tick) (take gone arrivals)
  pub later : Every (λ x. tick ≤ x.tick + latency w a) (drop gone arrivals)
  pub are : filter_map (onward w a begins) (drop gone arrivals) ≡ map passes items

-- What a lane, and the frames inside the bridge at its end, say of the events told so far, at a stage of a tick.
pub record LaneStands (w : Scenario) (h : History) (a : ℕ) (stage : Stage) (lane : Lane) (items : List Entry) : Type 0 where
  pub rings : AreRings w h a lane.rings
  pub outgoing : Sends w h a (tick_at stage) (is_calm stage) lane.outgoing
  pub incoming : Receives w h a lane.incoming
  pub partner : Hears w h a lane.partner
  pub setting : lane.setting ≡ setting_at w h a stage
  pub link : (arc w a).mode ≡ mode.Negotiate → LinkStands w h a (link_turn stage) lane.link
  pub inside : AreInside w a (Begins h a) (Arrivals h a) (turn_at stage) items

-- Each lane does at its stage, with those of the frames inside that arrived by its arc, at a place of a tick.
abbrev pub LanesStand : Scenario → History → (t k : ℕ) → List Lane → List Entry → Type 0
LanesStand w h t k lanes entries =
    (a : ℕ) (lane : Lane) → slice_get lanes a ≡ Some lane → LaneStands w h a (stage_at (length w.net.arcs) t k a) lane (of_arc a entries)

-- What the rings of each lane hold is what waits, while frames come to them.
abbrev pub RingsStand : Scenario → History → List Lane → Type 0
RingsStand w h lanes = (a : ℕ) (lane : Lane) → slice_get lanes a ≡ Some lane → AreRings w h a lane.rings

-- so many sends are those before the tick
pub record AreSentBefore (w : Scenario) (tick sent : ℕ) : Type 0 where
  pub within : sent ≤ length w.script.sends
  pub past : (k : ℕ) → k < sent → (send w k).send.tick.0 < tick
  pub later : (k : ℕ) → sent ≤ k → k < length w.script.sends → tick ≤ (send w k).send.tick.0

-- and so many `set` lines
pub record AreSetBefore (w : Scenario) (tick set : ℕ) : Type 0 where
  pub within : set ≤ length w.script.sets
  pub past : Every (λ s. s.tick.0 < tick) (take set w.script.sets)
  pub later : Every (λ s. tick ≤ s.tick.0) (drop set w.script.sets)

-- the tick whose lines come next: the next tick, once this tick's are told
abbrev pub sets_turn : (t k : ℕ) → ℕ
sets_turn t k = if k == 0 then t else t + 1

abbrev pub sends_turn : (arcs t k : ℕ) → ℕ
sends_turn arcs t k = if nat_le k (1 + 3 * arcs) then t else t + 1

-- What a run says of the events told so far: they are all those before place k of tick t, and none of their arrivals is an
-- alias; what is on the arcs, waits for them or stays in bridges is what they show; so many lines of the script are told;
-- and so many frames were delivered and dropped.
pub record Reaches (w : Scenario) (t k : ℕ) (h : History) (p : Progress) : Type 0 where
  pub legal : LegalBefore w h (number (length w.net.arcs) t k)
  pub calls : List Call
  pub relay : relays.Stands p.relay w.net w.streams calls
  pub lanes : LanesStand w h t k p.lanes.items (inside w.net w.streams calls)
  pub sets : AreSetBefore w (sets_turn t k) p.set
  pub sends : AreSentBefore w (sends_turn (length w.net.arcs) t k) p.sent
  pub deliveries : p.delivered ≡ length (Deliveries h)
  pub drops : p.dropped ≡ count_by is_dropped h
