-- What the rules of the files give of routes and sizes, and where frames are by them.
use Rattle.std.specs.Prelude.{ℕ, ◌+◌, ◌<◌, ◌≤◌, ◌≡◌, ◌≢◌, ◌⊎◌, length, AllPairs, Contains, Some, slice_get}
use Rattle.pre_base.specs.declared.limits.TheConstants.{LEAST_FRAME, GREATEST_FRAME}
use Rattle.pre_history.specs.declared.events.What.TheVariants as what
use Rattle.pre_history.specs.declared.events.Outcome.TheVariants as outcome
use Rattle.pre_history.specs.Scenario.{Scenario, send, latency, FrameOf}
use Rattle.pre_history.specs.History.{Begin, Ended, Arrive, Entry, PlainEvent, History}
use Rattle.pre_history.specs.Queries.{Begins, Ends, Arrivals, Entries}
use Rattle.pre_history.specs.Comings.{hops, first_arc, next_arc}
use Rattle.pre_history.specs.Selected.{RingEntry}
use Rattle.pre_history.specs.Octets.{Air}
use Rattle.pre_mpacket.specs.Arrivals.{Given, Gives}

-- Each frame has a route by arcs of the network, which takes no arc twice, and the size of a frame.
pub record IsRouted (w : Scenario) : Type 0 where
  pub routes : (f : ℕ) → f < length w.script.sends → 1 ≤ length (hops w f)
  pub once : (f : ℕ) → f < length w.script.sends → AllPairs (λ a b. a ≢ b) (hops w f)
  pub arcs : (f a : ℕ) → f < length w.script.sends → Contains (hops w f) a → a < length w.net.arcs
  pub sizes : (f : ℕ) → f < length w.script.sends → (LEAST_FRAME ≤ (send w f).send.size) × ((send w f).send.size ≤ GREATEST_FRAME)

-- The frame is of the script, was sent by the tick, and has the arc on its route.
pub record IsOnRoute (w : Scenario) (a t f : ℕ) : Type 0 where
  pub arc : Contains (hops w f) a
  pub sent : (send w f).send.tick.0 ≤ t
  pub known : f < length w.script.sends

-- mPacket i of the arc carried octets of the frame up to its last one, and gives it where it arrives.
pub record ArrivesWhole (w : Scenario) (h : History) (a i f : ℕ) : Type 0 where
  pub begin : Begin
  pub ended : Ended
  pub begun : slice_get (Begins h a) i ≡ Some begin
  pub over : slice_get (Ends h a) i ≡ Some ended
  pub carries : begin.what ≡ what.Frame (record { 0 = f })
  pub full : begin.from + ended.size ≡ length (FrameOf w f)
  pub gives : Gives (Air w h a) i (Given.frame (FrameOf w f))

-- The event at place i of the history is a frame's entry to a ring, or its drop there.
abbrev pub IsEntry : History → ℕ → Entry → Type 0
IsEntry h i e = (slice_get h i ≡ Some (PlainEvent.enter e)) ⊎ (slice_get h i ≡ Some (PlainEvent.dropped e))

-- The frame was sent at the tick, and this is the first arc of its route.
pub record ComesFirst (w : Scenario) (t a f : ℕ) : Type 0 where
  pub known : f < length w.script.sends
  pub first : a ≡ first_arc w f
  pub now : (send w f).send.tick.0 ≡ t

-- It arrived on the arc before as a user frame, and the latency there is over at the tick.
pub record ComesNext (w : Scenario) (h : History) (t a f : ℕ) : Type 0 where
  pub from : ℕ
  pub place : ℕ
  pub arrived : Arrive
  pub arc_known : from < length w.net.arcs
  pub arrival : slice_get (Arrivals h from) place ≡ Some arrived
  pub result : arrived.result ≡ outcome.Frame
  pub over : arrived.tick + latency w from ≡ t
  pub next : next_arc w from f ≡ Some a
  pub whole : ArrivesWhole w h from place f

-- The frame entered a ring of the arc by the tick, or was dropped at one.
pub record HasCome (h : History) (a t f : ℕ) : Type 0 where
  pub prio : ℕ
  pub place : ℕ
  pub entry : RingEntry
  pub at : slice_get (Entries h a prio) place ≡ Some entry
  pub frame : entry.frame ≡ f
  pub by : entry.tick ≤ t
