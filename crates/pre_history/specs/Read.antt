-- What the moments of a tick had, read off a whole history.
use Rattle.std.specs.Prelude.{ℕ, ◌<◌, ◌≡◌, ◌≢◌, ◌⊎◌, ◌++◌, List, ◌∷◌, length, Any, Some, None, slice_get, take}
use Rattle.pre_mpacket.specs.Arrivals.{Given, Gives}
use Rattle.pre_history.specs.declared.events.Outcome.TheVariants as outcome
use Rattle.pre_history.specs.Scenario.{Scenario, arc}
use Rattle.pre_history.specs.History.{Ended, Arrive, Delivery, PlainEvent, History}
use Rattle.pre_history.specs.Queries.{Begins, Ends, Arrivals, Occupied}
use Rattle.pre_history.specs.Octets.{Air}
use Rattle.pre_history.specs.ArrivalResults.{Result}
use Rattle.pre_history.specs.Starts.{Item, Choice, There}
use Rattle.pre_history.specs.Comings.{Coming, Comings, EntriesOf, entry_event, frame_at, next_arc}
use Rattle.pre_history.specs.Moments.{Phase}
use Rattle.pre_history.specs.Placed.{moment_of}
use Rattle.pre_history.specs.Legal.{LegalUpTo}
use Rattle.std.specs.List.{AllByRecursion as Every}

-- The event stands in the history.
abbrev pub IsTold : History → PlainEvent → Type 0
IsTold h e = Any (λ x. x ≡ e) h

-- This began on the arc at the tick.
abbrev pub HasBegun : History → (a t : ℕ) → Choice → Type 0
HasBegun h a t c = Any (λ b. (b.tick ≡ t) × (b.kind ≡ c.kind) × (b.what ≡ c.what) × (b.from ≡ c.from)) (Begins h a)

module _ (w : Scenario) (h : History) (a : ℕ) where
  -- Nothing may begin on the arc, or there is nothing to begin.
  abbrev pub IsIdle : ℕ → Type 0
  IsIdle t = Occupied w h a t ⊎ ((i : Item) (c : Choice) → ¬ There w h a t i c)

  -- mPacket i ended, with this size
  abbrev pub HasEnded : ℕ → ℕ → Type 0
  HasEnded i size = (e : Ended) × (slice_get (Ends h a) i ≡ Some e) × (e.size ≡ size)

  -- each that arrived did so with its result
  abbrev pub HaveResults : Type 0
  HaveResults = (i : ℕ) (x : Arrive) → slice_get (Arrivals h a) i ≡ Some x → Result (Air w h a) i x.result

  -- a user frame that arrives where its route ends is delivered
  abbrev pub AreDelivered : Type 0
  AreDelivered = (i f : ℕ) (x : Arrive) (octets : List ℕ) → slice_get (Arrivals h a) i ≡ Some x → x.result ≡ outcome.Frame → Gives (Air w h a) i (Given.frame octets)
      → frame_at h a i ≡ Some f → next_arc w a f ≡ None
      → IsTold h (PlainEvent.deliver (record { tick = x.tick; node = (arc w a).to.0; frame = f; octets = octets }))

-- What is delivered arrived then as a user frame where its route ends.
pub record IsFromArrival (w : Scenario) (h : History) (d : Delivery) : Type 0 where
  pub arc_number : ℕ
  pub ordinal : ℕ
  pub arrived : Arrive
  pub known : arc_number < length w.net.arcs
  pub arrival : slice_get (Arrivals h arc_number) ordinal ≡ Some arrived
  pub tick : arrived.tick ≡ d.tick
  pub result : arrived.result ≡ outcome.Frame
  pub gives : Gives (Air w h arc_number) ordinal (Given.frame d.octets)
  pub frame : frame_at h arc_number ordinal ≡ Some d.frame
  pub last_arc : next_arc w arc_number d.frame ≡ None
  pub node : d.node ≡ (arc w arc_number).to.0

-- It isn't an entry of the tick, nor a drop.
abbrev pub IsNoEntry : ℕ → PlainEvent → Type 0
IsNoEntry t (PlainEvent.enter e) = e.tick ≢ t
IsNoEntry t (PlainEvent.dropped e) = e.tick ≢ t
IsNoEntry t (PlainEvent.set s a v) = Unit {0}
IsNoEntry t (PlainEvent.begin b) = Unit {0}
IsNoEntry t (PlainEvent.ended e) = Unit {0}
IsNoEntry t (PlainEvent.arrive x) = Unit {0}
IsNoEntry t (PlainEvent.deliver d) = Unit {0}
IsNoEntry t (PlainEvent.active s a v) = Unit {0}
IsNoEntry t (PlainEvent.count a c) = Unit {0}
IsNoEntry t (PlainEvent.end e) = Unit {0}

-- What comes to rings at the tick, by the whole history, has its events in one place, and none elsewhere. Before that place
-- stands what is legal up to it.
pub record HasEntries (w : Scenario) (h : History) (t : ℕ) : Type 0 where
  pub front : History
  pub rest : History
  pub joined : h ≡ front ++ EntriesOf w t front (Comings w h t) ++ rest
  pub legal : LegalUpTo w (moment_of w t Phase.entries) front
  pub none_before : Every (IsNoEntry t) front
  pub none_after : Every (IsNoEntry t) rest

-- What comes at place j of the tick has its event where the history so far puts it.
abbrev pub HasEntry : (w : Scenario) (h : History) (t j : ℕ) → Coming → Type 0
HasEntry w h t j c =
    (front : History) × (before : History) × (after : History) × (h ≡ before ++ (entry_event w t before c ∷ after))
    × (before ≡ front ++ EntriesOf w t front (take j (Comings w h t))) × Every (IsNoEntry t) front
