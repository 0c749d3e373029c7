-- What becomes of an mPacket at the end of its arc, and of the receiver there.
use Rattle.std.specs.Prelude.{◌≡◌, ◌≢◌, ℕ, true, false, List, [], ◌∷◌, ◌++◌, length, Option, Some}
use Rattle.pre_receive.specs.declared.receivers.Receiver.{Receiver}
use Rattle.pre_receive.specs.Receivers.{Stands}
use Rattle.pre_receive.specs.Takings.{Taking, IsTaken}
use Rattle.pre_history.specs.Octets.{smd_place}
use Rattle.pre_history.specs.Scenario.{Scenario}
use Rattle.pre_incoming.specs.Flights.{OnWire, on_wire, IsWhole}
use Rattle.pre_incoming.specs.declared.incomings.Incoming.{Incoming}
use Rattle.pre_incoming.specs.declared.landings.Landing.{Landing}
use Rattle.pre_incoming.specs.declared.landings.Landed.{Landed}
use Rattle.pre_incoming.specs.declared.landings.Landed.TheVariants as landed
use Rattle.pre_incoming.specs.Changes.{loses, damaged}
use Rattle.pre_incoming.specs.Judging.{Judged, IsExpected, expected}

module _ (w : Scenario) (a : ℕ) (p : OnWire) where
  -- the octets that arrive
  abbrev pub arrived : List ℕ
  arrived = damaged w.script a p.ord (smd_place p.kind) p.octets

  -- It is taken behind these arrivals.
  pub record IsTakenBehind (A : List (Option (List ℕ))) (new : Receiver) (given : Landed) : Type 0 where
    pub answer : Taking
    pub taken : IsTaken (A ++ Some arrived ∷ []) (length A) answer
    pub judged : Judged p.kind p.what (expected w p) answer given
    pub stands : Stands new (A ++ Some arrived ∷ [])

  -- A lost one leaves the receiver as it was, and each other one is taken.
  pub record Comes (old new : Receiver) (given : Landed) : Type 0 where
    pub lost : loses w.script a p.ord ≡ true → (given ≡ landed.Lost) × (new ≡ old)
    pub took : loses w.script a p.ord ≡ false → (A : List (Option (List ℕ))) → Stands old A → IsTakenBehind A new given

  -- where a frame is given, the expected one stands at the front of the memory for one
  abbrev pub HasFront : List ℕ → Landed → Type 0
  HasFront front given = IsExpected (expected w p) front given

-- The first mPacket on the wire isn't due at the tick.
abbrev pub IsNotDue : ℕ → List OnWire → Type 0
IsNotDue t [] = Unit {0}
IsNotDue t (p ∷ wire) = p.due.0 ≢ t

-- the first one on the wire is due at the tick
abbrev pub IsNextDue : ℕ → List OnWire → Type 0
IsNextDue t [] = ⊥
IsNextDue t (p ∷ wire) = p.due.0 ≡ t

-- The first mPacket is off the wire, and its landing is what becomes of it; this stands at the front of the memory for a frame.
pub record ComesOff (w : Scenario) (a : ℕ) (old new : Incoming) (x : Landing) (front : List ℕ) : Type 0 where
  pub packet : OnWire
  pub was : on_wire old.wire ≡ packet ∷ on_wire new.wire
  pub whole : IsWhole new.wire
  pub ord : x.ord ≡ packet.ord
  pub comes : Comes w a packet old.receiver new.receiver x.given
  pub front_is : HasFront w a packet front x.given
