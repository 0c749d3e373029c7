-- Small selections: the events of one kind, on one arc, and tests of their words.
use Rattle.std.specs.Prelude.{ℕ, ◌==◌, ◌&&◌, not, Bool, true, false, if◌then◌else◌, List, [], ◌∷◌, Option, Some, None, nat_le}
use Rattle.std.specs.List.{list_any}
use Rattle.pre_mpacket.specs.declared.packets.Kind.{Kind}
use Rattle.pre_mpacket.specs.declared.packets.Kind.TheVariants as kind
use Rattle.pre_history.specs.declared.events.What.{What}
use Rattle.pre_history.specs.declared.events.What.TheVariants as what
use Rattle.pre_history.specs.declared.events.Outcome.{Outcome}
use Rattle.pre_history.specs.declared.events.Outcome.TheVariants as outcome
use Rattle.pre_history.specs.History.{Begin, Ended, Arrive, Entry, Delivery, PlainEvent}

-- what came to a ring: it entered, or it was dropped
pub record RingEntry : Type 0 where
  pub tick : ℕ
  pub frame : ℕ
  pub entered : Bool

-- the events of one kind on one arc
abbrev pub begin_on : ℕ → PlainEvent → Option Begin
begin_on a (PlainEvent.begin b) = if b.arc == a then Some b else None
begin_on a other = None

abbrev pub ended_on : ℕ → PlainEvent → Option Ended
ended_on a (PlainEvent.ended e) = if e.arc == a then Some e else None
ended_on a other = None

abbrev pub arrive_on : ℕ → PlainEvent → Option Arrive
arrive_on a (PlainEvent.arrive x) = if x.arc == a then Some x else None
arrive_on a other = None

abbrev pub entry_of : ℕ → ℕ → Bool → Entry → Option RingEntry
entry_of a p entered e = if (e.arc == a) && (e.prio == p) then Some (record { tick = e.tick; frame = e.frame; entered = entered }) else None

abbrev pub entry_on : ℕ → ℕ → PlainEvent → Option RingEntry
entry_on a p (PlainEvent.enter e) = entry_of a p true e
entry_on a p (PlainEvent.dropped e) = entry_of a p false e
entry_on a p other = None

abbrev pub delivery_of : PlainEvent → Option Delivery
delivery_of (PlainEvent.deliver d) = Some d
delivery_of other = None

-- what the `active` events of an arc say, up to a tick
abbrev pub active_on : ℕ → ℕ → PlainEvent → Option Bool
active_on a t (PlainEvent.active s b v) = if (b == a) && nat_le s t then Some v else None
active_on a t other = None

abbrev pub is_dropped : PlainEvent → Bool
is_dropped (PlainEvent.dropped e) = true
is_dropped other = false

-- whether octets of this frame are carried
abbrev pub what_is : What → ℕ → Bool
what_is (what.Frame f) g = f.0 == g
what_is other g = false

-- the frame of which octets are carried
abbrev pub frame_in : What → Option ℕ
frame_in (what.Frame f) = Some f.0
frame_in other = None

abbrev pub frame_number : What → ℕ
frame_number (what.Frame f) = f.0
frame_number other = 0

-- the frame count of a start
abbrev pub frame_count : Kind → ℕ
frame_count (kind.Start c) = c
frame_count other = 0

abbrev pub is_verify : Kind → Bool
is_verify kind.Verify = true
is_verify other = false

abbrev pub is_frame_result : Outcome → Bool
is_frame_result outcome.Frame = true
is_frame_result other = false

abbrev pub is_lldp_result : Outcome → Bool
is_lldp_result outcome.Lldp = true
is_lldp_result other = false

abbrev pub is_respond_result : Outcome → Bool
is_respond_result outcome.Respond = true
is_respond_result other = false

-- from the last element that passes the test on
abbrev pub from_last : {X : Type 0} → (X → Bool) → List X → List X
from_last test [] = []
from_last test (x ∷ xs) = if test x && not (list_any test xs) then x ∷ xs else from_last test xs
