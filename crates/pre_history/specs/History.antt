-- A history: the events of a run as plain values, one for each line of its trace.
use Rattle.std.specs.Prelude.{ℕ, Bool, List}
use Rattle.pre_script.specs.declared.scripts.Setting.{Setting}
use Rattle.pre_mpacket.specs.declared.packets.Kind.{Kind}
use Rattle.pre_history.specs.declared.events.What.{What}
use Rattle.pre_history.specs.declared.events.Outcome.{Outcome}

-- mPacket `ord` of the arc began, with octets of `what` from this place on
pub record Begin : Type 0 where
  pub tick : ℕ
  pub arc : ℕ
  pub ord : ℕ
  pub kind : Kind
  pub what : What
  pub from : ℕ

-- its last octet left: the octets of its mData and check together, and its check octets
pub record Ended : Type 0 where
  pub tick : ℕ
  pub arc : ℕ
  pub ord : ℕ
  pub size : ℕ
  pub check : List ℕ

-- what came of it at the far end
pub record Arrive : Type 0 where
  pub tick : ℕ
  pub arc : ℕ
  pub ord : ℕ
  pub result : Outcome

-- a frame came to a ring
pub record Entry : Type 0 where
  pub tick : ℕ
  pub arc : ℕ
  pub prio : ℕ
  pub frame : ℕ

-- a frame came to its route's last node
pub record Delivery : Type 0 where
  pub tick : ℕ
  pub node : ℕ
  pub frame : ℕ
  pub octets : List ℕ

-- assembly errors, SMD errors, frames assembled, fragments received and sent
pub record Counts : Type 0 where
  pub err : ℕ
  pub smd : ℕ
  pub ok : ℕ
  pub rx : ℕ
  pub tx : ℕ

-- the end of a run: its last tick, and how many frames were sent, delivered and dropped
pub record End : Type 0 where
  pub until : ℕ
  pub sent : ℕ
  pub delivered : ℕ
  pub dropped : ℕ

-- each is named by the word of its line
pub data PlainEvent : Type 0 where
  set : (tick arc : ℕ) → Setting → PlainEvent
  begin : Begin → PlainEvent
  ended : Ended → PlainEvent
  arrive : Arrive → PlainEvent
  deliver : Delivery → PlainEvent
  active : (tick arc : ℕ) → Bool → PlainEvent
  enter : Entry → PlainEvent
  dropped : Entry → PlainEvent
  count : (arc : ℕ) → Counts → PlainEvent
  end : End → PlainEvent

abbrev pub History : Type 0
History = List PlainEvent
