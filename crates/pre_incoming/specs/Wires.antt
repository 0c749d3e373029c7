-- What the receiving end of an arc stands for in a history.
use Rattle.std.specs.Prelude.{◌≡◌, ◌↔◌, ◌+◌, ℕ, IsTrue, length, take, drop, Some, slice_get}
use Rattle.std.specs.List.{AllZip}
use Rattle.pre_receive.specs.Receivers.{Stands}
use Rattle.pre_history.specs.Scenario.{Scenario, arc}
use Rattle.pre_history.specs.History.{Begin, Ended, History}
use Rattle.pre_history.specs.Queries.{Begins, Ends, Arrivals}
use Rattle.pre_history.specs.Octets.{Air, SentOctets, WholeOf}
use Rattle.pre_incoming.specs.Flights.{OnWire, on_wire, IsWhole, HasRoom}
use Rattle.pre_incoming.specs.declared.incomings.Incoming.{Incoming}

module _ (w : Scenario) (h : History) (a : ℕ) where
  -- It is the mPacket that ended so, as it was sent.
  pub record IsOnWire (p : OnWire) (e : Ended) : Type 0 where
    pub begin : Begin
    pub begun : slice_get (Begins h a) e.ord ≡ Some begin
    pub its_ord : p.ord ≡ e.ord
    pub kind : p.kind ≡ begin.kind
    pub carries : p.what ≡ begin.what
    pub is_last : IsTrue p.is_last ↔ (begin.from + e.size ≡ length (WholeOf w h begin))
    pub octets : p.octets ≡ SentOctets w h begin e
    pub due : p.due.0 ≡ e.tick + (arc w a).delay

  -- What arrived is what the receiver took, and what ended since is on the wire, in order.
  pub record Receives (x : Incoming) : Type 0 where
    pub whole : IsWhole x.wire
    pub room : HasRoom (arc w a).delay (arc w a).cost x.wire
    pub receiver : Stands x.receiver (take (length (Arrivals h a)) (Air w h a))
    pub wire : AllZip IsOnWire (on_wire x.wire) (drop (length (Arrivals h a)) (Ends h a))
