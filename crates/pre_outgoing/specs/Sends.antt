-- What the sending end of an arc stands for in a history, and what its answers tell of it.
use Rattle.std.specs.Prelude.{◌≡◌, ◌↔◌, ◌+◌, ◌-◌, ◌^◌, ◌<◌, min, ℕ, Bool, true, false, IsTrue, List, [], ◌∷◌}
use Rattle.std.specs.Prelude.{◌++◌, length, count_by, slice_get, take, drop, is_some, Option, Some, None}
use Rattle.std.specs.List.{AllByRecursion as Every}
use Rattle.pre_mpacket.specs.declared.packets.Kind.{Kind}
use Rattle.pre_mpacket.specs.declared.packets.Kind.TheVariants as kind
use Rattle.pre_mpacket.specs.Arrivals.{is_continue}
use Rattle.pre_mpacket.specs.Spelling.{PlainPacket, head_of}
use Rattle.pre_rings.specs.declared.slots.FrameRef.{FrameRef}
use Rattle.pre_rings.specs.Stores.{HoldsAt, HoldsFrame}
use Rattle.pre_send.specs.declared.choices.Choice.{Choice}
use Rattle.pre_send.specs.declared.choices.Choice.TheVariants as choice
use Rattle.pre_send.specs.Calls.{Call}
use Rattle.pre_send.specs.Endings.{plans_end}
use Rattle.pre_send.specs.Senders.{Stands}
use Rattle.pre_history.specs.declared.events.What.{What}
use Rattle.pre_history.specs.declared.events.What.TheVariants as what
use Rattle.pre_history.specs.Scenario.{Scenario, arc, FrameOf}
use Rattle.pre_history.specs.History.{Begin, Ended, PlainEvent, History}
use Rattle.pre_history.specs.Moments.{Phase}
use Rattle.pre_history.specs.Queries.{Begins, Ends}
use Rattle.pre_history.specs.Octets.{WholeOf, SentOctets}
use Rattle.pre_history.specs.Rules.{HappensIn}
use Rattle.pre_history.specs.Starts.{Choice as Start}
use Rattle.pre_outgoing.specs.declared.outgoing.Begun.{Begun}
use Rattle.pre_outgoing.specs.declared.outgoing.Finished.{Finished}
use Rattle.pre_outgoing.specs.declared.outgoing.Outgoing.{Outgoing}
use Rattle.pre_outgoing.specs.Matching.{Matches}

-- the slot of each holds the script's octets of the frame
abbrev pub AreStored : Scenario → List (Option (List ℕ)) → List FrameRef → Type 0
AreStored w store frames = Every (λ f. HoldsAt store f.slot (FrameOf w f.frame.0)) frames

-- the store holds each
abbrev pub AreHeld : List (Option (List ℕ)) → List FrameRef → Type 0
AreHeld store frames = Every (λ f. HoldsFrame store f) frames

-- the mPacket that hasn't ended
abbrev pub IsNewest : History → ℕ → Begin → Type 0
IsNewest h a b = slice_get (Begins h a) (length (Ends h a)) ≡ Some b

-- how many continuations began on the arc
abbrev pub continuations : History → ℕ → ℕ
continuations h a = count_by (λ b. is_continue b.kind) (Begins h a)

-- it knows whose octets this mPacket carries, which began before the tick, and keeps the LLDP frame where it is one
pub record Carries (w : Scenario) (h : History) (now : ℕ) (o : Outgoing) (b : Begin) : Type 0 where
  pub carried : o.carried ≡ b.what
  pub earlier : b.tick < now
  pub advert : b.what ≡ what.Lldp → o.advert ≡ WholeOf w h b

-- Its sender stands for calls that match the history's mPackets of the arc. Up to the tick it is known whether an express
-- frame waits; once settled, at that tick and later ones too, as far as the history goes.
pub record Sends (w : Scenario) (h : History) (a now : ℕ) (settled : Bool) (o : Outgoing) : Type 0 where
  pub calls : List Call
  pub stands : Stands o.sender (arc w a).cost (arc w a).add_frag calls
  pub matches : Matches w h a now settled calls
  pub begun : o.begun ≡ length (Begins h a)
  pub continued : o.continued ≡ continuations h a
  pub newest : (b : Begin) → IsNewest h a b → Carries w h now o b

-- ---- what begins

-- the choice of an LLDP frame, of which the octets are given too
abbrev pub IsLldp : Choice → Type 0
IsLldp choice.Lldp = Unit {0}
IsLldp other = ⊥

-- a count after one more, where it counts; it stands at its last number
abbrev pub next_count : ℕ → Bool → ℕ
next_count n true = min (n + 1) (2 ^ 64 - 1)
next_count n false = n

-- the octets that an mPacket of this kind is lent out of, where it is no user frame
abbrev pub lent_as : Kind → List ℕ → List ℕ → List ℕ
lent_as kind.Verify zeros advert = zeros
lent_as kind.Respond zeros advert = zeros
lent_as other zeros advert = advert

abbrev pub lent_by : Option (Kind × ℕ) → List ℕ → List ℕ → List ℕ
lent_by None zeros advert = advert
lent_by (Some (k, from)) zeros advert = lent_as k zeros advert

-- what begins on the arc at the tick, as the next mPacket
abbrev pub next_begin : History → ℕ → ℕ → Start → Begin
next_begin past t a c = record { tick = t; arc = a; ord = length (Begins past a); kind = c.kind; what = c.what; from = c.from }

-- whether the octets of an mPacket are the last of what it carries: those of a user frame where it is handed back
abbrev pub ends_frame : What → Option FrameRef → Bool
ends_frame (what.Frame f) back = is_some back
ends_frame what.Lldp back = true
ends_frame what.Nothing back = true

-- A user frame is handed back with its last octet, and else none is.
abbrev pub HandsBack : What → Bool → Option FrameRef → Type 0
HandsBack (what.Frame f) is_last None = is_last ≡ false
HandsBack (what.Frame f) is_last (Some frame) = (frame.frame ≡ f) × (is_last ≡ true)
HandsBack what.Lldp is_last back = (back ≡ None) × (is_last ≡ true)
HandsBack what.Nothing is_last back = (back ≡ None) × (is_last ≡ true)

module _ (w : Scenario) (past : History) (t a : ℕ) where
  -- this began; and its planned end is later
  pub record HasBegun (c : Start) (b : Begun) (o : Outgoing) : Type 0 where
    pub ord : b.ord ≡ length (Begins past a)
    pub kind : b.kind ≡ c.kind
    pub carries : b.what ≡ c.what
    pub from : b.from ≡ c.from
    pub sends : Sends w (past ++ PlainEvent.begin (next_begin past t a c) ∷ []) a (t + 1) true o
    pub ahead : (due : ℕ) → plans_end o.sender ≡ Some due → t < due

  -- ---- what ends

  -- the event of what ends on the arc at the tick with this size and check
  abbrev pub next_end : ℕ → List ℕ → Ended
  next_end size check = record { tick = t; arc = a; ord = length (Ends past a); size = size; check = check }

  -- the mPacket that ends at the tick: its event by the rules, and its octets as they are sent
  pub record Leaves (m : PlainPacket) : Type 0 where
    pub begin : Begin
    pub newest : IsNewest past a begin
    pub size : ℕ
    pub happens : HappensIn w past t (Phase.ends a) (PlainEvent.ended (next_end size m.check) ∷ [])
    pub kind : m.kind ≡ begin.kind
    pub mdata : m.mdata ≡ take (size - 4) (drop begin.from (WholeOf w past begin))
    pub sent : head_of m.kind ++ m.mdata ++ m.check ≡ SentOctets w past begin (next_end size m.check)

  -- what has ended with this event
  pub record HasEnded (e : Ended) (f : Finished) (o : Outgoing) : Type 0 where
    pub begin : Begin
    pub newest : IsNewest past a begin
    pub ord : f.ord ≡ e.ord
    pub kind : f.kind ≡ begin.kind
    pub carries : f.what ≡ begin.what
    pub size : f.size ≡ e.size
    pub last : IsTrue f.is_last ↔ (begin.from + e.size ≡ length (WholeOf w past begin))
    pub done : HandsBack f.what f.is_last f.done
    pub sends : Sends w (past ++ PlainEvent.ended e ∷ []) a t true o
