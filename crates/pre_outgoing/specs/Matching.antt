-- What ties a history's mPackets of an arc to the calls of the arc's sender.
use Rattle.std.specs.Prelude.{◌≡◌, ◌↔◌, ◌<◌, ℕ, Bool, true, false, List, [], ◌∷◌, ◌++◌, length, Option, Some, None}
use Rattle.pre_rings.specs.declared.slots.FrameRef.{FrameRef}
use Rattle.pre_rings.specs.Stores.{HoldsAt}
use Rattle.pre_send.specs.Calls.{Chosen, express, whole, first, rest, verify, respond, lldp, Call, End}
use Rattle.pre_send.specs.Sendings.{Sending, Part, Waits, interrupted, IsSending}
use Rattle.pre_send.specs.Answers.{is_part}
use Rattle.pre_send.specs.Frames.{frame_of_part, frame_by}
use Rattle.pre_history.specs.declared.events.What.{What}
use Rattle.pre_history.specs.declared.events.What.TheVariants as what
use Rattle.pre_history.specs.Scenario.{Scenario, arc, FrameOf}
use Rattle.pre_history.specs.History.{Begin, Ended, History}
use Rattle.pre_history.specs.Queries.{Begins, Ends}
use Rattle.pre_mpacket.specs.declared.packets.Kind.TheVariants as kind
use Rattle.pre_mpacket.specs.Arrivals.{is_start, is_continue}
use Rattle.pre_history.specs.Starts.{Choice, ExpressWaits}

-- what the octets of an mPacket are, by its choice and the frame that was interrupted before it
abbrev pub what_of_frame : Option FrameRef → What
what_of_frame None = what.Nothing
what_of_frame (Some f) = what.Frame f.frame

abbrev pub what_of : Chosen → Option Part → What
what_of (express f) before = what.Frame f.frame
what_of (whole f) before = what.Frame f.frame
what_of (first f) before = what.Frame f.frame
what_of rest before = what_of_frame (frame_of_part before)
what_of verify before = what.Nothing
what_of respond before = what.Nothing
what_of lldp before = what.Lldp

module _ (w : Scenario) where
  -- the frame has the size of the script's
  abbrev pub IsSized : Option FrameRef → Type 0
  IsSized None = Unit {0}
  IsSized (Some f) = f.size ≡ length (FrameOf w f.frame.0)

  -- its slot holds the script's octets
  abbrev pub IsStored : Option FrameRef → List (Option (List ℕ)) → Type 0
  IsStored None store = Unit {0}
  IsStored (Some f) store = HoldsAt store f.slot (FrameOf w f.frame.0)

  -- a `begin` event is that of an mPacket which was sent after these
  pub record Fits (p : Sending) (older : List Sending) (b : Begin) : Type 0 where
    pub began : p.told.began ≡ b.tick
    pub kind : p.kind ≡ b.kind
    pub from : p.from ≡ b.from
    pub carries : b.what ≡ what_of p.told.chosen (interrupted older)
    pub sized : IsSized (frame_by p.told.chosen (interrupted older))

  -- the `ended` events are those of the mPackets before it, with its own where it has ended
  abbrev pub EndsFit : Sending → List Sending → Option End → List Ended → List Ended → Type 0
  EndsFit p older None before ends = ends ≡ before
  EndsFit p older (Some end) before ends =
      (e : Ended) × (ends ≡ before ++ e ∷ []) × (e.tick ≡ end.tick) × (e.size ≡ p.size) × IsStored (frame_by p.told.chosen (interrupted older)) end.store

  -- The mPackets, the newest first, are those of these events, one by one. All but the newest have ended.
  abbrev pub Agree : List Sending → List Begin → List Ended → Type 0
  Agree [] begins ends = (begins ≡ []) × (ends ≡ [])
  Agree (p ∷ older) begins ends =
      (front : List Begin) × (b : Begin) × (before : List Ended) × (begins ≡ front ++ b ∷ []) × EndsFit p older p.told.end before ends
      × (length before ≡ length front) × Fits p older b × Agree older front before

-- the ticks at which it is known what waits: those before a tick, and all as far as the history goes once that tick is settled
abbrev pub IsKnown : Bool → ℕ → ℕ → Type 0
IsKnown true now t = Unit {0}
IsKnown false now t = t < now

module _ (w : Scenario) (h : History) (a now : ℕ) (settled : Bool) where
  -- While a fragment is under way, the tick that was told is one after its begin, and an express frame waits from it on and
  -- not before.
  abbrev pub WaitsAgree : List Sending → Type 0
  WaitsAgree [] = Unit {0}
  WaitsAgree (p ∷ older) =
      p.told.end ≡ None → is_part p.told.chosen ≡ true
      → ((s : ℕ) → p.told.waits ≡ Some s → (p.told.began < s) × (s < now))
      × ((t : ℕ) → p.told.began < t → IsKnown settled now t → ExpressWaits w h a t ↔ Waits p.told.waits t)

  -- The calls tell of the arc's mPackets, and at the ticks that are known whether an express frame waits.
  pub record Matches (calls : List Call) : Type 0 where
    pub packets : List Sending
    pub sending : IsSending (arc w a).cost (arc w a).add_frag calls packets
    pub agree : Agree w packets (Begins h a) (Ends h a)
    pub waits : WaitsAgree packets

module _ (w : Scenario) where
  -- the sender is told of what begins
  abbrev pub IsTold : Chosen → Choice → Type 0
  IsTold (express f) c = (c.kind ≡ kind.Express) × (c.what ≡ what.Frame f.frame) × (f.size ≡ length (FrameOf w f.frame.0))
  IsTold (whole f) c = (c.kind ≡ kind.Express) × (c.what ≡ what.Frame f.frame) × (f.size ≡ length (FrameOf w f.frame.0))
  IsTold (first f) c = (is_start c.kind ≡ true) × (c.what ≡ what.Frame f.frame) × (f.size ≡ length (FrameOf w f.frame.0))
  IsTold rest c = is_continue c.kind ≡ true
  IsTold verify c = c.kind ≡ kind.Verify
  IsTold respond c = c.kind ≡ kind.Respond
  IsTold lldp c = c.what ≡ what.Lldp
