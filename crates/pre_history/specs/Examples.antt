-- The history of a small script over the built-in network and streams.
use Rattle.std.specs.Prelude.{ℕ, ◌≡◌, [], ◌∷◌, ◌++◌}
use Rattle.pre_topo.specs.PairNetwork.{IsPair}
use Rattle.pre_streams.specs.PairStreams as streams
use Rattle.pre_script.specs.declared.scripts.SendLine.{SendLine}
use Rattle.pre_mpacket.specs.declared.packets.Kind.TheVariants as kind
use Rattle.pre_history.specs.declared.events.What.TheVariants as what
use Rattle.pre_history.specs.declared.events.Outcome.TheVariants as outcome
use Rattle.pre_history.specs.Scenario.{Scenario, FrameOf}
use Rattle.pre_history.specs.History.{Begin, Ended, PlainEvent, History}
use Rattle.pre_history.specs.Rules.{last_four}
use Rattle.pre_script.specs.declared.scripts.Loss.{Loss}

-- send 0 x 64
abbrev pub first_send : SendLine
first_send = record { send = record { tick = record { 0 = 0 }; stream = record { 0 = 0 }; size = 64 }; line = 1 }

-- the script says this, and `until 5000`
pub record SendsFirst (w : Scenario) : Type 0 where
  pub net : IsPair w.net
  pub streams : streams.IsPair w.streams
  pub sends : w.script.sends ≡ first_send ∷ []
  pub sets : w.script.sets ≡ []
  pub damages : w.script.damages ≡ []
  pub until : w.script.until.0 ≡ 5000

-- and nothing more
pub record SendsOneFrame (w : Scenario) : Type 0 where
  pub script : SendsFirst w
  pub losses : w.script.losses ≡ []

-- lose a>b 0
abbrev pub first_loss : Loss
first_loss = record { arc = record { 0 = 0 }; ordinal = 0 }

-- and loses its mPacket
pub record LosesOneFrame (w : Scenario) : Type 0 where
  pub script : SendsFirst w
  pub losses : w.script.losses ≡ first_loss ∷ []

abbrev pub entered : PlainEvent
entered = PlainEvent.enter (record { tick = 0; arc = 0; prio = 6; frame = 0 })

-- a whole frame begins on a>b
abbrev pub frame_begin : (tick ord frame : ℕ) → Begin
frame_begin tick ord frame = record { tick = tick; arc = 0; ord = ord; kind = kind.Express; what = what.Frame (record { 0 = frame }); from = 0 }

abbrev pub first_begin : Begin
first_begin = frame_begin 0 0 0

abbrev pub arrived : PlainEvent
arrived = PlainEvent.arrive (record { tick = 72; arc = 0; ord = 0; result = outcome.Frame })

module _ (w : Scenario) where
  abbrev pub first_end : Ended
  first_end = record { tick = 72; arc = 0; ord = 0; size = 64; check = last_four (FrameOf w 0) }

  abbrev pub delivery : PlainEvent
  delivery = PlainEvent.deliver (record { tick = 72; node = 1; frame = 0; octets = FrameOf w 0 })

  -- 0 enter a>b 6 0, 0 begin a>b 0 E 0 0, 72 ended a>b 0 64 CHECK, 72 arrive a>b 0 frame, 72 deliver b 0 HEX
  abbrev pub one_frame_body : History
  one_frame_body = entered ∷ PlainEvent.begin first_begin ∷ PlainEvent.ended first_end ∷ arrived ∷ delivery ∷ []

  -- and 5000 end 1 1 0
  abbrev pub one_frame : History
  one_frame = one_frame_body ++ PlainEvent.end (record { until = 5000; sent = 1; delivered = 1; dropped = 0 }) ∷ []

-- ---- the same frame, lost

abbrev pub lost : PlainEvent
lost = PlainEvent.arrive (record { tick = 72; arc = 0; ord = 0; result = outcome.Lost })

module _ (w : Scenario) where
  -- 0 enter a>b 6 0, 0 begin a>b 0 E 0 0, 72 ended a>b 0 64 CHECK, 72 arrive a>b 0 lost
  abbrev pub lost_frame_body : History
  lost_frame_body = entered ∷ PlainEvent.begin first_begin ∷ PlainEvent.ended (first_end w) ∷ lost ∷ []

  -- and 5000 end 1 0 0
  abbrev pub lost_frame : History
  lost_frame = lost_frame_body ++ PlainEvent.end (record { until = 5000; sent = 1; delivered = 0; dropped = 0 }) ∷ []

-- ---- two frames back to back

-- send 0 x 64 again
abbrev pub second_send : SendLine
second_send = record { send = record { tick = record { 0 = 0 }; stream = record { 0 = 0 }; size = 64 }; line = 2 }

-- the script says both, and `until 1000`
pub record SendsTwoFrames (w : Scenario) : Type 0 where
  pub net : IsPair w.net
  pub streams : streams.IsPair w.streams
  pub sends : w.script.sends ≡ first_send ∷ second_send ∷ []
  pub sets : w.script.sets ≡ []
  pub losses : w.script.losses ≡ []
  pub damages : w.script.damages ≡ []
  pub until : w.script.until.0 ≡ 1000

abbrev pub enters_ring : ℕ → PlainEvent
enters_ring frame = PlainEvent.enter (record { tick = 0; arc = 0; prio = 6; frame = frame })

abbrev pub frame_arrives : (tick ord : ℕ) → PlainEvent
frame_arrives tick ord = PlainEvent.arrive (record { tick = tick; arc = 0; ord = ord; result = outcome.Frame })

module _ (w : Scenario) where
  abbrev pub frame_end : (tick ord frame : ℕ) → Ended
  frame_end tick ord frame = record { tick = tick; arc = 0; ord = ord; size = 64; check = last_four (FrameOf w frame) }

  abbrev pub frame_delivery : (tick frame : ℕ) → PlainEvent
  frame_delivery tick frame = PlainEvent.deliver (record { tick = tick; node = 1; frame = frame; octets = FrameOf w frame })

  -- the first one begins at 0 and arrives at 72, the second one at 84 and 156
  abbrev pub two_frames_body : History
  two_frames_body =
      enters_ring 0 ∷ enters_ring 1 ∷ PlainEvent.begin (frame_begin 0 0 0)
      ∷ PlainEvent.ended (frame_end 72 0 0) ∷ frame_arrives 72 0 ∷ frame_delivery 72 0 ∷ PlainEvent.begin (frame_begin 84 1 1)
      ∷ PlainEvent.ended (frame_end 156 1 1) ∷ frame_arrives 156 1 ∷ frame_delivery 156 1 ∷ []

  -- and 1000 end 2 2 0
  abbrev pub two_frames : History
  two_frames = two_frames_body ++ PlainEvent.end (record { until = 1000; sent = 2; delivered = 2; dropped = 0 }) ∷ []
