-- The history of a preemptable frame that is cut for an express frame, over the built-in network and streams.
use Rattle.std.specs.Prelude.{ℕ, ◌≡◌, [], ◌∷◌, ◌++◌, take}
use Rattle.pre_crc.specs.Checks.{Mcrc}
use Rattle.pre_topo.specs.PairNetwork.{IsPair}
use Rattle.pre_streams.specs.PairStreams as streams
use Rattle.pre_script.specs.declared.scripts.SendLine.{SendLine}
use Rattle.pre_mpacket.specs.declared.packets.Kind.{Kind}
use Rattle.pre_mpacket.specs.declared.packets.Kind.TheVariants as kind
use Rattle.pre_history.specs.declared.events.What.TheVariants as what
use Rattle.pre_history.specs.declared.events.Outcome.{Outcome}
use Rattle.pre_history.specs.declared.events.Outcome.TheVariants as outcome
use Rattle.pre_history.specs.Scenario.{Scenario, FrameOf}
use Rattle.pre_history.specs.History.{Begin, Ended, PlainEvent, History}
use Rattle.pre_history.specs.Rules.{last_four}

-- send 0 y 1522: a frame of the flow, the greatest one that the link takes
abbrev pub flow_send : SendLine
flow_send = record { send = record { tick = record { 0 = 0 }; stream = record { 0 = 1 }; size = 1522 }; line = 1 }

-- send 20 x 64: a frame of the stream
abbrev pub express_send : SendLine
express_send = record { send = record { tick = record { 0 = 20 }; stream = record { 0 = 0 }; size = 64 }; line = 2 }

-- The script says both, and `until 2000`.
pub record CutsFrame (w : Scenario) : Type 0 where
  pub net : IsPair w.net
  pub streams : streams.IsPair w.streams
  pub sends : w.script.sends ≡ flow_send ∷ express_send ∷ []
  pub sets : w.script.sets ≡ []
  pub losses : w.script.losses ≡ []
  pub damages : w.script.damages ≡ []
  pub until : w.script.until.0 ≡ 2000

-- a frame enters the ring of its priority of a>b
abbrev pub enters : (tick prio frame : ℕ) → PlainEvent
enters tick prio frame = PlainEvent.enter (record { tick = tick; arc = 0; prio = prio; frame = frame })

-- octets of a frame begin on a>b
abbrev pub frame_begin : (tick ord : ℕ) → Kind → (frame from : ℕ) → Begin
frame_begin tick ord kind frame from = record { tick = tick; arc = 0; ord = ord; kind = kind; what = what.Frame (record { 0 = frame }); from = from }

-- the first fragment, the express frame, and the continuation with the rest
abbrev pub start_begin : Begin
start_begin = frame_begin 0 0 (kind.Start 0) 0 0

abbrev pub express_begin : Begin
express_begin = frame_begin 84 1 kind.Express 1 0

abbrev pub rest_begin : Begin
rest_begin = frame_begin 168 2 (kind.Continue 0 0) 0 60

abbrev pub arrives : (tick ord : ℕ) → Outcome → PlainEvent
arrives tick ord result = PlainEvent.arrive (record { tick = tick; arc = 0; ord = ord; result = result })

module _ (w : Scenario) where
  -- The first fragment is cut after 60 octets of mData, so their mCRC is its check.
  abbrev pub start_end : Ended
  start_end = record { tick = 72; arc = 0; ord = 0; size = 64; check = Mcrc (take 60 (FrameOf w 0)) }

  abbrev pub express_end : Ended
  express_end = record { tick = 156; arc = 0; ord = 1; size = 64; check = last_four (FrameOf w 1) }

  abbrev pub rest_end : Ended
  rest_end = record { tick = 1638; arc = 0; ord = 2; size = 1462; check = last_four (FrameOf w 0) }

  -- a frame is delivered at b
  abbrev pub delivers : (tick frame : ℕ) → PlainEvent
  delivers tick frame = PlainEvent.deliver (record { tick = tick; node = 1; frame = frame; octets = FrameOf w frame })

  -- 0 enter a>b 0 0, 0 begin a>b 0 S0 0 0, 20 enter a>b 6 1, 72 ended a>b 0 64 CHECK, 72 arrive a>b 0 part,
  -- 84 begin a>b 1 E 1 0, 156 ended a>b 1 64 CHECK, 156 arrive a>b 1 frame, 156 deliver b 1 HEX,
  -- 168 begin a>b 2 C0.0 0 60, 1638 ended a>b 2 1462 CHECK, 1638 arrive a>b 2 frame, 1638 deliver b 0 HEX
  abbrev pub cut_frame_body : History
  cut_frame_body =
      enters 0 0 0 ∷ PlainEvent.begin start_begin ∷ enters 20 6 1 ∷ PlainEvent.ended start_end ∷ arrives 72 0 outcome.Part
      ∷ PlainEvent.begin express_begin ∷ PlainEvent.ended express_end ∷ arrives 156 1 outcome.Frame ∷ delivers 156 1
      ∷ PlainEvent.begin rest_begin ∷ PlainEvent.ended rest_end ∷ arrives 1638 2 outcome.Frame ∷ delivers 1638 0 ∷ []

  -- and count a>b 0 0 1 1 1, 2000 end 2 2 0: a frame was assembled, of one continuation
  abbrev pub cut_frame : History
  cut_frame =
      cut_frame_body
      ++ PlainEvent.count 0 (record { err = 0; smd = 0; ok = 1; rx = 1; tx = 1 })
      ∷ PlainEvent.end (record { until = 2000; sent = 2; delivered = 2; dropped = 0 }) ∷ []
