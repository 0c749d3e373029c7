-- What is read off a history: each query reads the whole list, at a tick.
use Rattle.std.specs.Prelude.{ℕ, ◌+◌, ◌-◌, ◌*◌, ◌%◌, ◌<◌, ◌≤◌, ◌≡◌, ◌≢◌, ◌==◌, ◌&&◌, not, nat_lt, nat_le, Bool, List, [], ◌∷◌}
use Rattle.std.specs.Prelude.{◌++◌, length, map, filter, filter_map, flat_map, take, drop, Any, Option, Some, None, MatchOption, slice_get, option_map, option_and_then}
use Rattle.std.specs.Prelude.{unwrap_or, ⊤}
use Rattle.std.specs.List.{list_any, AllByRecursion as Every}
use Rattle.pre_base.specs.declared.limits.TheConstants.{GAP}
use Rattle.pre_script.specs.declared.scripts.Setting.{Setting}
use Rattle.pre_script.specs.declared.scripts.Setting.TheVariants as setting
use Rattle.pre_mpacket.specs.Arrivals.{is_start, is_fragment}
use Rattle.pre_history.specs.Scenario.{Scenario, arc, FrameOf}
use Rattle.pre_history.specs.History.{Begin, Ended, Arrive, Delivery, History}
use Rattle.pre_history.specs.Selected.{RingEntry, begin_on, ended_on, arrive_on, entry_on, delivery_of, what_is, frame_count, frame_number, from_last}
use Rattle.pre_base.specs.Last.{last}

-- an mPacket: its `begin` event, with its `ended` event where it has one
pub record Packet : Type 0 where
  pub begin : Begin
  pub ended : Option Ended

-- the rest of an interrupted frame: where it goes on, its frame count and its next fragment count
pub record Rest : Type 0 where
  pub frame : ℕ
  pub from : ℕ
  pub frame_count : ℕ
  pub fragment_count : ℕ

-- the value of the arc's last `set` line up to the tick; it is `on` at the beginning
abbrev pub SettingOf : Scenario → ℕ → ℕ → Setting
SettingOf w a t = unwrap_or (last (map (λ x. x.value) (filter (λ x. (x.arc.0 == a) && nat_le x.tick.0 t) w.script.sets))) setting.On

module _ (h : History) where
  abbrev pub Begins : ℕ → List Begin
  Begins a = filter_map (begin_on a) h

  abbrev pub Ends : ℕ → List Ended
  Ends a = filter_map (ended_on a) h

  abbrev pub Arrivals : ℕ → List Arrive
  Arrivals a = filter_map (arrive_on a) h

  -- the end with this ordinal
  abbrev pub end_of : ℕ → ℕ → Option Ended
  end_of a i = slice_get (filter (λ e. e.ord == i) (Ends a)) 0

  abbrev pub packet : ℕ → Begin → Packet
  packet a b = record { begin = b; ended = end_of a b.ord }

  -- the mPackets of the arc, in order: mPacket i stands at place i
  unfoldable pub Packets : ℕ → List Packet
  Packets a = map (packet a) (Begins a)

  -- the entries of the ring of that priority, and the drops at it
  abbrev pub Entries : ℕ → ℕ → List RingEntry
  Entries a p = filter_map (entry_on a p) h

  abbrev pub Deliveries : List Delivery
  Deliveries = filter_map delivery_of h

  -- whether the frame's first octet began on the arc before the tick
  abbrev pub begun_before : ℕ → ℕ → ℕ → Bool
  begun_before a t f = list_any (λ b. nat_lt b.tick t && what_is b.what f && (b.from == 0)) (Begins a)

  -- the frames, in order of entry, that entered the ring by the tick and whose first octet didn't begin before it
  unfoldable pub Waiting : ℕ → ℕ → ℕ → List ℕ
  Waiting a p t = map (λ e. e.frame) (filter (λ e. e.entered && nat_le e.tick t && not (begun_before a t e.frame)) (Entries a p))

  -- the mPackets begun before the tick
  abbrev pub PacketsBefore : ℕ → ℕ → List Packet
  PacketsBefore a t = filter (λ p. nat_lt p.begin.tick t) (Packets a)

  -- the arc's last start before the tick, and the continuations since
  abbrev pub LastRun : ℕ → ℕ → List Packet
  LastRun a t = from_last (λ p. is_start p.begin.kind) (filter (λ p. is_fragment p.begin.kind) (PacketsBefore a t))

module _ (w : Scenario) (h : History) where
  -- The mPacket is under way at the tick, or the gap of twelve octets after it isn't over.
  abbrev pub IsUnderWay : ℕ → ℕ → Packet → Type 0
  IsUnderWay a t p = (p.begin.tick < t) × MatchOption p.ended ⊤ (λ e. t < e.tick + GAP * (arc w a).cost)

  -- An mPacket that began earlier has no end, or its end and the gap after it aren't over.
  abbrev pub Occupied : ℕ → ℕ → Type 0
  Occupied a t = Any (IsUnderWay a t) (Packets h a)

  abbrev pub data_to : Begin → Option Ended → List ℕ
  data_to b None = []
  data_to b (Some e) = take (e.size - 4) (drop b.from (FrameOf w (frame_number b.what)))

  -- the mData of a fragment, as far as it has ended
  abbrev pub fragment_data : Packet → List ℕ
  fragment_data p = data_to p.begin p.ended

  abbrev pub joined_data : List Packet → List ℕ
  joined_data run = flat_map fragment_data run

  -- the check of the last of them
  abbrev pub last_check : List Packet → List ℕ
  last_check run = unwrap_or (option_map (λ e. e.check) (option_and_then (λ p. p.ended) (last run))) []

  -- what is left of the frame of a start and its continuations
  abbrev pub rest_of : Packet → List Packet → Rest
  rest_of first more =
      record { frame = frame_number first.begin.what; from = length (joined_data (first ∷ more)); frame_count = frame_count first.begin.kind; fragment_count = length more % 4 }

  -- The arc's last start and its continuations have ended, and aren't the whole frame: this is left of it.
  abbrev pub Interrupted : ℕ → ℕ → Rest → Type 0
  Interrupted a t left =
      (first : Packet) × (more : List Packet) × (LastRun h a t ≡ first ∷ more)
      × Every (λ p. MatchOption p.ended ⊥ (λ e. e.tick ≤ t)) (first ∷ more)
      × (joined_data (first ∷ more) ++ last_check (first ∷ more) ≢ FrameOf w (frame_number first.begin.what))
      × (left ≡ rest_of first more)
