-- How frames go over an arc: in one express mPacket, or in fragments.
use Rattle.std.specs.Prelude.{ℕ, suc, ◌+◌, ◌-◌, ◌<◌, ◌≤◌, ◌≡◌, false, true, List, [], length, take, map, filter, unwrap_or, option_map, Some, slice_get, All}
use Rattle.std.specs.List.{AllByRecursion as Every}
use Rattle.pre_base.specs.declared.numbers.FrameNo.{FrameNo}
use Rattle.pre_mpacket.specs.Arrivals.{is_start, is_fragment}
use Rattle.pre_mpacket.specs.Spelling.{PlainPacket}
use Rattle.pre_mpacket.specs.Pieces.{Carries, least_fragment}
use Rattle.pre_topo.specs.declared.arcs.Mode.TheVariants as mode
use Rattle.pre_history.specs.declared.events.What.TheVariants as what
use Rattle.pre_history.specs.Scenario.{Scenario, arc, FrameOf}
use Rattle.pre_history.specs.History.{Begin, Ended, History}
use Rattle.pre_history.specs.Selected.{from_last}
use Rattle.pre_history.specs.Octets.{is_lost, names_damage}
use Rattle.pre_history.specs.Queries.{Begins, Ends, Packet, Packets, Rest, fragment_data}

-- of the mPackets before place m of the arc the last start, and the continuations since
abbrev pub RunTo : History → ℕ → ℕ → List Packet
RunTo h a m = from_last (λ p. is_start p.begin.kind) (filter (λ p. is_fragment p.begin.kind) (take m (Packets h a)))

-- what is sent of a fragment that ended
abbrev pub plain_of : Scenario → History → Packet → PlainPacket
plain_of w h p = record { kind = p.begin.kind; mdata = fragment_data w h p; check = unwrap_or (option_map (λ e. e.check) p.ended) [] }

-- The frame, whose last octets are those of mPacket i, went in that fragment and those before it since their start.
pub record WentInParts (w : Scenario) (h : History) (a i : ℕ) (f : FrameNo) : Type 0 where
  pub all_carry : Every (λ p. p.begin.what ≡ what.Frame f) (RunTo h a (suc i))
  pub carried : Carries (FrameOf w f.0) (arc w a).add_frag (map (plain_of w h) (RunTo h a (suc i)))

-- mPacket m goes on with a frame where the last fragment before it was cut.
pub record GoesOn (w : Scenario) (h : History) (a m : ℕ) (d : Begin) : Type 0 where
  pub place : ℕ
  pub before : Begin
  pub ended : Ended
  pub frame : FrameNo
  pub begun : slice_get (Begins h a) place ≡ Some before
  pub over : slice_get (Ends h a) place ≡ Some ended
  pub earlier : place < m
  pub by : ended.tick ≤ d.tick
  pub fragment : is_fragment before.kind ≡ true
  pub none_since : (j : ℕ) (c : Begin) → place < j → j < m → slice_get (Begins h a) j ≡ Some c → is_fragment c.kind ≡ false
  pub carried : before.what ≡ what.Frame frame
  pub carries : d.what ≡ what.Frame frame
  -- where it goes on, and how much was sent and is left
  pub from : d.from ≡ before.from + (ended.size - 4)
  pub least : least_fragment (arc w a).add_frag ≤ ended.size - 4
  pub left : d.from + 64 ≤ length (FrameOf w frame.0)

-- No line of the script damages the mPacket.
abbrev pub IsUndamaged : Scenario → Begin → Type 0
IsUndamaged w b = filter (names_damage b) w.script.damages ≡ []

-- No line loses or damages it.
abbrev pub IsKept : Scenario → Begin → Type 0
IsKept w b = (is_lost w b ≡ false) × IsUndamaged w b

-- No mPacket that began on the arc from place s up to place i is damaged; each may be lost.
abbrev pub AreUndamaged : Scenario → History → (a s i : ℕ) → Type 0
AreUndamaged w h a s i = (k : ℕ) (b : Begin) → s ≤ k → k ≤ i → slice_get (Begins h a) k ≡ Some b → IsUndamaged w b

-- What is left of the frame that is interrupted at the tick: the last fragment that began before it ended, and was cut.
pub record IsLeft (w : Scenario) (h : History) (a t : ℕ) (left : Rest) : Type 0 where
  pub place : ℕ
  pub last : Begin
  pub ended : Ended
  pub begun : slice_get (Begins h a) place ≡ Some last
  pub over : slice_get (Ends h a) place ≡ Some ended
  pub before : last.tick < t
  pub by : ended.tick ≤ t
  pub fragment : is_fragment last.kind ≡ true
  pub carries : last.what ≡ what.Frame (record { 0 = left.frame })
  pub none_since : (j : ℕ) (c : Begin) → place < j → slice_get (Begins h a) j ≡ Some c → c.tick < t → is_fragment c.kind ≡ false
  pub from : left.from ≡ last.from + (ended.size - 4)
  pub least : least_fragment (arc w a).add_frag ≤ ended.size - 4
  pub more : left.from + 64 ≤ length (FrameOf w left.frame)

-- No fragment that began is lost.
abbrev pub LosesNoFragment : Scenario → History → Type 0
LosesNoFragment w h = (a i : ℕ) (b : Begin) → slice_get (Begins h a) i ≡ Some b → is_fragment b.kind ≡ true → is_lost w b ≡ false

-- No line of the script damages an mPacket, and those that it loses are on arcs that never preempt.
pub record KeepsFragments (w : Scenario) : Type 0 where
  pub undamaged : w.script.damages ≡ []
  pub losses : All (λ l. (arc w l.arc.0).mode ≡ mode.Off) w.script.losses
