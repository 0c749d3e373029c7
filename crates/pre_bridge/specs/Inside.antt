-- Which frames are inside the bridges after a list of calls, and which of them comes out next.
use Rattle.std.specs.Prelude.{◌≡◌, ◌≤◌, ℕ, ◌+◌, ◌==◌, ◌||◌, ◌&&◌, nat_le, nat_lt, not, Bool, if◌then◌else◌}
use Rattle.std.specs.Prelude.{List, [], ◌∷◌, ◌++◌, length, fold, filter, find, All, Any, Option, Some, None, is_some}
use Rattle.std.specs.List.{list_all}
use Rattle.pre_base.specs.declared.numbers.ArcId.{ArcId}
use Rattle.pre_rings.specs.declared.slots.FrameRef.{FrameRef}
use Rattle.pre_topo.specs.declared.network.Network.{Network}
use Rattle.pre_streams.specs.declared.rows.Streams.{Streams}
use Rattle.pre_bridge.specs.Table.{onward, latency_of, capacity_of}

-- a call: a frame is delivered at a tick by an arc, or the due one is taken at a tick
pub data Call : Type 0 where
  delivered : ℕ → ℕ → FrameRef → Call
  taken : ℕ → Call

-- a frame inside: the arc by which it arrived, the tick at which its latency is over, and the arc by which it leaves
pub record Entry : Type 0 where
  pub arc : ℕ
  pub due : ℕ
  pub next : ArcId
  pub frame : FrameRef

-- those that arrived by an arc
abbrev pub of_arc : ℕ → List Entry → List Entry
of_arc arc entries = filter (λ entry. entry.arc == arc) entries

-- the latency is over
abbrev pub is_due : ℕ → Entry → Bool
is_due t entry = nat_le entry.due t

-- it is due, and no due one arrived by a lesser arc
abbrev pub comes_out : ℕ → List Entry → Entry → Bool
comes_out t entries entry = is_due t entry && list_all (λ other. not (is_due t other) || nat_le entry.arc other.arc) entries

-- of those inside, in the order of their deliveries, the first that comes out
abbrev pub leaving : ℕ → List Entry → Option Entry
leaving t entries = find (comes_out t entries) entries

-- the list without the first that passes
abbrev pub without_first : (Entry → Bool) → List Entry → List Entry
without_first test [] = []
without_first test (entry ∷ entries) = if test entry then entries else entry ∷ without_first test entries

-- A frame is kept where a route goes on with it.
abbrev pub kept : ℕ → ℕ → ℕ → FrameRef → Option ArcId → List Entry
kept t arc latency frame None = []
kept t arc latency frame (Some next) = record { arc = arc; due = t + latency; next = next; frame = frame } ∷ []

abbrev pub after : Network → Streams → List Entry → Call → List Entry
after net streams entries (delivered t arc frame) = entries ++ kept t arc (latency_of net arc) frame (onward net streams arc frame.vid)
after net streams entries (taken t) = without_first (comes_out t entries) entries

-- the frames inside after the calls, in the order of their deliveries
abbrev pub inside : Network → Streams → List Call → List Entry
inside net streams calls = fold (after net streams) [] calls

-- what is handed out of an entry: the arc by which the frame leaves, and the frame
abbrev pub handed : Entry → ArcId × FrameRef
handed entry = (entry.next, entry.frame)

-- Fewer frames that arrived by the arc are inside than may be.
abbrev pub has_room : Network → Streams → List Call → ℕ → Bool
has_room net streams calls arc = nat_lt (length (of_arc arc (inside net streams calls))) (capacity_of net arc)

-- It is the least tick at which one of them is due, or there are none.
abbrev pub IsLeastDue : List Entry → Option ℕ → Type 0
IsLeastDue entries None = entries ≡ []
IsLeastDue entries (Some t) = Any (λ entry. entry.due ≡ t) entries × All (λ entry. t ≤ entry.due) entries

-- the tick of the last delivery that kept its frame, and 0 where there is none
abbrev pub last_kept_after : Network → Streams → ℕ → Call → ℕ
last_kept_after net streams before (delivered t arc frame) = if is_some (onward net streams arc frame.vid) then t else before
last_kept_after net streams before (taken t) = before

abbrev pub last_kept : Network → Streams → List Call → ℕ
last_kept net streams calls = fold (last_kept_after net streams) 0 calls
