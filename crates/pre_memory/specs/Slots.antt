-- How many slots of a store are out, and how many a network needs.
use Rattle.std.specs.Prelude.{ℕ, ◌+◌, ◌*◌, ◌/◌, ◌≡◌, ◌≤◌, ◌<◌, ◌==◌, if◌then◌else◌, List, length, count_by, sum, slice_get, Option, Some, is_some, All}
use Rattle.std.specs.List.{sum_by}
use Rattle.pre_rings.specs.declared.slots.FrameRef.{FrameRef}
use Rattle.pre_topo.specs.declared.nodes.Node.{Node}
use Rattle.pre_topo.specs.declared.arcs.Arc.{Arc}
use Rattle.pre_topo.specs.Arcs.{latency_at}

-- for each slot the octets that it holds, where it is out
abbrev pub Store : Type 0
Store = List (Option (List ℕ))

-- 1 where a slot is out, and else 0
abbrev pub one_if : Option (List ℕ) → ℕ
one_if o = if is_some o then 1 else 0

-- how many slots are out
abbrev pub slots_out : Store → ℕ
slots_out store = count_by (λ o. is_some o) store

-- the frames at an arc: those of its rings, and those of its sender, the one being sent and the interrupted one
pub record Held : Type 0 where
  pub rings : List (List FrameRef)
  pub sender : List FrameRef

-- how many these are
abbrev pub frames_held : Held → ℕ
frames_held h = sum_by length h.rings + length h.sender

-- how many frames may be inside the bridge at the end of an arc that arrived by it
abbrev pub room_of : List Node → Arc → ℕ
room_of nodes a = latency_at nodes a.to.0 / (84 * a.cost) + 1

-- how often a number stands in a list
abbrev pub times : ℕ → List ℕ → ℕ
times n ns = count_by (λ m. m == n) ns

-- No more frames stand at an arc than its rings and its sender take, and of those that arrived by it no more are inside than may be.
pub record FitsArc (nodes : List Node) (a : Arc) (h : Held) (count : ℕ) : Type 0 where
  pub rings : sum_by length h.rings ≤ sum a.rings
  pub sender : length h.sender ≤ 2
  pub inside : count ≤ room_of nodes a

-- So it is with each arc, where a list tells by which arc each frame inside a bridge arrived.
pub record FitsArcs (nodes : List Node) (arcs : List Arc) (held : List Held) (came_by : List ℕ) : Type 0 where
  pub lanes : length held ≡ length arcs
  pub each : (i : ℕ) (a : Arc) (h : Held) → slice_get arcs i ≡ Some a → slice_get held i ≡ Some h → FitsArc nodes a h (times i came_by)
  pub known : All (λ i. i < length arcs) came_by
