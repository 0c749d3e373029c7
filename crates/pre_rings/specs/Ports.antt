-- What contracts see of a port's rings.
use Rattle.std.specs.Prelude.{◌≡◌, ℕ, List, [], length, map, slice_index, slice_index_or, slice_set}
use Rattle.circular_buffer.specs.Buffer.{Buffer}
use Rattle.pre_rings.specs.declared.slots.FrameRef.{FrameRef}

-- for each priority the frames that wait, the front one first, and how many may
pub record Port : Type 0 where
  pub frames : List (List FrameRef)
  pub capacities : List ℕ

-- there is a list and a capacity for each of the eight priorities
abbrev pub IsPort : Port → Type 0
IsPort port = (length port.frames ≡ 8) × (length port.capacities ≡ 8)

abbrev pub frames_at : Port → ℕ → List FrameRef
frames_at port prio = slice_index_or port.frames prio []

abbrev pub capacity_at : Port → ℕ → ℕ
capacity_at port prio = slice_index port.capacities prio

-- the same port with other frames in one ring
abbrev pub with_frames : Port → ℕ → List FrameRef → Port
with_frames port prio frames = record port { frames = slice_set port.frames prio frames }

abbrev pub port_of : List (Buffer FrameRef) → Port
port_of rings = record { frames = map (λ r. r.items) rings; capacities = map (λ r. r.capacity) rings }
