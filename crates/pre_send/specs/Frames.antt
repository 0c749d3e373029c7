-- The frame of the newest mPacket.
use Rattle.std.specs.Prelude.{ℕ, List, [], ◌∷◌, Option, Some, None}
use Rattle.pre_rings.specs.declared.slots.FrameRef.{FrameRef}
use Rattle.pre_rings.specs.Stores.{HoldsFrame}
use Rattle.pre_send.specs.Calls.{Chosen, express, whole, first, rest}
use Rattle.pre_send.specs.Sendings.{Sending, Part, interrupted}

abbrev pub frame_of_part : Option Part → Option FrameRef
frame_of_part None = None
frame_of_part (Some x) = Some x.frame

abbrev pub frame_by : Chosen → Option Part → Option FrameRef
frame_by (express f) before = Some f
frame_by (whole f) before = Some f
frame_by (first f) before = Some f
frame_by rest before = frame_of_part before
frame_by _ before = None

abbrev pub HoldsSome : Option FrameRef → List (Option (List ℕ)) → Type 0
HoldsSome None store = Unit {0}
HoldsSome (Some f) store = HoldsFrame store f

-- the store holds it, where the newest mPacket carries octets of one
abbrev pub HoldsNewest : List Sending → List (Option (List ℕ)) → Type 0
HoldsNewest [] store = Unit {0}
HoldsNewest (p ∷ older) store = HoldsSome (frame_by p.told.chosen (interrupted older)) store
