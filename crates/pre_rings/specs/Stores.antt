-- What contracts say of a frame store, as a list with an entry for each slot.
use Rattle.std.specs.Prelude.{◌≡◌, ℕ, List, length, Option, Some, IsSome, IsSomeAnd, slice_get}
use Rattle.pre_rings.specs.declared.slots.FrameRef.{FrameRef}

-- the slot is out
abbrev pub IsOut : List (Option (List ℕ)) → ℕ → Type 0
IsOut store slot = IsSomeAnd (slice_get store slot) (λ entry. IsSome entry)

-- the slot is out and holds these octets
abbrev pub HoldsAt : List (Option (List ℕ)) → ℕ → List ℕ → Type 0
HoldsAt store slot octets = slice_get store slot ≡ Some (Some octets)

-- the store holds the frame: its slot is out and holds as many octets as the frame has
abbrev pub HoldsFrame : List (Option (List ℕ)) → FrameRef → Type 0
HoldsFrame store frame = (octets : List ℕ) × HoldsAt store frame.slot octets × (length octets ≡ frame.size)
