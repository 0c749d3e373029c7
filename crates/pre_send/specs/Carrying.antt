-- The octets of a frame, at the ends of the mPackets that carry it.
use Rattle.std.specs.Prelude.{ℕ, List, [], ◌∷◌, Option, Some, None}
use Rattle.pre_rings.specs.declared.slots.FrameRef.{FrameRef}
use Rattle.pre_rings.specs.Stores.{HoldsAt}
use Rattle.pre_send.specs.Calls.{Chosen, first, rest, End}
use Rattle.pre_send.specs.Sendings.{Sending}

-- it has ended, and the store then held these octets of the frame
abbrev pub IsHeld : FrameRef → List ℕ → Option End → Type 0
IsHeld f octets None = ⊥
IsHeld f octets (Some end) = HoldsAt end.store f.slot octets

abbrev pub HeldBy : Chosen → FrameRef → List ℕ → Option End → Type 0 → Type 0
HeldBy (first g) f octets end earlier = IsHeld f octets end
HeldBy rest f octets end earlier = IsHeld f octets end × earlier
HeldBy _ f octets end earlier = earlier

-- so it is for each fragment of the last frame that began as a first fragment
abbrev pub EachHeld : FrameRef → List ℕ → List Sending → Type 0
EachHeld f octets [] = Unit {0}
EachHeld f octets (p ∷ older) = HeldBy p.told.chosen f octets p.told.end (EachHeld f octets older)
