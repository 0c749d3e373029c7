-- The open frame that a receiver keeps.
use Rattle.std.specs.Prelude.{◌≡◌, ℕ, List, Option, Some, None}
use Rattle.pre_crc.specs.Register as register
use Rattle.pre_mpacket.specs.Open.{IsOpen}
use Rattle.pre_receive.specs.declared.opened.Opened.{Opened}

-- it has these counts, and its check runs over these octets
abbrev pub IsOf : Opened → ℕ → ℕ → List ℕ → Type 0
IsOf o frame_count next octets = (o.frame_count ≡ frame_count) × (o.next ≡ next) × register.Stands o.check octets

-- it is the frame that is open after these arrivals, with these octets; where it is none, none is open
abbrev pub HoldsOpened : Option Opened → List ℕ → List (Option (List ℕ)) → Type 0
HoldsOpened None octets A = (frame_count next : ℕ) (all : List ℕ) → ¬ IsOpen A frame_count next all
HoldsOpened (Some o) octets A = IsOpen A o.frame_count o.next octets × register.Stands o.check octets
