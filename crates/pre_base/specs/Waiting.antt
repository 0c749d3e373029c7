-- What contracts see of octets that wait to be written.
use Rattle.std.specs.Prelude.{◌≡◌, ℕ, List, drop}

-- those that are left to write, and for how many more there is room
pub record Waiting : Type 0 where
  pub octets : List ℕ
  pub room : ℕ

-- a front of them, perhaps none, was written
abbrev pub WroteFront : Waiting → Waiting → Type 0
WroteFront old new = (n : ℕ) × (new.octets ≡ drop n old.octets) × (new.room ≡ old.room)
