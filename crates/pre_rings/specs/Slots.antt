-- How a store keeps its slots: side by side in one region, each as wide as the others.
use Rattle.std.specs.Prelude.{◌≡◌, ℕ, ◌+◌, ◌*◌, ◌<◌, ◌≤◌, List, [], ◌∷◌, length, take, drop, Option, None, Some}
use Rattle.std.specs.Prelude.{All, is_some, is_none, count_by, nat_eq, slice_index_or, if◌then◌else◌}
use Rattle.std.specs.Option.{option_map}

-- what each slot holds: nothing while it is in, and else as many octets of its part of the region as its size says
unfoldable pub slots_of : ℕ → List (Option ℕ) → List ℕ → List (Option (List ℕ))
slots_of width [] region = []
slots_of width (size ∷ sizes) region = option_map (λ n. take n region) size ∷ slots_of width sizes (drop width region)

-- how often a place stands in a list of places
abbrev pub times : List ℕ → ℕ → ℕ
times places p = count_by (λ q. nat_eq q p) places

-- the places are those below a number, each once
pub record IsFull (count : ℕ) (places : List ℕ) : Type 0 where
  pub once : (p : ℕ) → p < count → times places p ≡ 1
  pub within : All (λ q. q < count) places
  pub all : length places ≡ count

-- the list of places has those of the slots that are in, each once, and room for the others
pub record IsKept (width : ℕ) (sizes : List (Option ℕ)) (region places : List ℕ) (capacity : ℕ) : Type 0 where
  pub whole : length region ≡ width * length sizes
  pub widths : All (λ size. (n : ℕ) → size ≡ Some n → n ≤ width) sizes
  pub once : (p : ℕ) → p < length sizes → times places p ≡ (if is_none (slice_index_or sizes p None) then 1 else 0)
  pub within : All (λ q. q < length sizes) places
  pub count : length places + count_by (λ size. is_some size) sizes ≡ length sizes
  pub room : length sizes ≤ capacity
