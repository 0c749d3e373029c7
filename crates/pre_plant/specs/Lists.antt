-- Lists of what stands at each number from 0 on.
use Rattle.std.specs.Prelude.{ℕ, List, map}
use Rattle.std.specs.List.{flat_map, range_with_len}

-- so many items, by number
unfoldable pub list_of : {X : Type 0} → ℕ → (ℕ → X) → List X
list_of count item = map item (range_with_len 0 count)

-- so many lists, by number, joined
unfoldable pub joined_of : {X : Type 0} → ℕ → (ℕ → List X) → List X
joined_of count items = flat_map items (range_with_len 0 count)
