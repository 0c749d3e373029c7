-- The draws of a plant. The generator is a linear congruential one of 64 bits, whose first state is the number of the plant.
use Rattle.std.specs.Prelude.{ℕ, zero, suc, ◌+◌, ◌*◌, ◌/◌, ◌%◌, ◌^◌, List, [], ◌∷◌, slice_index}

-- the next state
unfoldable pub next_state : ℕ → ℕ
next_state x = (x * 6364136223846793005 + 1442695040888963407) % 2 ^ 64

-- what so many draws take from a state on: of each next state its upper 31 bits
unfoldable pub drawn : ℕ → ℕ → List ℕ
drawn zero x = []
drawn (suc count) x = next_state x / 2 ^ 33 ∷ drawn count (next_state x)

-- the draws of a plant: two for each stream, one for each flow, one for the first tick of each row, two for each loss and four for each damage
unfoldable pub draws_of : ℕ → List ℕ
draws_of n = drawn 360 n

-- the draw of this number, from 0, below a bound
abbrev pub draw : List ℕ → ℕ → ℕ → ℕ
draw draws number below = slice_index draws number % below
