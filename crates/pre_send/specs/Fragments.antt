-- The counts of fragments.
use Rattle.std.specs.Prelude.{ℕ, ◌+◌, ◌%◌, ◌==◌, if◌then◌else◌}

-- the fragment count of the next continuation, where a fragment was from this place
abbrev pub next_fragment : ℕ → ℕ → ℕ
next_fragment from fragment = if from == 0 then 0 else (fragment + 1) % 4
