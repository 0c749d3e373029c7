-- Where a fragment is cut, once it is told that an express frame waits.
use Rattle.std.specs.Prelude.{ℕ, ◌≤◌, Option, Some, None}
use Rattle.pre_mpacket.specs.Pieces.{IsBoundary}

-- the first boundary of a fragment, where an express frame waits from a tick on; or there is none
abbrev pub IsFirstCut : ℕ → ℕ → ℕ → ℕ → ℕ → Option ℕ → Type 0
IsFirstCut began waits cost add_frag unsent (Some d) =
    IsBoundary (λ t. waits ≤ t) (record { tick = began; octet_ticks = cost; add_frag = add_frag; unsent = unsent }) d
    × ((e : ℕ) → IsBoundary (λ t. waits ≤ t) (record { tick = began; octet_ticks = cost; add_frag = add_frag; unsent = unsent }) e → d ≤ e)
IsFirstCut began waits cost add_frag unsent None =
    (e : ℕ) → ¬ IsBoundary (λ t. waits ≤ t) (record { tick = began; octet_ticks = cost; add_frag = add_frag; unsent = unsent }) e
