-- What a draft of a script stands for.
use Rattle.std.specs.Prelude.{◌≡◌, ℕ, nat_le}
use Rattle.pre_script.specs.declared.drafts.Draft.{Draft}
use Rattle.pre_script.specs.Seen.{Seen, are_before}

abbrev pub seen : Draft → Seen
seen d = record { sends = d.sends; sets = d.sets; losses = d.losses; damages = d.damages; until = d.until }

-- a tick comes last exactly where it isn't below the latest so far
abbrev pub IsLatest : Draft → Type 0
IsLatest d = (tick : ℕ) → are_before d.sends d.sets tick ≡ nat_le d.latest.0 tick
