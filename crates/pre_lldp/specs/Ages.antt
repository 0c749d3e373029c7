-- How long an advert counts.
use Rattle.std.specs.Prelude.{◌≡◌, ℕ, ◌+◌, ◌*◌, ◌<◌, ◌==◌, true, if◌then◌else◌, List, Option, Some, None}
use Rattle.pre_lldp.specs.declared.adverts.Advert.{Advert}
use Rattle.pre_base.specs.Last.{last}

-- an advert that arrived at a tick
pub record Heard : Type 0 where
  pub tick : ℕ
  pub says : Advert

-- the last of them
abbrev pub last_heard : List Heard → Option Heard
last_heard calls = last calls

-- the first tick at which the advert doesn't count any more
abbrev pub runs_out : ℕ → Heard → ℕ
runs_out unit heard = heard.tick + heard.says.ttl * unit

-- The last advert heard counts at the tick, which with a time to live of 0 it never does, and says supported and enabled.
abbrev pub CountsEnabled : ℕ → List Heard → ℕ → Type 0
CountsEnabled unit calls t = (heard : Heard) × (last_heard calls ≡ Some heard) × (0 < heard.says.ttl) × (t < runs_out unit heard) × (heard.says.enabled ≡ true)

-- when the last advert heard runs out; none where none was heard or it never counts
abbrev pub expiry : ℕ → Option Heard → Option ℕ
expiry unit None = None
expiry unit (Some heard) = if heard.says.ttl == 0 then None else Some (runs_out unit heard)
