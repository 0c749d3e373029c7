-- The token bucket: it holds at most the burst, fills at the rate, and each send takes its octets out of it.
use Rattle.std.specs.Prelude.{ℕ, ◌+◌, ◌-◌, ◌*◌, ◌≤◌, min, List, [], ◌∷◌}
use Rattle.pre_curve.specs.declared.curves.Curve.{Curve}
use Rattle.pre_curve.specs.Windows.{Offer}

-- the tokens after some ticks, in millionths of an octet
abbrev pub refilled : Curve → ℕ → ℕ → ℕ
refilled curve tokens ticks = min (1_000_000 * curve.burst) (tokens + curve.rate * ticks)

-- from so many tokens at a tick on, the bucket never lacks what a send takes
abbrev pub Conforms : Curve → ℕ → ℕ → List Offer → Type 0
Conforms curve tokens latest [] = Unit {0}
Conforms curve tokens latest (o ∷ offers) =
    (1_000_000 * o.octets ≤ refilled curve tokens (o.tick - latest)) × Conforms curve (refilled curve tokens (o.tick - latest) - 1_000_000 * o.octets) o.tick offers

-- the same from a full bucket on
abbrev pub ConformsFull : List Offer → Curve → Type 0
ConformsFull offers curve = Conforms curve (1_000_000 * curve.burst) 0 offers
