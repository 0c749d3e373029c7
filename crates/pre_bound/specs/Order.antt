-- The numbers of a port depend on the delays at arcs of lower ranks alone.
use Rattle.std.specs.Prelude.{◌≡◌, ℕ, ◌<◌, List}
use Rattle.pre_streams.specs.declared.rows.Row.{Row}
use Rattle.pre_bound.specs.Uses.{Follows}
use Rattle.pre_bound.specs.Along.{Delays}

-- ranks rise from an arc to the next of a route
abbrev pub Rise : List Row → (ℕ → ℕ) → Type 0
Rise rows rank = (arc next : ℕ) → Follows rows arc next → rank arc < rank next

-- the delays are the same at the arcs of lower ranks
abbrev pub SameBelow : (ℕ → ℕ) → Delays → Delays → ℕ → Type 0
SameBelow rank delays other arc = (before prio : ℕ) → rank before < rank arc → prio < 8 → delays before prio ≡ other before prio
