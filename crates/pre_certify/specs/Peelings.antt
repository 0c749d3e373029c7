-- What the rounds come to.
use Rattle.std.specs.Prelude.{◌≡◌, ℕ, ◌<◌, ◌≤◌, List, length}
use Rattle.pre_streams.specs.declared.rows.Row.{Row}
use Rattle.pre_bound.specs.Uses.{Follows}
use Rattle.pre_certify.specs.Peels.{Peeled, IsClosed, open_count}
use Rattle.pre_certify.specs.declared.ranks.Peeling.{Peeling}
use Rattle.pre_certify.specs.declared.ranks.Peeling.TheVariants.{Ranked, Closed}

abbrev pub PeelsRows : List Row → ℕ → Peeling → Type 0
PeelsRows rows arcs (Ranked ranks) = (length ranks ≡ arcs) × (open_count ranks ≡ 0) × ((round : ℕ) × Peeled rows round ranks × (round ≤ arcs))
PeelsRows rows arcs (Closed ranks) = (length ranks ≡ arcs) × (0 < open_count ranks) × IsClosed rows ranks

-- arcs that others follow are among the first ones of this number
abbrev pub FollowedWithin : List Row → ℕ → Type 0
FollowedWithin rows arcs = (arc next : ℕ) → Follows rows arc next → arc < arcs
