-- Ranks by rounds: after n of them those arcs have no rank yet at which a chain of n steps ends, and the others have theirs.
use Rattle.std.specs.Prelude.{◌≡◌, ℕ, ◌<◌, List, Option, Some, None, length, slice_get, slice_index_or, count_by, is_none}
use Rattle.pre_streams.specs.declared.rows.Row.{Row}
use Rattle.pre_bound.specs.Uses.{Follows}
use Rattle.pre_bound.specs.Chains.{EndsChain, IsRank}

-- the arc has no rank yet
abbrev pub IsOpen : List (Option ℕ) → ℕ → Type 0
IsOpen ranks arc = slice_get ranks arc ≡ Some None

-- the arc follows an open one on a route
pub record HasOpenBefore (rows : List Row) (ranks : List (Option ℕ)) (arc : ℕ) : Type 0 where
  pub before : ℕ
  pub follows : Follows rows before arc
  pub still : IsOpen ranks before

-- it follows none
abbrev pub NoneBefore : List Row → List (Option ℕ) → ℕ → Type 0
NoneBefore rows ranks arc = (before : ℕ) → Follows rows before arc → IsOpen ranks before → ⊥

-- what a round makes of an arc
pub record IsNextRank (rows : List Row) (round : ℕ) (ranks : List (Option ℕ)) (arc : ℕ) (next : Option ℕ) : Type 0 where
  pub kept : (rank : ℕ) → slice_get ranks arc ≡ Some (Some rank) → next ≡ Some rank
  pub stays : IsOpen ranks arc → next ≡ None → HasOpenBefore rows ranks arc
  pub ranked : IsOpen ranks arc → (rank : ℕ) → next ≡ Some rank → (rank ≡ round) × NoneBefore rows ranks arc

-- what it makes of all arcs
pub record IsRound (rows : List Row) (round : ℕ) (ranks next : List (Option ℕ)) : Type 0 where
  pub long : length next ≡ length ranks
  pub each : (arc : ℕ) (d : Option ℕ) → arc < length ranks → IsNextRank rows round ranks arc (slice_index_or next arc d)

-- after so many rounds
pub record Peeled (rows : List Row) (round : ℕ) (ranks : List (Option ℕ)) : Type 0 where
  pub still : (arc : ℕ) → IsOpen ranks arc → EndsChain rows round arc
  pub ranked : (arc rank : ℕ) → slice_get ranks arc ≡ Some (Some rank) → IsRank rows arc rank × (rank < round)

-- the arcs that have no rank yet
abbrev pub open_count : List (Option ℕ) → ℕ
open_count ranks = count_by is_none ranks

-- each open arc follows an open one
abbrev pub IsClosed : List Row → List (Option ℕ) → Type 0
IsClosed rows ranks = (arc : ℕ) → IsOpen ranks arc → HasOpenBefore rows ranks arc
