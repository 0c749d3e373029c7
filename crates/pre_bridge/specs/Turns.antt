-- Whose turn it is to come out.
use Rattle.std.specs.Prelude.{◌≢◌, ◌≤◌, ℕ, zero, suc, List, [], ◌∷◌, ◌++◌, filter, flat_map, All}
use Rattle.pre_bridge.specs.Inside.{Entry, of_arc, is_due}

-- Of the frames inside, with those delivered before it and behind it, it is due, no due one arrived by a lesser arc,
-- and none that was delivered before it arrived by its arc.
pub record IsTurn (t : ℕ) (before : List Entry) (entry : Entry) (behind : List Entry) : Type 0 where
  pub due : entry.due ≤ t
  pub least : All (λ other. other.due ≤ t → entry.arc ≤ other.arc) (before ++ entry ∷ behind)
  pub oldest : All (λ other. other.arc ≢ entry.arc) before

-- the numbers below n, in order
abbrev pub below : ℕ → List ℕ
below zero = []
below (suc n) = below n ++ n ∷ []

-- those due that arrived by an arc, in the order of their deliveries
abbrev pub dues_of_arc : ℕ → List Entry → ℕ → List Entry
dues_of_arc t entries arc = filter (is_due t) (of_arc arc entries)

-- all that are due: those of lesser arcs first, each arc's in the order of their deliveries
abbrev pub dues : ℕ → ℕ → List Entry → List Entry
dues t arcs entries = flat_map (dues_of_arc t entries) (below arcs)
