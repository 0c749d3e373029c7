-- Paths back along routes.
use Rattle.std.specs.Prelude.{◌≡◌, ◌≢◌, ℕ, ◌<◌, ◌≤◌, List, [], ◌∷◌, ◌++◌, length, take, drop, slice_get, Some, All, AllPairs, Option}
use Rattle.pre_base.specs.declared.numbers.ArcId.{ArcId}
use Rattle.pre_streams.specs.declared.rows.Row.{Row}
use Rattle.pre_bound.specs.Uses.{Follows}
use Rattle.pre_certify.specs.Peels.{IsOpen}

abbrev pub IsDistinct : List ArcId → Type 0
IsDistinct arcs = AllPairs (λ a b. a.0 ≢ b.0) arcs

-- each arc is followed by the next, from this one on
abbrev pub Leads : List Row → ℕ → List ArcId → Type 0
Leads rows from [] = Unit {0}
Leads rows from (a ∷ arcs) = Follows rows from a.0 × Leads rows a.0 arcs

-- distinct open arcs, from the last that was found on, each followed by the next
pub record IsBackPath (rows : List Row) (ranks : List (Option ℕ)) (last : ArcId) (path : List ArcId) : Type 0 where
  pub rest : List ArcId
  pub path_is : path ≡ last ∷ rest
  pub leads : Leads rows last.0 rest
  pub distinct : IsDistinct path
  pub still : All (λ a. IsOpen ranks a.0) path

-- the same arcs in the same order, from the least one on
pub record IsTurned (path turned : List ArcId) : Type 0 where
  pub place : ℕ
  pub within : place < length path
  pub turned_is : turned ≡ drop place path ++ take place path
  pub least : (k : ℕ) (a b : ArcId) → slice_get path place ≡ Some a → slice_get path k ≡ Some b → a.0 ≤ b.0
