-- The first of some faults, and the first row that breaks a rule.
use Rattle.std.specs.Prelude.{ℕ, Bool, List, [], ◌∷◌, Option, Some, None, position}
use Rattle.std.specs.List.{enumerate_from}

-- the first that is there
abbrev pub first_of : {A : Type 0} → List (Option A) → Option A
first_of [] = None
first_of (None ∷ os) = first_of os
first_of (Some x ∷ os) = Some x

-- the first row that breaks a rule, which may depend on the row's place
abbrev pub first_row : {A : Type 0} → (ℕ → A → Bool) → List A → Option ℕ
first_row breaks rows = position (λ r. breaks r.0 r.1) (enumerate_from 0 rows)
