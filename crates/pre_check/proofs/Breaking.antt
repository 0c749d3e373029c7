-- The first row that fails, and what it says of a clause at each line.
use Rattle.std.proofs.Common.{◌≡◌, ℕ, ◌∙◌, Bool, List, Option, ap}
use Rattle.std.specs.Option.{option_map}
use Rattle.pre_check.specs.Breaches.{later, fails_at, fails_from}

pub at_line : {X : Type 0} (r : Option ℕ) (n from : ℕ) (place : Option ℕ) (test : X → Bool) (rows : List X) → r ≡ option_map (later n) place → place ≡ fails_at test rows → n ≡ from → r ≡ fails_from from test rows
at_line r n from place test rows e p f = e ∙ ap (option_map (later n)) p ∙ ap (λ m. fails_from m test rows) f

-- of arcs, whose lines begin at the second
pub at_second : {X : Type 0} (r place : Option ℕ) (test : X → Bool) (rows : List X) → r ≡ option_map (later 2) place → place ≡ fails_at test rows → r ≡ fails_from 2 test rows
at_second r place test rows e p = e ∙ ap (option_map (later 2)) p
