-- What is kept of lists that one item is put into.
use Rattle.std.proofs.Common.{◌≡◌, ℕ, zero, suc, ◌<◌, ◌≤◌, Bool, true, false, List, [], ◌∷◌, Some, length, get_or, map, slice_get, inl, inr, refl, ◌∙◌, ap, subst, arith}
use Rattle.std.specs.Prelude.{filter, Contains, ◌||◌}
use Rattle.std.specs.List.{insert, remove, list_any, position_or_len}
use Rattle.std.proofs.lemmas.Bool.{cases_Bool}

pub filter_without : {X : Type 0} (p : X → Bool) (xs : List X) (i : ℕ) (y : X) → p y ≡ false → filter p (insert xs i y) ≡ filter p xs
filter_without p [] zero y fails = rw fails refl
filter_without p [] (suc i) y fails = rw fails refl
filter_without p (x ∷ xs) zero y fails = rw fails refl
filter_without p (x ∷ xs) (suc i) y fails =
    let rest = filter_without p xs i y fails in
    elim (cases_Bool (p x)) [
      | inl kept ↦ rw kept (ap (λ l. x ∷ l) rest)
      | inr left ↦ rw left rest
    ]

pub any_without : {X : Type 0} (p : X → Bool) (xs : List X) (i : ℕ) (y : X) → p y ≡ false → list_any p (insert xs i y) ≡ list_any p xs
any_without p [] zero y fails = rw fails refl
any_without p [] (suc i) y fails = rw fails refl
any_without p (x ∷ xs) zero y fails = rw fails refl
any_without p (x ∷ xs) (suc i) y fails = ap (λ b. p x || b) (any_without p xs i y fails)

pub at_before : {X : Type 0} (xs : List X) (i k : ℕ) (y : X) → k < i → i ≤ length xs → slice_get (insert xs i y) k ≡ slice_get xs k
at_before xs zero k y less within = absurd (omega arith)
at_before [] (suc i) k y less within = absurd (omega arith)
at_before (x ∷ xs) (suc i) zero y less within = refl
at_before (x ∷ xs) (suc i) (suc k) y less within = at_before xs i k y (omega arith) (omega arith)

pub at_inserted : {X : Type 0} (xs : List X) (i : ℕ) (y : X) → i ≤ length xs → slice_get (insert xs i y) i ≡ Some y
at_inserted xs zero y within = refl
at_inserted [] (suc i) y within = absurd (omega arith)
at_inserted (x ∷ xs) (suc i) y within = at_inserted xs i y (omega arith)

pub removed_again : {X : Type 0} (xs : List X) (i : ℕ) (y : X) → i ≤ length xs → remove (insert xs i y) i ≡ xs
removed_again xs zero y within = refl
removed_again [] (suc i) y within = absurd (omega arith)
removed_again (x ∷ xs) (suc i) y within = ap (λ l. x ∷ l) (removed_again xs i y (omega arith))

contains_first : {X : Type 0} (x : X) (xs : List X) → Contains (x ∷ xs) x
contains_first x xs = (0, omega arith, refl)

contains_further : {X : Type 0} (x y : X) (xs : List X) → Contains xs y → Contains (x ∷ xs) y
contains_further x y xs c = (suc c.0, omega (arith, c.1), c.2)

-- an item of a list is one of its items that pass, where it passes
pub kept_at : {X : Type 0} (p : X → Bool) (xs : List X) (k : ℕ) (x : X) → slice_get xs k ≡ Some x → p x ≡ true → Contains (filter p xs) x
kept_at p [] k x at passes = absurd (cc)
kept_at p (y ∷ xs) zero x at passes =
    let same : y ≡ x = cc in
    let first : p y ≡ true = ap p same ∙ passes in
    rw first (subst (λ z. Contains (y ∷ filter p xs) z) same (contains_first y (filter p xs)))
kept_at p (y ∷ xs) (suc k) x at passes =
    let rest = kept_at p xs k x at passes in
    elim (cases_Bool (p y)) [
      | inl kept ↦ rw kept (contains_further y x (filter p xs) rest)
      | inr left ↦ rw left rest
    ]

mapped_from : {X Y : Type 0} (f : X → Y) (xs : List X) (k : ℕ) (x : X) → k < length xs → get_or xs k x ≡ x → Contains (map f xs) (f x)
mapped_from f [] k x inside is = absurd (omega arith)
mapped_from f (y ∷ xs) zero x inside is = subst (λ z. Contains (f y ∷ map f xs) (f z)) is (contains_first (f y) (map f xs))
mapped_from f (y ∷ xs) (suc k) x inside is = contains_further (f y) (f x) (map f xs) (mapped_from f xs k x (omega arith) is)

pub mapped : {X Y : Type 0} (f : X → Y) (xs : List X) (x : X) → Contains xs x → Contains (map f xs) (f x)
mapped f xs x c = mapped_from f xs c.0 x c.1 c.2

pub first_within : {X : Type 0} (p : X → Bool) (xs : List X) → position_or_len p xs ≤ length xs
first_within p [] = omega arith
first_within p (x ∷ xs) =
    let rest = first_within p xs in
    elim (cases_Bool (p x)) [
      | inl passes ↦ rw passes (omega arith)
      | inr fails ↦ rw fails (omega (arith, rest))
    ]
