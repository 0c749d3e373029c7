-- The first of a list that passes a test.
use Rattle.std.proofs.Common.{◌≡◌, ℕ, ◌<◌, ◌≤◌, Bool, true, false, cond, ltb, List, length, Some, None, refl, sym, ap, ◌∙◌, arith}
use Rattle.std.specs.Prelude.{slice_get, position}
use Rattle.std.specs.List.{position_or_len}
use Rattle.std.proofs.lemmas.Bool.{ltb-false, ltb-true}
use Rattle.std.proofs.lemmas.Option.{slice_get_within, get_or_from_slice_get}
use Rattle.std.proofs.lemmas.List.Sums.{fails_before_first}
use Rattle.std.proofs.lemmas.List.Quantifiers.{position-Some}

pub none_passes : {X : Type 0} (p : X → Bool) (xs : List X) → position p xs ≡ None → (j : ℕ) (x : X) → slice_get xs j ≡ Some x → p x ≡ false
none_passes p xs e j x at =
    let within : j < length xs = slice_get_within xs j x at in
    let far : length xs ≤ position_or_len p xs = by (ltb (position_or_len p xs) (length xs)) refl e in
    ap p (sym (get_or_from_slice_get xs j x x at)) ∙ fails_before_first p xs j x (omega arith)
  where
    by : (b : Bool) → ltb (position_or_len p xs) (length xs) ≡ b → cond b (Some (position_or_len p xs)) None ≡ None → length xs ≤ position_or_len p xs
    by true is f = absurd cc
    by false is f = ltb-false (position_or_len p xs) (length xs) is

pub one_passes : {X : Type 0} (p : X → Bool) (xs : List X) (i : ℕ) → position p xs ≡ Some i → (x : X) → slice_get xs i ≡ Some x → p x ≡ true
one_passes p xs i e x at = ap p (sym (get_or_from_slice_get xs i x x at)) ∙ (position-Some p xs i x e).1

pub none_before : {X : Type 0} (p : X → Bool) (xs : List X) (i : ℕ) → position p xs ≡ Some i → (j : ℕ) (x : X) → j < i → slice_get xs j ≡ Some x → p x ≡ false
none_before p xs i e j x lt at = ap p (sym (get_or_from_slice_get xs j x x at)) ∙ (position-Some p xs i x e).2 j lt

pub position_within : {X : Type 0} (p : X → Bool) (xs : List X) (i : ℕ) → position p xs ≡ Some i → i < length xs
position_within p xs i e = by (ltb (position_or_len p xs) (length xs)) refl e
  where
    by : (b : Bool) → ltb (position_or_len p xs) (length xs) ≡ b → cond b (Some (position_or_len p xs)) None ≡ Some i → i < length xs
    by true is f = let same : position_or_len p xs ≡ i = cc in omega (arith, ltb-true (position_or_len p xs) (length xs) is, same)
    by false is f = absurd cc
