-- A plain number, digit by digit.
use Rattle.std.proofs.Common.{◌≡◌, ℕ, ◌+◌, ◌-◌, ◌*◌, ◌^◌, ◌<◌, ◌≤◌, true, List, [], ◌∷◌, length, get_or, take, Some, None, arith}
use Rattle.std.specs.Char.{digit_value, is_ascii_digit}
use Rattle.std.specs.List.{list_all}
use Rattle.std.specs.Str.Parse.{digits_value}
use Rattle.std.proofs.lemmas.Bool.{false≢true}
use Rattle.std.proofs.lemmas.Bool.Decides.{nat_tests}
use Rattle.std.proofs.lemmas.Int.Digits.{digits_value_more}
use Rattle.std.proofs.lemmas.Str.Parse.{digits_value-take-le}
use Rattle.std.proofs.lemmas.List.Sums.{AllPass-from_list_all}
use Rattle.pre_text.specs.Words.{is_plain, number_of}

pub plain_digits : (w : List ℕ) → is_plain w ≡ true → list_all is_ascii_digit w ≡ true
plain_digits [] h = absurd (false≢true h)
plain_digits (c ∷ []) h = grind (arith, nat_tests)
plain_digits (c ∷ d ∷ cs) h = grind (arith, nat_tests)

digit_at : (w : List ℕ) (i : ℕ) → is_plain w ≡ true → i < length w → is_ascii_digit (get_or w i 0) ≡ true
digit_at w i h lt = AllPass-from_list_all is_ascii_digit w (plain_digits w h) i 0 lt

pub value_at : (w : List ℕ) (i : ℕ) → is_plain w ≡ true → i < length w → (48 ≤ get_or w i 0) × (digit_value (get_or w i 0) ≡ get_or w i 0 - 48)
value_at w i h lt = let is = digit_at w i h lt in (grind (arith, nat_tests), grind (arith, nat_tests))

-- one more digit
pub value_more : (w : List ℕ) (i n m : ℕ) → is_plain w ≡ true → i < length w → n ≡ digits_value 10 (take i w) → m ≡ n * 10 + (get_or w i 0 - 48) → m ≡ digits_value 10 (take (i + 1) w)
value_more w i n m h lt is more =
    let at = value_at w i h lt in
    let step = digits_value_more 10 w i lt in
    omega (arith, step, at.1)

pub fits : (w : List ℕ) → is_plain w ≡ true → digits_value 10 w < 2 ^ 64 → number_of w ≡ Some (digits_value 10 w)
fits w h lt = grind (arith, nat_tests)

-- a front of the digits is too large, and so is the number
pub passes : (w : List ℕ) (i : ℕ) → is_plain w ≡ true → 2 ^ 64 ≤ digits_value 10 (take i w) → number_of w ≡ None
passes w i h le =
    let front = digits_value-take-le 10 w i (omega arith) in
    let large : 2 ^ 64 ≤ digits_value 10 w = omega (arith, front) in
    grind (arith, nat_tests)
