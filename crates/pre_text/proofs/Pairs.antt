-- Pairs of hexadecimal digits, pair by pair.
use Rattle.std.proofs.Common.{◌≡◌, ℕ, zero, suc, nat_le, ◌+◌, ◌*◌, ◌/◌, ◌<◌, ◌≤◌, true, false, List, [], ◌∷◌}
use Rattle.std.proofs.Common.{◌++◌, length, get_or, set, take, drop, Some, None, refl, ap, arith}
use Rattle.std.specs.Char.{digit_value}
use Rattle.std.proofs.lemmas.Bool.Decides.{nat_tests}
use Rattle.pre_text.specs.Words.{are_pairs, pair_octets, pairs_within}

pub length-pair_octets : (w : List ℕ) → length (pair_octets w) ≡ length w / 2
length-pair_octets [] = refl
length-pair_octets (a ∷ []) = refl
length-pair_octets (a ∷ b ∷ w) = omega (arith, length-pair_octets w)

pub pair_at : (w : List ℕ) (i j : ℕ) → j ≡ 2 * i → j + 1 < length w → get_or (pair_octets w) i 0 ≡ 16 * digit_value (get_or w j 0) + digit_value (get_or w (suc j) 0)
pair_at [] i j is lt = absurd (omega arith)
pair_at (a ∷ []) i j is lt = absurd (omega arith)
pair_at (a ∷ b ∷ w) zero zero is lt = refl
pair_at (a ∷ b ∷ w) zero (suc j) is lt = absurd (omega arith)
pair_at (a ∷ b ∷ w) (suc i) zero is lt = absurd (omega arith)
pair_at (a ∷ b ∷ w) (suc i) (suc zero) is lt = absurd (omega arith)
pair_at (a ∷ b ∷ w) (suc i) (suc (suc j)) is lt = pair_at w i j (omega arith) (omega arith)

pub refused : (w : List ℕ) (room : ℕ) → are_pairs w ≡ false → pairs_within room w ≡ None
refused w room h = rw h refl

pub wide : (w : List ℕ) (room : ℕ) → are_pairs w ≡ true → room < length w / 2 → pairs_within room w ≡ None
wide w room h lt =
    let long : room < length (pair_octets w) = omega (arith, length-pair_octets w) in
    let test : nat_le (length (pair_octets w)) room ≡ false = grind (arith, nat_tests) in
    rw (h, test) refl

pub within : (w : List ℕ) (room : ℕ) → are_pairs w ≡ true → length w / 2 ≤ room → pairs_within room w ≡ Some (pair_octets w)
within w room h le =
    let short : length (pair_octets w) ≤ room = omega (arith, length-pair_octets w) in
    let test : nat_le (length (pair_octets w)) room ≡ true = grind (arith, nat_tests) in
    rw (h, test) refl

-- one more octet is written
pub written_more : (ps old into : List ℕ) (i v : ℕ) → i < length ps → i < length old → into ≡ take i ps ++ drop i old → v ≡ get_or ps i 0 → set into i v ≡ take (suc i) ps ++ drop (suc i) old
written_more [] old into i v lt in' is value = absurd (omega arith)
written_more (p ∷ ps) [] into i v lt in' is value = absurd (omega arith)
written_more (p ∷ ps) (b ∷ old) into zero v lt in' is value = rw (is, value) refl
written_more (p ∷ ps) (b ∷ old) [] (suc i) v lt in' is value = absurd cc
written_more (p ∷ ps) (b ∷ old) (x ∷ into) (suc i) v lt in' is value =
    let heads : x ≡ p = cc in
    let tails : into ≡ take i ps ++ drop i old = cc in
    rw heads (ap (λ (l : List ℕ). p ∷ l) (written_more ps old into i v (omega arith) (omega arith) tails value))
