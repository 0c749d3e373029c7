-- Hexadecimal pairs, octet by octet.
use Rattle.std.proofs.Common.{◌≡◌, ℕ, zero, suc, ◌+◌, ◌*◌, ◌<◌, ◌/◌, ◌%◌, List, [], ◌∷◌, ◌++◌, length}
use Rattle.std.proofs.Common.{get_or, take, drop, slice_set, refl, sym, ap, ◌∙◌, arith, take-append-drop}
use Rattle.std.proofs.lemmas.List.{take_more}
use Rattle.pre_text.specs.Writing.{hex, hex_digit}

hex-append : (l m : List ℕ) → hex (l ++ m) ≡ hex l ++ hex m
hex-append [] m = refl
hex-append (x ∷ l) m = ap (λ digits. hex_digit (x / 16) ∷ hex_digit (x % 16) ∷ digits) (hex-append l m)

-- a list in two parts
pub hex-parts : (l few further : List ℕ) (n : ℕ) → few ≡ take n l → further ≡ drop n l → hex l ≡ hex few ++ hex further
hex-parts l few further n front back =
    ap hex (sym (take-append-drop n l)) ∙ hex-append (take n l) (drop n l) ∙ ap (λ m. hex m ++ hex (drop n l)) (sym front) ∙ ap (λ m. hex few ++ hex m) (sym back)

-- two digits written behind others
two_written : (l : List ℕ) (k a b : ℕ) → suc k < length l → take (suc (suc k)) (slice_set (slice_set l k a) (suc k) b) ≡ take k l ++ a ∷ b ∷ []
two_written [] k a b lt = absurd (omega arith)
two_written (x ∷ []) k a b lt = absurd (omega arith)
two_written (x ∷ y ∷ l) zero a b lt = refl
two_written (x ∷ y ∷ l) (suc k) a b lt = ap (λ m. x ∷ m) (two_written (y ∷ l) k a b (omega arith))

pub digits_more : (l octets : List ℕ) (i a b : ℕ) → 2 * i + 1 < length l → i < length octets → a ≡ hex_digit (get_or octets i 0 / 16) → b ≡ hex_digit (get_or octets i 0 % 16) → take (2 * i) l ≡ hex (take i octets)
    → take (2 * (i + 1)) (slice_set (slice_set l (2 * i) a) (2 * i + 1) b) ≡ hex (take (i + 1) octets)
digits_more l octets i a b room lt high low so_far =
    ap (λ n. take n (slice_set (slice_set l (2 * i) a) (2 * i + 1) b)) {x = 2 * (i + 1)} {y = suc (suc (2 * i))} (omega arith)
    ∙ ap (λ n. take (suc (suc (2 * i))) (slice_set (slice_set l (2 * i) a) n b)) {x = 2 * i + 1} {y = suc (2 * i)} (omega arith)
    ∙ two_written l (2 * i) a b (omega arith)
    ∙ ap (λ m. m ++ a ∷ b ∷ []) so_far
    ∙ ap (λ c. hex (take i octets) ++ c ∷ b ∷ []) high
    ∙ ap (λ c. hex (take i octets) ++ hex_digit (get_or octets i 0 / 16) ∷ c ∷ []) low
    ∙ sym (ap hex (take_more octets i 0 lt) ∙ hex-append (take i octets) (get_or octets i 0 ∷ []))
