-- Numbers and octets are read as what was written.
use Rattle.std.proofs.Common.{IsTrue, ◌≢◌, nat_le, ◌≡◌, ⊎_elim, ℕ, zero, suc, ◌+◌, ◌*◌, ◌/◌, ◌%◌, ◌^◌, ◌<◌, ◌≤◌, Bool, true}
use Rattle.std.proofs.Common.{false, ◌==◌, ◌&&◌, nat_lt, not, if◌then◌else◌, List, [], ◌∷◌, length, get_or, Some, None, refl, sym, ◌∙◌, ap}
use Rattle.std.proofs.Common.{subst, arith}
use Rattle.std.specs.Char.{digit_value, is_ascii_digit, is_ascii_hexdigit}
use Rattle.std.specs.Fmt.{decimal}
use Rattle.std.specs.List.{list_all}
use Rattle.std.specs.Str.Parse.{digits_value, AllDigits}
use Rattle.std.proofs.lemmas.Bool.{cases_lt, false≢true}
use Rattle.std.proofs.lemmas.Bool.Decides.{nat_tests}
use Rattle.std.proofs.lemmas.Fmt.{decimal_is_IsNumeral, decimal_digit, first_decimal, decimal-digits_value, digits_decimal}
use Rattle.std.proofs.lemmas.Str.Parse.{digit_from_value, numerals_by_value, tells_digits, IsNumeralModel}
use Rattle.pre_text.specs.Reading.{AreOctets, IsWord}
use Rattle.pre_text.specs.Words.{are_pairs, is_name, is_name_octet, is_plain, number_of, pair_octets, pairs_within}
use Rattle.pre_text.specs.Writing.{hex, hex_digit}
use Rattle.pre_text.proofs.Numbers.{fits, plain_digits}
use Rattle.pre_text.proofs.Pairs.{within}
use Rattle.pre_base.proofs.NumberTests.{below}

own : IsNumeralModel (AllDigits 10) (digits_value 10)
own = numerals_by_value (AllDigits 10) tells_digits

digits_word : (ds : List ℕ) → AllDigits 10 ds → IsWord ds
digits_word [] h = tt
digits_word (d ∷ ds) h = let is = digit_from_value d h.0 in (omega arith, omega arith, omega arith, digits_word ds h.1)

all_digits : (n : ℕ) → n < 2 ^ 64 → AllDigits 10 (decimal n)
all_digits n lt = digits_decimal own n lt

pub decimal_word : (n : ℕ) → n < 2 ^ 64 → IsWord (decimal n)
decimal_word n lt = digits_word (decimal n) (all_digits n lt)

ascii_digits : (ds : List ℕ) → AllDigits 10 ds → list_all is_ascii_digit ds ≡ true
ascii_digits [] h = refl
ascii_digits (d ∷ ds) h = let is = digit_from_value d h.0 in let rest = ascii_digits ds h.1 in let first : is_ascii_digit d ≡ true = grind (arith, nat_tests) in rw (first, rest) refl

plain_from : (ds : List ℕ) → AllDigits 10 ds → 48 < get_or ds 0 0 → is_plain ds ≡ true
plain_from [] h lt = absurd (omega arith)
plain_from (d ∷ []) h lt = let is = digit_from_value d h.0 in grind (arith, nat_tests)
plain_from (d ∷ e ∷ ds) h lt = let all = ascii_digits (d ∷ e ∷ ds) h in let other : (d == 48) ≡ false = grind (arith, nat_tests) in rw (other, all) refl

decimal_plain : (n : ℕ) → n < 2 ^ 64 → is_plain (decimal n) ≡ true
decimal_plain zero lt = rw (decimal_digit 0 (omega arith)) refl
decimal_plain (suc n) lt = plain_from (decimal (suc n)) (all_digits (suc n) lt) (first_decimal (suc n) (omega arith) lt)

pub number_back : (n : ℕ) → n < 2 ^ 64 → number_of (decimal n) ≡ Some n
number_back n lt =
    let value = (decimal_is_IsNumeral n lt).1 in
    fits (decimal n) (decimal_plain n lt) (subst (λ (m : ℕ). m < 2 ^ 64) (sym value) lt) ∙ ap Some value

both : (p q : Bool) → (p && q) ≡ true → (p ≡ true) × (q ≡ true)
both true true e = (refl, refl)
both true false e = absurd (false≢true e)
both false q e = absurd (false≢true e)

digit_below : (c : ℕ) → is_ascii_digit c ≡ true → digit_value c < 10
digit_below c e = grind (arith, nat_tests)

digits_all : (w : List ℕ) → list_all is_ascii_digit w ≡ true → AllDigits 10 w
digits_all [] h = tt
digits_all (c ∷ w) h =
    let parts = both (is_ascii_digit c) (list_all is_ascii_digit w) h in
    (digit_below c parts.0, digits_all w parts.1)

tested : (p q : Bool) (v n : ℕ) → (if p && q then Some v else None) ≡ Some n → (p ≡ true) × (q ≡ true) × (v ≡ n)
tested true true v n e = (refl, refl, cc)
tested true false v n e = absurd cc
tested false q v n e = absurd cc

one_zero : (w : List ℕ) → is_plain w ≡ true → (0 < length w) × (get_or w 0 0 ≡ 48 → length w ≡ 1)
one_zero [] h = absurd (false≢true h)
one_zero (c ∷ []) h = (omega arith, λ _. refl)
one_zero (c ∷ d ∷ cs) h =
    let parts = both (not (c == 48)) (list_all is_ascii_digit (c ∷ d ∷ cs)) h in
    (omega arith, λ (is : c ≡ 48). absurd (grind (arith, nat_tests, parts.0)))

pub number_only : (word : List ℕ) (n : ℕ) → number_of word ≡ Some n → word ≡ decimal n
number_only word n e =
    let parts = tested (is_plain word) (nat_lt (digits_value 10 word) (2 ^ 64)) (digits_value 10 word) n e in
    let first = one_zero word parts.0 in
    let small : digits_value 10 word < 2 ^ 64 = below (digits_value 10 word) (2 ^ 64) parts.1 in
    sym (decimal-digits_value own word (digits_all word (plain_digits word parts.0)) first.0 first.1 small) ∙ ap decimal parts.2

low_digit : (d : ℕ) → d < 10 → (is_ascii_hexdigit (48 + d) ≡ true) × (digit_value (48 + d) ≡ d)
low_digit d lt = (grind (arith, nat_tests), grind (arith, nat_tests))

high_digit : (d : ℕ) → 10 ≤ d → d < 16 → (is_ascii_hexdigit (87 + d) ≡ true) × (digit_value (87 + d) ≡ d)
high_digit d le lt = (grind (arith, nat_tests), grind (arith, nat_tests))

record IsGlyph (d c : ℕ) : Type 0 where
  digit : is_ascii_hexdigit c ≡ true
  value : digit_value c ≡ d
  late : 47 < c

low_glyph : (d : ℕ) → d < 10 → IsGlyph d (48 + d)
low_glyph d lt = record { digit = (low_digit d lt).0; value = (low_digit d lt).1; late = omega arith }

high_glyph : (d : ℕ) → 10 ≤ d → d < 16 → IsGlyph d (87 + d)
high_glyph d le lt = record { digit = (high_digit d le lt).0; value = (high_digit d le lt).1; late = omega arith }

glyph : (d : ℕ) → d < 16 → IsGlyph d (hex_digit d)
glyph d lt =
    ⊎_elim (λ low. let t : nat_lt d 10 ≡ true = grind (arith, nat_tests) in rw t (low_glyph d low))
    (λ high. let t : nat_lt d 10 ≡ false = grind (arith, nat_tests) in rw t (high_glyph d high lt))
    (cases_lt d 10)

pub hex_word : (octets : List ℕ) → AreOctets octets → IsWord (hex octets)
hex_word [] h = tt
hex_word (b ∷ bs) h =
    let one = (glyph (b / 16) (omega (arith, h.0))).late in
    let two = (glyph (b % 16) (omega arith)).late in
    (omega (arith, one), omega (arith, one), omega (arith, one), (omega (arith, two), omega (arith, two), omega (arith, two), hex_word bs h.1))

hex_digits : (octets : List ℕ) → AreOctets octets → list_all is_ascii_hexdigit (hex octets) ≡ true
hex_digits [] h = refl
hex_digits (b ∷ bs) h = rw ((glyph (b / 16) (omega (arith, h.0))).digit, (glyph (b % 16) (omega arith)).digit, hex_digits bs h.1) refl

length-hex : (octets : List ℕ) → length (hex octets) ≡ 2 * length octets
length-hex [] = refl
length-hex (b ∷ bs) = omega (arith, length-hex bs)

hex_octets : (octets : List ℕ) → AreOctets octets → pair_octets (hex octets) ≡ octets
hex_octets [] h = refl
hex_octets (b ∷ bs) h =
    let high = (glyph (b / 16) (omega (arith, h.0))).value in
    let low = (glyph (b % 16) (omega arith)).value in
    let whole : 16 * (b / 16) + b % 16 ≡ b = omega arith in
    rw (high, low, whole, hex_octets bs h.1) refl

pub hex_back : (octets : List ℕ) (room : ℕ) → AreOctets octets → 0 < length octets → length octets ≤ room → pairs_within room (hex octets) ≡ Some octets
hex_back octets room h some le =
    let long = length-hex octets in
    let first : nat_lt 0 (length (hex octets)) ≡ true = grind (arith, nat_tests) in
    let even : (length (hex octets) % 2 == 0) ≡ true = rw long (grind (arith, nat_tests)) in
    let pairs : are_pairs (hex octets) ≡ true = rw (first, even, hex_digits octets h) refl in
    within (hex octets) room pairs (omega (arith, long)) ∙ ap Some (hex_octets octets h)

letters_word : (w : List ℕ) → list_all is_name_octet w ≡ true → IsWord w
letters_word [] h = tt
letters_word (c ∷ w) h =
    let parts = both (is_name_octet c) (list_all is_name_octet w) h in
    let no : (d : ℕ) → is_name_octet d ≡ false → c ≢ d = λ d off e. absurd (false≢true (sym off ∙ subst (λ (x : ℕ). is_name_octet x ≡ true) e parts.0)) in
    (no 32 refl, no 10 refl, no 13 refl, letters_word w parts.1)

pub name_word : (word : List ℕ) → IsTrue (is_name word) → IsWord word
name_word word h = letters_word word (both (nat_lt 0 (length word) && nat_le (length word) 32) (list_all is_name_octet word) h).1
