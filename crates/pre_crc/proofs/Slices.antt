-- Sixty-four turns at once, and as many after sixty-four, by sixteen tables: what is turned out of an exclusive or is the exclusive or of what is turned
-- out of each part.
use Rattle.std.proofs.Common.{◌≡◌, ℕ, zero, suc, ◌+◌, ◌-◌, ◌*◌, ◌/◌, ◌%◌, ◌^◌, ◌<◌, ◌≤◌, ◌==◌, Bool}
use Rattle.std.proofs.Common.{true, false, List, [], ◌∷◌, length, map, get_or, take, drop, take_all, refl, sym, ap, ap₂, ◌∙◌, arith}
use Rattle.std.proofs.Common.{lit<, mod-lt}
use native.Mathlib.Nat.{div-div-eq-div-mul}
use Rattle.std.specs.Prelude.{bit_xor}
use Rattle.std.specs.Int.{w64, from_le_bytes, to_le_bytes}
use Rattle.std.proofs.lemmas.List.{get_or-map}
use lib.Bits.{xor_zero_r, xor_comm, xor_assoc, xor_shifted}
use Rattle.pre_crc.specs.Division.{add_bits}
use Rattle.pre_crc.specs.Register.{turn, turns, taken_in}
use Rattle.pre_crc.specs.declared.tables.TheConstants.{AFTER_ONE, AFTER_TWO, AFTER_THREE, AFTER_FOUR, AFTER_FIVE, AFTER_SIX, AFTER_SEVEN}
use Rattle.pre_crc.specs.declared.tables.TheConstants.{AFTER_EIGHT, AFTER_NINE, AFTER_TEN, AFTER_ELEVEN, AFTER_TWELVE, AFTER_THIRTEEN}
use Rattle.pre_crc.specs.declared.tables.TheConstants.{AFTER_FOURTEEN, AFTER_FIFTEEN, AFTER_SIXTEEN}
use Rattle.pre_crc.proofs.Registers.{tail_number, settle_number, turn-settle, turn-xor}
use Rattle.pre_crc.proofs.Table.{AFTER_ONE-at, turns-shifted, turns-octet}

-- ---- the tables: each is the one before it, eight turns on

two_computed : AFTER_TWO ≡ map (turns 8) AFTER_ONE
unfolding turns
two_computed = refl

three_computed : AFTER_THREE ≡ map (turns 8) AFTER_TWO
unfolding turns
three_computed = refl

four_computed : AFTER_FOUR ≡ map (turns 8) AFTER_THREE
unfolding turns
four_computed = refl

five_computed : AFTER_FIVE ≡ map (turns 8) AFTER_FOUR
unfolding turns
five_computed = refl

six_computed : AFTER_SIX ≡ map (turns 8) AFTER_FIVE
unfolding turns
six_computed = refl

seven_computed : AFTER_SEVEN ≡ map (turns 8) AFTER_SIX
unfolding turns
seven_computed = refl

eight_computed : AFTER_EIGHT ≡ map (turns 8) AFTER_SEVEN
unfolding turns
eight_computed = refl

nine_computed : AFTER_NINE ≡ map (turns 8) AFTER_EIGHT
unfolding turns
nine_computed = refl

ten_computed : AFTER_TEN ≡ map (turns 8) AFTER_NINE
unfolding turns
ten_computed = refl

eleven_computed : AFTER_ELEVEN ≡ map (turns 8) AFTER_TEN
unfolding turns
eleven_computed = refl

twelve_computed : AFTER_TWELVE ≡ map (turns 8) AFTER_ELEVEN
unfolding turns
twelve_computed = refl

thirteen_computed : AFTER_THIRTEEN ≡ map (turns 8) AFTER_TWELVE
unfolding turns
thirteen_computed = refl

fourteen_computed : AFTER_FOURTEEN ≡ map (turns 8) AFTER_THIRTEEN
unfolding turns
fourteen_computed = refl

fifteen_computed : AFTER_FIFTEEN ≡ map (turns 8) AFTER_FOURTEEN
unfolding turns
fifteen_computed = refl

sixteen_computed : AFTER_SIXTEEN ≡ map (turns 8) AFTER_FIFTEEN
unfolding turns
sixteen_computed = refl

-- turns after turns
pub turns-add : (m n x : ℕ) → turns (m + n) x ≡ turns n (turns m x)
unfolding turns
turns-add zero n x = ap (λ k. turns k x) {x = 0 + n} {y = n} (omega arith)
turns-add (suc m) n x = ap (λ k. turns k x) {x = suc m + n} {y = suc (m + n)} (omega arith) ∙ turns-add m n (turn x)

turns-after : (n x : ℕ) → turns 8 (turns n x) ≡ turns (8 + n) x
turns-after n x = sym (turns-add n 8 x) ∙ ap (λ k. turns k x) {x = n + 8} {y = 8 + n} (omega arith)

later : (n i : ℕ) (now before : List ℕ) → i < length before → now ≡ map (turns 8) before → get_or before i 0 ≡ turns n i → get_or now i 0 ≡ turns (8 + n) i
later n i now before h e at = ap (λ xs. get_or xs i 0) e ∙ get_or-map (turns 8) before i 0 0 h ∙ ap (turns 8) at ∙ turns-after n i

pub AFTER_TWO-at : (i : ℕ) → i < 256 → get_or AFTER_TWO i 0 ≡ turns 16 i
AFTER_TWO-at i h = later 8 i AFTER_TWO AFTER_ONE h two_computed (AFTER_ONE-at i h)

pub AFTER_THREE-at : (i : ℕ) → i < 256 → get_or AFTER_THREE i 0 ≡ turns 24 i
AFTER_THREE-at i h = later 16 i AFTER_THREE AFTER_TWO h three_computed (AFTER_TWO-at i h)

pub AFTER_FOUR-at : (i : ℕ) → i < 256 → get_or AFTER_FOUR i 0 ≡ turns 32 i
AFTER_FOUR-at i h = later 24 i AFTER_FOUR AFTER_THREE h four_computed (AFTER_THREE-at i h)

pub AFTER_FIVE-at : (i : ℕ) → i < 256 → get_or AFTER_FIVE i 0 ≡ turns 40 i
AFTER_FIVE-at i h = later 32 i AFTER_FIVE AFTER_FOUR h five_computed (AFTER_FOUR-at i h)

pub AFTER_SIX-at : (i : ℕ) → i < 256 → get_or AFTER_SIX i 0 ≡ turns 48 i
AFTER_SIX-at i h = later 40 i AFTER_SIX AFTER_FIVE h six_computed (AFTER_FIVE-at i h)

pub AFTER_SEVEN-at : (i : ℕ) → i < 256 → get_or AFTER_SEVEN i 0 ≡ turns 56 i
AFTER_SEVEN-at i h = later 48 i AFTER_SEVEN AFTER_SIX h seven_computed (AFTER_SIX-at i h)

pub AFTER_EIGHT-at : (i : ℕ) → i < 256 → get_or AFTER_EIGHT i 0 ≡ turns 64 i
AFTER_EIGHT-at i h = later 56 i AFTER_EIGHT AFTER_SEVEN h eight_computed (AFTER_SEVEN-at i h)

AFTER_NINE-at : (i : ℕ) → i < 256 → get_or AFTER_NINE i 0 ≡ turns 72 i
AFTER_NINE-at i h = later 64 i AFTER_NINE AFTER_EIGHT h nine_computed (AFTER_EIGHT-at i h)

AFTER_TEN-at : (i : ℕ) → i < 256 → get_or AFTER_TEN i 0 ≡ turns 80 i
AFTER_TEN-at i h = later 72 i AFTER_TEN AFTER_NINE h ten_computed (AFTER_NINE-at i h)

AFTER_ELEVEN-at : (i : ℕ) → i < 256 → get_or AFTER_ELEVEN i 0 ≡ turns 88 i
AFTER_ELEVEN-at i h = later 80 i AFTER_ELEVEN AFTER_TEN h eleven_computed (AFTER_TEN-at i h)

AFTER_TWELVE-at : (i : ℕ) → i < 256 → get_or AFTER_TWELVE i 0 ≡ turns 96 i
AFTER_TWELVE-at i h = later 88 i AFTER_TWELVE AFTER_ELEVEN h twelve_computed (AFTER_ELEVEN-at i h)

AFTER_THIRTEEN-at : (i : ℕ) → i < 256 → get_or AFTER_THIRTEEN i 0 ≡ turns 104 i
AFTER_THIRTEEN-at i h = later 96 i AFTER_THIRTEEN AFTER_TWELVE h thirteen_computed (AFTER_TWELVE-at i h)

AFTER_FOURTEEN-at : (i : ℕ) → i < 256 → get_or AFTER_FOURTEEN i 0 ≡ turns 112 i
AFTER_FOURTEEN-at i h = later 104 i AFTER_FOURTEEN AFTER_THIRTEEN h fourteen_computed (AFTER_THIRTEEN-at i h)

AFTER_FIFTEEN-at : (i : ℕ) → i < 256 → get_or AFTER_FIFTEEN i 0 ≡ turns 120 i
AFTER_FIFTEEN-at i h = later 112 i AFTER_FIFTEEN AFTER_FOURTEEN h fifteen_computed (AFTER_FOURTEEN-at i h)

AFTER_SIXTEEN-at : (i : ℕ) → i < 256 → get_or AFTER_SIXTEEN i 0 ≡ turns 128 i
AFTER_SIXTEEN-at i h = later 120 i AFTER_SIXTEEN AFTER_FIFTEEN h sixteen_computed (AFTER_FIFTEEN-at i h)

-- ---- the turns of an exclusive or

tail_twice : bit_xor tail_number tail_number ≡ 0
tail_twice = refl

settle_number-both : (a b : Bool) (p q : ℕ) → bit_xor (settle_number (add_bits a b) p) q ≡ bit_xor (settle_number a p) (settle_number b q)
unfolding settle_number
settle_number-both false false p q = refl
settle_number-both false true p q = xor_assoc p tail_number q ∙ ap (bit_xor p) (xor_comm tail_number q)
settle_number-both true false p q = refl
settle_number-both true true p q =
    sym (xor_assoc p tail_number (bit_xor q tail_number)
    ∙ ap (bit_xor p) (ap (bit_xor tail_number) (xor_comm q tail_number)
    ∙ sym (xor_assoc tail_number tail_number q)
    ∙ ap (λ z. bit_xor z q) tail_twice
    ∙ xor_comm 0 q ∙ xor_zero_r q))

turn-both : (x y : ℕ) → turn (bit_xor x y) ≡ bit_xor (turn x) (turn y)
turn-both x y =
    turn-xor x y
    ∙ settle_number-both (x % 2 == 1) (y % 2 == 1) (x / 2) (y / 2)
    ∙ sym (ap₂ bit_xor (turn-settle (x % 2 == 1) (x / 2)) (turn-settle (y % 2 == 1) (y / 2)))

turns-both : (k x y : ℕ) → turns k (bit_xor x y) ≡ bit_xor (turns k x) (turns k y)
unfolding turns
turns-both zero x y = refl
turns-both (suc k) x y = ap (turns k) (turn-both x y) ∙ turns-both k (turn x) (turn y)

-- the lowest octet and the others, each turned out by itself
peeled : (n z : ℕ) → turns (8 + n) z ≡ bit_xor (turns (8 + n) (z % 256)) (turns n (z / 256))
peeled n z =
    turns-add 8 n z
    ∙ ap (turns n) (turns-octet z)
    ∙ turns-both n (turns 8 (z % 256)) (z / 256)
    ∙ ap (λ y. bit_xor y (turns n (z / 256))) (sym (turns-add 8 n (z % 256)))

-- ---- octets taken in one by one, and at once

-- the number whose octets these are, the lowest first
unfoldable number_with : List ℕ → ℕ
number_with [] = 0
number_with (o ∷ os) = o + 256 * number_with os

taken_in-turns : (r : ℕ) (os : List ℕ) → ((i : ℕ) → get_or os i 0 < 256) → taken_in r os ≡ turns (8 * length os) (bit_xor r (number_with os))
unfolding taken_in turns number_with
taken_in-turns r [] h = sym (xor_zero_r r)
taken_in-turns r (o ∷ os) h =
    let rest : ℕ = number_with os in
    let whole : bit_xor o (rest * 2 ^ 8) ≡ o + 256 * rest = xor_comm o (rest * 2 ^ 8) ∙ xor_shifted rest 8 o (h 0) ∙ omega arith in
    let joined : bit_xor (bit_xor r o) (rest * 2 ^ 8) ≡ bit_xor r (o + 256 * rest) = xor_assoc r o (rest * 2 ^ 8) ∙ ap (bit_xor r) whole in
    taken_in-turns (turns 8 (bit_xor r o)) os (λ i. h (suc i))
    ∙ ap (turns (8 * length os)) (sym (turns-shifted 8 (bit_xor r o) rest) ∙ ap (turns 8) joined)
    ∙ sym (turns-add 8 (8 * length os) (bit_xor r (o + 256 * rest)))
    ∙ ap (λ k. turns k (bit_xor r (o + 256 * rest))) {x = 8 + 8 * length os} {y = 8 * suc (length os)} (omega arith)

-- eight octets as one number
number_with-eight : (os : List ℕ) → length os ≡ 8 → from_le_bytes w64 os ≡ number_with os
unfolding number_with
number_with-eight (a ∷ b ∷ c ∷ d ∷ e ∷ f ∷ g ∷ h ∷ []) is = omega arith
number_with-eight [] is = absurd (omega arith)
number_with-eight (a ∷ []) is = absurd (omega arith)
number_with-eight (a ∷ b ∷ []) is = absurd (omega arith)
number_with-eight (a ∷ b ∷ c ∷ []) is = absurd (omega arith)
number_with-eight (a ∷ b ∷ c ∷ d ∷ []) is = absurd (omega arith)
number_with-eight (a ∷ b ∷ c ∷ d ∷ e ∷ []) is = absurd (omega arith)
number_with-eight (a ∷ b ∷ c ∷ d ∷ e ∷ f ∷ []) is = absurd (omega arith)
number_with-eight (a ∷ b ∷ c ∷ d ∷ e ∷ f ∷ g ∷ []) is = absurd (omega arith)
number_with-eight (a ∷ b ∷ c ∷ d ∷ e ∷ f ∷ g ∷ h ∷ i ∷ os) is = absurd (omega arith)

-- the first eight of a list, and then the others
eight_off : (r n : ℕ) (rest : List ℕ) → 8 ≤ length rest → n ≡ length rest - 8
    → taken_in (taken_in r (get_or rest 0 0 ∷ get_or rest 1 0 ∷ get_or rest 2 0 ∷ get_or rest 3 0 ∷ get_or rest 4 0 ∷ get_or rest 5 0 ∷ get_or rest 6 0 ∷ get_or rest 7 0 ∷ [])) (take n (drop 8 rest)) ≡ taken_in r rest
unfolding taken_in
eight_off r n (a ∷ b ∷ c ∷ d ∷ e ∷ f ∷ g ∷ h ∷ os) is same = ap (taken_in (taken_in r (a ∷ b ∷ c ∷ d ∷ e ∷ f ∷ g ∷ h ∷ []))) (take_all n os (omega arith))
eight_off r n [] is same = absurd (omega arith)
eight_off r n (a ∷ []) is same = absurd (omega arith)
eight_off r n (a ∷ b ∷ []) is same = absurd (omega arith)
eight_off r n (a ∷ b ∷ c ∷ []) is same = absurd (omega arith)
eight_off r n (a ∷ b ∷ c ∷ d ∷ []) is same = absurd (omega arith)
eight_off r n (a ∷ b ∷ c ∷ d ∷ e ∷ []) is same = absurd (omega arith)
eight_off r n (a ∷ b ∷ c ∷ d ∷ e ∷ f ∷ []) is same = absurd (omega arith)
eight_off r n (a ∷ b ∷ c ∷ d ∷ e ∷ f ∷ g ∷ []) is same = absurd (omega arith)

-- the first sixteen of a list, and then the others
pub sixteen_off : (r n : ℕ) (rest : List ℕ) → 16 ≤ length rest → n ≡ length rest - 16
    → taken_in (taken_in (taken_in r (get_or rest 0 0 ∷ get_or rest 1 0 ∷ get_or rest 2 0 ∷ get_or rest 3 0 ∷ get_or rest 4 0 ∷ get_or rest 5 0 ∷ get_or rest 6 0 ∷ get_or rest 7 0 ∷ []))
    (get_or rest 8 0 ∷ get_or rest 9 0 ∷ get_or rest 10 0 ∷ get_or rest 11 0 ∷ get_or rest 12 0 ∷ get_or rest 13 0 ∷ get_or rest 14 0 ∷ get_or rest 15 0 ∷ [])) (take n (drop 16 rest)) ≡ taken_in r rest
unfolding taken_in
sixteen_off r n (a ∷ b ∷ c ∷ d ∷ e ∷ f ∷ g ∷ h ∷ os) is same = eight_off (taken_in r (a ∷ b ∷ c ∷ d ∷ e ∷ f ∷ g ∷ h ∷ [])) n os (omega arith) (omega arith)
sixteen_off r n [] is same = absurd (omega arith)
sixteen_off r n (a ∷ []) is same = absurd (omega arith)
sixteen_off r n (a ∷ b ∷ []) is same = absurd (omega arith)
sixteen_off r n (a ∷ b ∷ c ∷ []) is same = absurd (omega arith)
sixteen_off r n (a ∷ b ∷ c ∷ d ∷ []) is same = absurd (omega arith)
sixteen_off r n (a ∷ b ∷ c ∷ d ∷ e ∷ []) is same = absurd (omega arith)
sixteen_off r n (a ∷ b ∷ c ∷ d ∷ e ∷ f ∷ []) is same = absurd (omega arith)
sixteen_off r n (a ∷ b ∷ c ∷ d ∷ e ∷ f ∷ g ∷ []) is same = absurd (omega arith)

-- the lowest octet and the others, of which this is the number
next : (n z higher : ℕ) → z / 256 ≡ higher → turns (8 + n) z ≡ bit_xor (turns (8 + n) (z % 256)) (turns n higher)
next n z higher e = peeled n z ∙ ap (λ y. bit_xor (turns (8 + n) (z % 256)) (turns n y)) e

-- what stands above so many octets, and one more
above : (z m k : ℕ) → m * 256 ≡ k → z / m / 256 ≡ z / k
above z m k e = div-div-eq-div-mul z m 256 ∙ ap (λ d. z / d) e

-- a word's octets, each turned out by itself
eight_peeled : (z : ℕ) → z < 2 ^ 64
    → turns 64 z ≡ bit_xor (turns 64 (z % 256)) (bit_xor (turns 56 (z / 256 % 256)) (bit_xor (turns 48 (z / 256 ^ 2 % 256)) (bit_xor (turns 40 (z / 256 ^ 3 % 256))
    (bit_xor (turns 32 (z / 256 ^ 4 % 256)) (bit_xor (turns 24 (z / 256 ^ 5 % 256)) (bit_xor (turns 16 (z / 256 ^ 6 % 256)) (turns 8 (z / 256 ^ 7 % 256))))))))
eight_peeled z h =
    let second = next 48 (z / 256) (z / 256 ^ 2) (above z 256 (256 ^ 2) refl) in
    let third = next 40 (z / 256 ^ 2) (z / 256 ^ 3) (above z (256 ^ 2) (256 ^ 3) refl) in
    let fourth = next 32 (z / 256 ^ 3) (z / 256 ^ 4) (above z (256 ^ 3) (256 ^ 4) refl) in
    let fifth = next 24 (z / 256 ^ 4) (z / 256 ^ 5) (above z (256 ^ 4) (256 ^ 5) refl) in
    let sixth = next 16 (z / 256 ^ 5) (z / 256 ^ 6) (above z (256 ^ 5) (256 ^ 6) refl) in
    let seventh = next 8 (z / 256 ^ 6) (z / 256 ^ 7) (above z (256 ^ 6) (256 ^ 7) refl) in
    let last : z / 256 ^ 7 ≡ z / 256 ^ 7 % 256 = omega arith in
    peeled 56 z
    ∙ ap (bit_xor (turns 64 (z % 256))) (second
    ∙ ap (bit_xor (turns 56 (z / 256 % 256))) (third
    ∙ ap (bit_xor (turns 48 (z / 256 ^ 2 % 256))) (fourth
    ∙ ap (bit_xor (turns 40 (z / 256 ^ 3 % 256))) (fifth
    ∙ ap (bit_xor (turns 32 (z / 256 ^ 4 % 256))) (sixth
    ∙ ap (bit_xor (turns 24 (z / 256 ^ 5 % 256))) (seventh
    ∙ ap (bit_xor (turns 16 (z / 256 ^ 6 % 256))) (ap (turns 8) last)))))))

-- the same with sixty-four turns after them
sixteen_peeled : (z : ℕ) → z < 2 ^ 64
    → turns 128 z ≡ bit_xor (turns 128 (z % 256)) (bit_xor (turns 120 (z / 256 % 256)) (bit_xor (turns 112 (z / 256 ^ 2 % 256)) (bit_xor (turns 104 (z / 256 ^ 3 % 256))
    (bit_xor (turns 96 (z / 256 ^ 4 % 256)) (bit_xor (turns 88 (z / 256 ^ 5 % 256)) (bit_xor (turns 80 (z / 256 ^ 6 % 256)) (turns 72 (z / 256 ^ 7 % 256))))))))
sixteen_peeled z h =
    let second = next 112 (z / 256) (z / 256 ^ 2) (above z 256 (256 ^ 2) refl) in
    let third = next 104 (z / 256 ^ 2) (z / 256 ^ 3) (above z (256 ^ 2) (256 ^ 3) refl) in
    let fourth = next 96 (z / 256 ^ 3) (z / 256 ^ 4) (above z (256 ^ 3) (256 ^ 4) refl) in
    let fifth = next 88 (z / 256 ^ 4) (z / 256 ^ 5) (above z (256 ^ 4) (256 ^ 5) refl) in
    let sixth = next 80 (z / 256 ^ 5) (z / 256 ^ 6) (above z (256 ^ 5) (256 ^ 6) refl) in
    let seventh = next 72 (z / 256 ^ 6) (z / 256 ^ 7) (above z (256 ^ 6) (256 ^ 7) refl) in
    let last : z / 256 ^ 7 ≡ z / 256 ^ 7 % 256 = omega arith in
    peeled 120 z
    ∙ ap (bit_xor (turns 128 (z % 256))) (second
    ∙ ap (bit_xor (turns 120 (z / 256 % 256))) (third
    ∙ ap (bit_xor (turns 112 (z / 256 ^ 2 % 256))) (fourth
    ∙ ap (bit_xor (turns 104 (z / 256 ^ 3 % 256))) (fifth
    ∙ ap (bit_xor (turns 96 (z / 256 ^ 4 % 256))) (sixth
    ∙ ap (bit_xor (turns 88 (z / 256 ^ 5 % 256))) (seventh
    ∙ ap (bit_xor (turns 80 (z / 256 ^ 6 % 256))) (ap (turns 72) last)))))))

-- the order in which eight are put together
leftward : (a b c d e f g h : ℕ) → bit_xor (bit_xor (bit_xor (bit_xor (bit_xor (bit_xor (bit_xor a b) c) d) e) f) g) h ≡ bit_xor a (bit_xor b (bit_xor c (bit_xor d (bit_xor e (bit_xor f (bit_xor g h))))))
leftward a b c d e f g h =
    xor_assoc (bit_xor (bit_xor (bit_xor (bit_xor (bit_xor a b) c) d) e) f) g h
    ∙ xor_assoc (bit_xor (bit_xor (bit_xor (bit_xor a b) c) d) e) f (bit_xor g h)
    ∙ xor_assoc (bit_xor (bit_xor (bit_xor a b) c) d) e (bit_xor f (bit_xor g h))
    ∙ xor_assoc (bit_xor (bit_xor a b) c) d (bit_xor e (bit_xor f (bit_xor g h)))
    ∙ xor_assoc (bit_xor a b) c (bit_xor d (bit_xor e (bit_xor f (bit_xor g h))))
    ∙ xor_assoc a b (bit_xor c (bit_xor d (bit_xor e (bit_xor f (bit_xor g h)))))

-- and the other way round
rightward : (a b c d e f g h : ℕ) → bit_xor (bit_xor (bit_xor (bit_xor (bit_xor (bit_xor (bit_xor h g) f) e) d) c) b) a ≡ bit_xor a (bit_xor b (bit_xor c (bit_xor d (bit_xor e (bit_xor f (bit_xor g h))))))
rightward a b c d e f g h =
    xor_comm (bit_xor (bit_xor (bit_xor (bit_xor (bit_xor (bit_xor h g) f) e) d) c) b) a
    ∙ ap (bit_xor a) (xor_comm (bit_xor (bit_xor (bit_xor (bit_xor (bit_xor h g) f) e) d) c) b
    ∙ ap (bit_xor b) (xor_comm (bit_xor (bit_xor (bit_xor (bit_xor h g) f) e) d) c
    ∙ ap (bit_xor c) (xor_comm (bit_xor (bit_xor (bit_xor h g) f) e) d
    ∙ ap (bit_xor d) (xor_comm (bit_xor (bit_xor h g) f) e
    ∙ ap (bit_xor e) (xor_comm (bit_xor h g) f
    ∙ ap (bit_xor f) (xor_comm h g))))))

below : (z m : ℕ) → z / m % 256 < 256
below z m = mod-lt (z / m) (lit< tt)

-- the eight entries of the octets of a word
pub eight_looked_up : (z : ℕ) (bytes : List ℕ) → z < 2 ^ 64 → bytes ≡ to_le_bytes w64 z
    → bit_xor (bit_xor (bit_xor (bit_xor (bit_xor (bit_xor (bit_xor (get_or AFTER_EIGHT (get_or bytes 0 0) 0) (get_or AFTER_SEVEN (get_or bytes 1 0) 0)) (get_or AFTER_SIX (get_or bytes 2 0) 0)) (get_or AFTER_FIVE (get_or bytes 3 0) 0)) (get_or AFTER_FOUR (get_or bytes 4 0) 0)) (get_or AFTER_THREE (get_or bytes 5 0) 0)) (get_or AFTER_TWO (get_or bytes 6 0) 0)) (get_or AFTER_ONE (get_or bytes 7 0) 0) ≡ turns 64 z
eight_looked_up z bytes wide bs =
    let a = AFTER_EIGHT-at (z % 256) (mod-lt z (lit< tt)) in
    let b = AFTER_SEVEN-at (z / 256 % 256) (below z 256) in
    let c = AFTER_SIX-at (z / 256 ^ 2 % 256) (below z (256 ^ 2)) in
    let d = AFTER_FIVE-at (z / 256 ^ 3 % 256) (below z (256 ^ 3)) in
    let e = AFTER_FOUR-at (z / 256 ^ 4 % 256) (below z (256 ^ 4)) in
    let f = AFTER_THREE-at (z / 256 ^ 5 % 256) (below z (256 ^ 5)) in
    let g = AFTER_TWO-at (z / 256 ^ 6 % 256) (below z (256 ^ 6)) in
    let h = AFTER_ONE-at (z / 256 ^ 7 % 256) (below z (256 ^ 7)) in
    rw bs (
    ap₂ bit_xor (ap₂ bit_xor (ap₂ bit_xor (ap₂ bit_xor (ap₂ bit_xor (ap₂ bit_xor (ap₂ bit_xor a b) c) d) e) f) g) h
    ∙ leftward (turns 64 (z % 256)) (turns 56 (z / 256 % 256)) (turns 48 (z / 256 ^ 2 % 256)) (turns 40 (z / 256 ^ 3 % 256)) (turns 32 (z / 256 ^ 4 % 256)) (turns 24 (z / 256 ^ 5 % 256)) (turns 16 (z / 256 ^ 6 % 256)) (turns 8 (z / 256 ^ 7 % 256))
    ∙ sym (eight_peeled z wide)
    )

-- the same with eight octets after them
pub sixteen_looked_up : (z : ℕ) (bytes : List ℕ) → z < 2 ^ 64 → bytes ≡ to_le_bytes w64 z
    → bit_xor (bit_xor (bit_xor (bit_xor (bit_xor (bit_xor (bit_xor (get_or AFTER_NINE (get_or bytes 7 0) 0) (get_or AFTER_TEN (get_or bytes 6 0) 0)) (get_or AFTER_ELEVEN (get_or bytes 5 0) 0)) (get_or AFTER_TWELVE (get_or bytes 4 0) 0)) (get_or AFTER_THIRTEEN (get_or bytes 3 0) 0)) (get_or AFTER_FOURTEEN (get_or bytes 2 0) 0)) (get_or AFTER_FIFTEEN (get_or bytes 1 0) 0)) (get_or AFTER_SIXTEEN (get_or bytes 0 0) 0) ≡ turns 128 z
sixteen_looked_up z bytes wide bs =
    let a = AFTER_SIXTEEN-at (z % 256) (mod-lt z (lit< tt)) in
    let b = AFTER_FIFTEEN-at (z / 256 % 256) (below z 256) in
    let c = AFTER_FOURTEEN-at (z / 256 ^ 2 % 256) (below z (256 ^ 2)) in
    let d = AFTER_THIRTEEN-at (z / 256 ^ 3 % 256) (below z (256 ^ 3)) in
    let e = AFTER_TWELVE-at (z / 256 ^ 4 % 256) (below z (256 ^ 4)) in
    let f = AFTER_ELEVEN-at (z / 256 ^ 5 % 256) (below z (256 ^ 5)) in
    let g = AFTER_TEN-at (z / 256 ^ 6 % 256) (below z (256 ^ 6)) in
    let h = AFTER_NINE-at (z / 256 ^ 7 % 256) (below z (256 ^ 7)) in
    rw bs (
    ap₂ bit_xor (ap₂ bit_xor (ap₂ bit_xor (ap₂ bit_xor (ap₂ bit_xor (ap₂ bit_xor (ap₂ bit_xor h g) f) e) d) c) b) a
    ∙ rightward (turns 128 (z % 256)) (turns 120 (z / 256 % 256)) (turns 112 (z / 256 ^ 2 % 256)) (turns 104 (z / 256 ^ 3 % 256)) (turns 96 (z / 256 ^ 4 % 256)) (turns 88 (z / 256 ^ 5 % 256)) (turns 80 (z / 256 ^ 6 % 256)) (turns 72 (z / 256 ^ 7 % 256))
    ∙ sym (sixteen_peeled z wide)
    )

-- eight octets taken in at once
eight_taken_in : (r : ℕ) (os : List ℕ) → length os ≡ 8 → ((i : ℕ) → get_or os i 0 < 256) → turns 64 (bit_xor r (from_le_bytes w64 os)) ≡ taken_in r os
eight_taken_in r os long octets =
    ap (λ n. turns 64 (bit_xor r n)) (number_with-eight os long)
    ∙ ap (λ n. turns (8 * n) (bit_xor r (number_with os))) (sym long)
    ∙ sym (taken_in-turns r os octets)

-- and eight more after them
pub sixteen_taken_in : (r : ℕ) (first last : List ℕ) → length first ≡ 8 → ((i : ℕ) → get_or first i 0 < 256) → length last ≡ 8 → ((i : ℕ) → get_or last i 0 < 256)
    → bit_xor (turns 64 (from_le_bytes w64 last)) (turns 128 (bit_xor r (from_le_bytes w64 first))) ≡ taken_in (taken_in r first) last
sixteen_taken_in r first last long octets as_long more =
    let word : ℕ = bit_xor r (from_le_bytes w64 first) in
    xor_comm (turns 64 (from_le_bytes w64 last)) (turns 128 word)
    ∙ ap (λ x. bit_xor x (turns 64 (from_le_bytes w64 last))) (turns-add 64 64 word)
    ∙ sym (turns-both 64 (turns 64 word) (from_le_bytes w64 last))
    ∙ ap (λ x. turns 64 (bit_xor x (from_le_bytes w64 last))) (eight_taken_in r first long octets)
    ∙ eight_taken_in (taken_in r first) last as_long more
