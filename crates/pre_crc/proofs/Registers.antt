-- The register takes in octets as division does.
use Rattle.std.proofs.Common.{◌≡◌, ℕ, zero, suc, ◌+◌, ◌*◌, ◌/◌, ◌%◌, ◌^◌, ◌<◌, ◌≤◌, ◌==◌, Bool, true, false, not, cond, List, []}
use Rattle.std.proofs.Common.{◌∷◌, ◌++◌, map, length, replicate, refl, sym, ap, ap₂, ◌∙◌, arith, append_assoc, append-nil, lit<, get_or, take, drop, subst}
use Rattle.std.proofs.Common.{drop-cons}
use Rattle.std.specs.Prelude.{bit_xor}
use Rattle.std.specs.Int.{w32, to_le_bytes, bit_not}
use Rattle.std.proofs.lemmas.List.{take_more, drop_all}
use native.Mathlib.Nat.{pow-suc}
use lib.Bits.{xor_zero_r, xor_comm, xor_assoc, xor_lt}
use Rattle.pre_crc.specs.Division.{add_bits, remainder, coefficients}
use Rattle.pre_crc.specs.Checks.{generator, low_bits, bits_of, octets_of, check_remainder, Fcs}
use Rattle.pre_crc.specs.Register.{turn, turns, taken_in, IsRegister, Stands}
use Rattle.pre_crc.specs.declared.Running.{Running}
use Rattle.pre_crc.proofs.Steps.{settle, step, steps, steps-append, complement_is_subtract, remainder-steps}
use Rattle.pre_crc.proofs.Bits.{odd_xor, half_xor, low_bits-xor, length-low_bits, low_bits-above, map_not-low_bits, octets_of-word}

-- the generator without x^32, as a number whose lowest bit is the coefficient of x^31
abbrev pub tail_number : ℕ
tail_number = 0xEDB8_8320

abbrev pub tail : List Bool
tail = low_bits 32 tail_number

pub generator-tail : generator ≡ true ∷ tail
unfolding generator coefficients low_bits
generator-tail = refl

pub length-tail : length tail ≡ 32
length-tail = length-low_bits 32 tail_number

-- what `settle` does, at numbers
unfoldable pub settle_number : Bool → ℕ → ℕ
settle_number true x = bit_xor x tail_number
settle_number false x = x

pub settle_number-lt : (v : Bool) (x : ℕ) → x < 2 ^ 32 → settle_number v x < 2 ^ 32
unfolding settle_number
settle_number-lt true x h = xor_lt 32 x tail_number h (lit< tt)
settle_number-lt false x h = h

settle-number : (v : Bool) (x : ℕ) → settle tail v (low_bits 32 x) ≡ low_bits 32 (settle_number v x)
unfolding settle_number
settle-number true x = sym (low_bits-xor 32 tail_number x) ∙ ap (low_bits 32) (xor_comm tail_number x)
settle-number false x = refl

pub turn-settle : (v : Bool) (x : ℕ) → cond v (bit_xor x tail_number) x ≡ settle_number v x
unfolding settle_number
turn-settle true x = refl
turn-settle false x = refl

-- an exclusive or before or after
settle_number-xor : (v : Bool) (x y : ℕ) → settle_number v (bit_xor x y) ≡ bit_xor (settle_number v x) y
unfolding settle_number
settle_number-xor true x y = xor_assoc x y tail_number ∙ ap (bit_xor x) (xor_comm y tail_number) ∙ sym (xor_assoc x tail_number y)
settle_number-xor false x y = refl

low_bits-more : (n x : ℕ) → low_bits (suc n) x ≡ (x % 2 == 1) ∷ low_bits n (x / 2)
unfolding low_bits
low_bits-more n x = refl

step-number : (x : ℕ) (b : Bool) → x < 2 ^ 32 → step tail (low_bits 32 x) b ≡ low_bits 32 (settle_number (add_bits (x % 2 == 1) b) (x / 2))
step-number x b h =
    ap (λ s. step tail s b) (low_bits-more 31 x)
    ∙ ap (settle tail (add_bits (x % 2 == 1) b)) (sym (low_bits-above 31 (x / 2) (omega arith)))
    ∙ settle-number (add_bits (x % 2 == 1) b) (x / 2)

pub turn-xor : (x y : ℕ) → turn (bit_xor x y) ≡ bit_xor (settle_number (add_bits (x % 2 == 1) (y % 2 == 1)) (x / 2)) (y / 2)
turn-xor x y =
    turn-settle (bit_xor x y % 2 == 1) (bit_xor x y / 2)
    ∙ ap₂ settle_number (odd_xor x y) (half_xor x y)
    ∙ settle_number-xor (add_bits (x % 2 == 1) (y % 2 == 1)) (x / 2) (y / 2)

low_bits-zero : (y : ℕ) → low_bits zero y ≡ []
unfolding low_bits
low_bits-zero y = refl

-- the bits of y, taken in one by one, are y put to the register and turned out
pub steps-turns : (k x y : ℕ) → x < 2 ^ 32 → y < 2 ^ k → steps tail (low_bits 32 x) (low_bits k y) ≡ low_bits 32 (turns k (bit_xor x y))
unfolding steps turns
steps-turns zero x y hx hy =
    let e : y ≡ 0 = omega arith in
    ap (steps tail (low_bits 32 x)) (low_bits-zero y) ∙ ap (low_bits 32) (sym (xor_zero_r x) ∙ ap (bit_xor x) (sym e))
steps-turns (suc k) x y hx hy =
    let p : 2 ^ suc k ≡ 2 ^ k * 2 = pow-suc 2 k in
    let half : y / 2 < 2 ^ k = omega arith in
    let b : Bool = (y % 2 == 1) in
    let next : ℕ = settle_number (add_bits (x % 2 == 1) b) (x / 2) in
    ap (steps tail (low_bits 32 x)) (low_bits-more k y)
    ∙ ap (λ s. steps tail s (low_bits k (y / 2))) (step-number x b hx)
    ∙ steps-turns k next (y / 2) (settle_number-lt (add_bits (x % 2 == 1) b) (x / 2) (omega arith)) half
    ∙ ap (λ z. low_bits 32 (turns k z)) (sym (turn-xor x y))

-- ---- the register of a list of octets

check_remainder-steps : (octets : List ℕ) → check_remainder octets ≡ steps tail (replicate 32 true) (bits_of octets)
unfolding check_remainder
check_remainder-steps octets =
    ap₂ remainder generator-tail (complement_is_subtract 32 (bits_of octets ++ replicate 32 false))
    ∙ remainder-steps tail (replicate 32 true) (bits_of octets) (sym length-tail) (omega (arith, length-tail))

bits_of-push : (octets : List ℕ) (o : ℕ) → bits_of (octets ++ o ∷ []) ≡ bits_of octets ++ low_bits 8 o
unfolding bits_of
bits_of-push [] o = append-nil (low_bits 8 o)
bits_of-push (x ∷ octets) o = ap (λ bits. low_bits 8 x ++ bits) (bits_of-push octets o) ∙ sym (append_assoc (low_bits 8 x) (bits_of octets) (low_bits 8 o))

pub IsRegister-empty : IsRegister 0xFFFF_FFFF []
unfolding bits_of steps low_bits
IsRegister-empty = sym (check_remainder-steps [])

pub IsRegister-push : (r : ℕ) (octets : List ℕ) (o : ℕ) → r < 2 ^ 32 → o < 256 → IsRegister r octets → IsRegister (turns 8 (bit_xor r o)) (octets ++ o ∷ [])
IsRegister-push r octets o hr ho held =
    sym (steps-turns 8 r o hr ho)
    ∙ ap (λ s. steps tail s (low_bits 8 o)) (held ∙ check_remainder-steps octets)
    ∙ sym (steps-append tail (replicate 32 true) (bits_of octets) (low_bits 8 o))
    ∙ ap (steps tail (replicate 32 true)) (sym (bits_of-push octets o))
    ∙ sym (check_remainder-steps (octets ++ o ∷ []))

pub IsRegister-Fcs : (r : ℕ) (octets : List ℕ) → r < 2 ^ 32 → IsRegister r octets → to_le_bytes w32 (bit_not w32 r) ≡ Fcs octets
unfolding Fcs
IsRegister-Fcs r octets hr held =
    sym (octets_of-word (bit_not w32 r))
    ∙ ap (octets_of 4) (sym (map_not-low_bits 32 r hr) ∙ ap (map not) held)

-- one turn fewer is left
pub turns-less : (n left x : ℕ) → left ≡ suc n → turns left x ≡ turns n (turn x)
unfolding turns
turns-less n left x e = ap (λ k. turns k x) e

-- ---- the running check

pub Stands-from : (s : Running) (octets : List ℕ) → IsRegister s.register octets → Stands s octets
Stands-from s octets h = h

pub Stands-register : (s : Running) (octets : List ℕ) → Stands s octets → IsRegister s.register octets
Stands-register s octets h = h

-- none is left
pub turns-none : (left x : ℕ) → left ≡ 0 → turns left x ≡ x
unfolding turns
turns-none left x e = ap (λ k. turns k x) e

-- one more octet of a list
pub IsRegister-more : (r t : ℕ) (before octets : List ℕ) (i : ℕ) → r < 2 ^ 32 → i < length octets → get_or octets i 0 < 256
    → t ≡ turns 8 (bit_xor r (get_or octets i 0)) → IsRegister r (before ++ take i octets) → IsRegister t (before ++ take (i + 1) octets)
IsRegister-more r t before octets i hr hi ho e held =
    let more : before ++ take (i + 1) octets ≡ (before ++ take i octets) ++ get_or octets i 0 ∷ [] =
    ap (λ xs. before ++ xs) (take_more octets i 0 hi) ∙ sym (append_assoc before (take i octets) (get_or octets i 0 ∷ [])) in
    rw (more, e) (IsRegister-push r (before ++ take i octets) (get_or octets i 0) hr ho held)

-- ---- octets taken in

turn-lt : (x : ℕ) → x < 2 ^ 32 → turn x < 2 ^ 32
turn-lt x h = subst (λ y. y < 2 ^ 32) (sym (turn-settle (x % 2 == 1) (x / 2))) (settle_number-lt (x % 2 == 1) (x / 2) (omega arith))

turns-lt : (k x : ℕ) → x < 2 ^ 32 → turns k x < 2 ^ 32
unfolding turns
turns-lt zero x h = h
turns-lt (suc k) x h = turns-lt k (turn x) (turn-lt x h)

IsRegister-taken : (r : ℕ) (before octets : List ℕ) → r < 2 ^ 32 → ((i : ℕ) → get_or octets i 0 < 256) → IsRegister r before → IsRegister (taken_in r octets) (before ++ octets)
unfolding taken_in
IsRegister-taken r before [] hr h held = subst (IsRegister r) (sym (append-nil before)) held
IsRegister-taken r before (o ∷ octets) hr h held =
    let wide : o < 2 ^ 32 = omega (arith, h 0) in
    subst (IsRegister (taken_in (turns 8 (bit_xor r o)) octets)) (append_assoc before (o ∷ []) octets)
    (IsRegister-taken (turns 8 (bit_xor r o)) (before ++ o ∷ []) octets (turns-lt 8 (bit_xor r o) (xor_lt 32 r o hr wide)) (λ i. h (suc i)) (IsRegister-push r before o hr (h 0) held))

pub Stands-taken : (s t : Running) (before octets : List ℕ) → s.register < 2 ^ 32 → ((i : ℕ) → get_or octets i 0 < 256)
    → t.register ≡ taken_in s.register octets → Stands s before → Stands t (before ++ octets)
Stands-taken s t before octets hs h e held = subst (λ r. IsRegister r (before ++ octets)) (sym e) (IsRegister-taken s.register before octets hs h held)

taken_in-cons : (r o : ℕ) (octets : List ℕ) → taken_in r (o ∷ octets) ≡ taken_in (turns 8 (bit_xor r o)) octets
unfolding taken_in
taken_in-cons r o octets = refl

taken_in-nil : (r : ℕ) → taken_in r [] ≡ r
unfolding taken_in
taken_in-nil r = refl

-- the next octet of a list
pub taken_in-next : (r : ℕ) (octets : List ℕ) (i : ℕ) → i < length octets → taken_in (turns 8 (bit_xor r (get_or octets i 0))) (drop (i + 1) octets) ≡ taken_in r (drop i octets)
taken_in-next r octets i h =
    sym (ap (taken_in r) (drop-cons octets i 0 h)
    ∙ taken_in-cons r (get_or octets i 0) (drop (suc i) octets)
    ∙ ap (λ n. taken_in (turns 8 (bit_xor r (get_or octets i 0))) (drop n octets)) {x = suc i} {y = i + 1} (omega arith))

-- none is left
pub taken_in-none : (r : ℕ) (octets : List ℕ) (i : ℕ) → length octets ≤ i → taken_in r (drop i octets) ≡ r
taken_in-none r octets i h = ap (taken_in r) (drop_all i octets h) ∙ taken_in-nil r
