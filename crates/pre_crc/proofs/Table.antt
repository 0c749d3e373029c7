-- Eight turns at once, by a table of what they make of each octet.
use Rattle.std.proofs.Common.{◌≡◌, ℕ, zero, suc, ◌*◌, ◌/◌, ◌%◌, ◌^◌, ◌<◌, ◌==◌, Bool, true, false, List, []}
use Rattle.std.proofs.Common.{◌∷◌, ◌++◌, replicate, map, get_or, refl, sym, ap, ap₂, ◌∙◌, arith, mod-lt, lit<}
use Rattle.std.specs.Prelude.{bit_xor, bit_and}
use Rattle.std.specs.List.{range_with_len}
use Rattle.std.proofs.lemmas.List.FromFn.{get_or-map-range_with_len}
use native.Mathlib.Nat.{mul-one, div-eq_of_lt}
use lib.Bits.{xor_zero_r, xor_comm, xor_shifted, xor_shr, shifted_half, shifted_even, and_mask}
use lib.Pow.{split}
use Rattle.pre_crc.specs.Division.{add_bits, subtract_at_head, remainder}
use Rattle.pre_crc.specs.Checks.{low_bits}
use Rattle.pre_crc.specs.Register.{turn, turns, IsRemainderOf}
use Rattle.pre_crc.specs.declared.tables.TheConstants.{AFTER_ONE}
use Rattle.pre_crc.proofs.Steps.{steps, add_bits-false, remainder-steps}
use Rattle.pre_crc.proofs.Registers.{tail, generator-tail, length-tail, settle_number, turn-settle, turn-xor, steps-turns}

-- the rule of the table, computed over the whole table
table_computed : AFTER_ONE ≡ map (turns 8) (range_with_len 0 256)
unfolding turns
table_computed = refl

pub AFTER_ONE-at : (i : ℕ) → i < 256 → get_or AFTER_ONE i 0 ≡ turns 8 i
AFTER_ONE-at i h = ap (λ xs. get_or xs i 0) table_computed ∙ get_or-map-range_with_len (turns 8) 0 256 i i 0 h (omega arith)

-- zeros change nothing
subtract-zeros_first : (n : ℕ) (ys : List Bool) → subtract_at_head (replicate n false) ys ≡ ys
unfolding subtract_at_head
subtract-zeros_first zero ys = refl
subtract-zeros_first (suc n) [] = refl
subtract-zeros_first (suc n) (y ∷ ys) = ap (λ zs. y ∷ zs) (subtract-zeros_first n ys)

zeros_of_zero : replicate 32 false ≡ low_bits 32 0
unfolding low_bits
zeros_of_zero = refl

-- what lies above the bits that leave is only shifted
turn-shifted : (x c k : ℕ) → turn (bit_xor x (c * 2 ^ suc k)) ≡ bit_xor (turn x) (c * 2 ^ k)
turn-shifted x c k =
    let odd : Bool = (x % 2 == 1) in
    turn-xor x (c * 2 ^ suc k)
    ∙ ap₂ (λ v y. bit_xor (settle_number v (x / 2)) y) (ap (λ r. add_bits odd (r == 1)) (shifted_even c k) ∙ add_bits-false odd) (shifted_half c k)
    ∙ ap (λ y. bit_xor y (c * 2 ^ k)) (sym (turn-settle odd (x / 2)))

pub turns-shifted : (k x c : ℕ) → turns k (bit_xor x (c * 2 ^ k)) ≡ bit_xor (turns k x) c
unfolding turns
turns-shifted zero x c = ap (bit_xor x) (mul-one c)
turns-shifted (suc k) x c = ap (turns k) (turn-shifted x c k) ∙ turns-shifted k (turn x) c

-- eight turns of a register: those of its lowest octet, over the rest
pub turns-octet : (x : ℕ) → turns 8 x ≡ bit_xor (turns 8 (x % 256)) (x / 256)
turns-octet x =
    let parts : x ≡ bit_xor (x % 256) (x / 256 * 2 ^ 8) =
    sym (split x 8) ∙ sym (xor_shifted (x / 256) 8 (x % 256) (mod-lt x (lit< tt))) ∙ xor_comm (x / 256 * 2 ^ 8) (x % 256) in
    ap (turns 8) parts ∙ turns-shifted 8 (x % 256) (x / 256)

-- the register's lowest octet turned by the table, over the rest
pub turns-of_parts : (r o x : ℕ) → o < 256 → x ≡ turns 8 (bit_and (bit_xor r o) 255) → bit_xor x (r / 256) ≡ turns 8 (bit_xor r o)
turns-of_parts r o x h e =
    let y : ℕ = bit_xor r o in
    let place : bit_and y 255 ≡ y % 256 = and_mask y 8 in
    let rest : r / 256 ≡ y / 256 = sym (xor_zero_r (r / 256)) ∙ ap (bit_xor (r / 256)) (sym (div-eq_of_lt h)) ∙ sym (xor_shr r o 8) in
    ap₂ bit_xor (e ∙ ap (turns 8) place) rest ∙ sym (turns-octet y)

-- an entry is the remainder of its octet
pub turns-remainder : (o : ℕ) → o < 256 → IsRemainderOf o (turns 8 o)
turns-remainder o h =
    let zeros : List Bool = replicate 32 false in
    let bits : List Bool = low_bits 8 o in
    sym (ap (λ g. remainder g (bits ++ zeros)) generator-tail
    ∙ ap (remainder (true ∷ tail)) (sym (subtract-zeros_first 32 (bits ++ zeros)))
    ∙ remainder-steps tail zeros bits (sym length-tail) (omega (arith, length-tail))
    ∙ ap (λ s. steps tail s bits) zeros_of_zero
    ∙ steps-turns 8 0 o (lit< tt) h
    ∙ ap (λ y. low_bits 32 (turns 8 y)) (xor_comm 0 o ∙ xor_zero_r o))

pub entry-remainder : (i : ℕ) → i < 256 → IsRemainderOf i (get_or AFTER_ONE i 0)
entry-remainder i h = ap (low_bits 32) (AFTER_ONE-at i h) ∙ turns-remainder i h
