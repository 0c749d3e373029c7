-- The register that the code keeps: 32 bits as a number, whose lowest bit is the coefficient of x^31.
use Rattle.std.specs.Prelude.{◌≡◌, ℕ, zero, suc, ◌/◌, ◌%◌, ◌==◌, false, cond, List, [], ◌∷◌, ◌++◌, replicate, bit_xor}
use Rattle.pre_crc.specs.Division.{remainder}
use Rattle.pre_crc.specs.Checks.{generator, low_bits, check_remainder}
use Rattle.pre_crc.specs.declared.Running.{Running}

-- the register after one bit has left it: where this is 1 the generator without x^32 is added, its
-- coefficient of x^31 lowest
abbrev pub turn : ℕ → ℕ
turn x = cond (x % 2 == 1) (bit_xor (x / 2) 0xEDB8_8320) (x / 2)

-- after so many bits
unfoldable pub turns : ℕ → ℕ → ℕ
turns zero x = x
turns (suc n) x = turns n (turn x)

-- after these octets, each put to the register and turned out
unfoldable pub taken_in : ℕ → List ℕ → ℕ
taken_in register [] = register
taken_in register (octet ∷ octets) = taken_in (turns 8 (bit_xor register octet)) octets

-- the register holds what this octet alone leaves, with 32 zeros after it and nothing complemented
abbrev pub IsRemainderOf : ℕ → ℕ → Type 0
IsRemainderOf octet register = low_bits 32 register ≡ remainder generator (low_bits 8 octet ++ replicate 32 false)

-- the register holds the remainder of these octets
abbrev pub IsRegister : ℕ → List ℕ → Type 0
IsRegister register octets = low_bits 32 register ≡ check_remainder octets

-- the running check stands for these octets
abbrev pub Stands : Running → List ℕ → Type 0
Stands running octets = IsRegister running.register octets
