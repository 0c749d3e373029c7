-- The frame check sequence (IEEE 802.3 clause 3.2.9) and the mPacket check of a list of octets.
use Rattle.std.specs.Prelude.{ℕ, zero, suc, ◌+◌, ◌-◌, ◌*◌, ◌/◌, ◌%◌, ◌==◌, Bool, false, not, cond, List, [], ◌∷◌, ◌++◌, map, take, drop, replicate, slice_index}
use Rattle.pre_crc.specs.Division.{remainder, coefficients}

-- x^32 + x^26 + x^23 + x^22 + x^16 + x^12 + x^11 + x^10 + x^8 + x^7 + x^5 + x^4 + x^2 + x + 1
unfoldable pub generator : List Bool
generator = coefficients 32 (32 ∷ 26 ∷ 23 ∷ 22 ∷ 16 ∷ 12 ∷ 11 ∷ 10 ∷ 8 ∷ 7 ∷ 5 ∷ 4 ∷ 2 ∷ 1 ∷ 0 ∷ [])

-- the lowest n bits of a number, least significant first
unfoldable pub low_bits : ℕ → ℕ → List Bool
low_bits zero x = []
low_bits (suc n) x = (x % 2 == 1) ∷ low_bits n (x / 2)

-- the number with these bits, least significant first
unfoldable pub number_of : List Bool → ℕ
number_of [] = 0
number_of (b ∷ bits) = cond b 1 0 + 2 * number_of bits

-- octets as bits, least significant bit of each octet first
unfoldable pub bits_of : List ℕ → List Bool
bits_of [] = []
bits_of (octet ∷ octets) = low_bits 8 octet ++ bits_of octets

-- so many octets from bits, least significant bit of each octet first
unfoldable pub octets_of : ℕ → List Bool → List ℕ
octets_of zero bits = []
octets_of (suc n) bits = number_of (take 8 bits) ∷ octets_of n (drop 8 bits)

-- the list with its first n bits complemented
unfoldable pub complement_first : ℕ → List Bool → List Bool
complement_first zero bits = bits
complement_first (suc n) [] = []
complement_first (suc n) (b ∷ bits) = not b ∷ complement_first n bits

-- the remainder by the generator of the octets' bits with 32 zeros after them, the first 32 bits of
-- this whole complemented
unfoldable pub check_remainder : List ℕ → List Bool
check_remainder octets = remainder generator (complement_first 32 (bits_of octets ++ replicate 32 false))

-- the frame check sequence as it is sent: the complement of the remainder, the coefficient of x^31 first
unfoldable pub Fcs : List ℕ → List ℕ
Fcs octets = octets_of 4 (map not (check_remainder octets))

-- a check with its third and fourth octets complemented
abbrev pub complement_last_two : List ℕ → List ℕ
complement_last_two check =
    slice_index check 0 ∷ slice_index check 1 ∷ (255 - slice_index check 2) ∷ (255 - slice_index check 3) ∷ []

-- the mPacket check: that these two octets are complemented is this profile's own choice
unfoldable pub Mcrc : List ℕ → List ℕ
Mcrc octets = complement_last_two (Fcs octets)
