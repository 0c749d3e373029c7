-- What a word is read as.
use Rattle.std.specs.Prelude.{ℕ, Bool, false, ◌+◌, ◌*◌, ◌%◌, ◌^◌, ◌==◌, ◌&&◌, ◌||◌, not, List, [], ◌∷◌, length}
use Rattle.std.specs.Prelude.{Option, None, Some, nat_lt, nat_le, if◌then◌else◌}
use Rattle.std.specs.Char.{digit_value, is_ascii_digit, is_ascii_hexdigit, is_ascii_uppercase, is_ascii_lowercase}
use Rattle.std.specs.List.{list_all}
use Rattle.std.specs.Str.Parse.{digits_value}

-- 0, or digits that don't begin with 0
abbrev pub is_plain : List ℕ → Bool
is_plain [] = false
is_plain (c ∷ []) = is_ascii_digit c
is_plain (c ∷ d ∷ cs) = not (c == 48) && list_all is_ascii_digit (c ∷ d ∷ cs)

-- the number that a word spells, where it is one below 2^64
abbrev pub number_of : List ℕ → Option ℕ
number_of word = if is_plain word && nat_lt (digits_value 10 word) (2 ^ 64) then Some (digits_value 10 word) else None

-- a letter, a digit, - or . or _
abbrev pub is_name_octet : ℕ → Bool
is_name_octet c = is_ascii_lowercase c || is_ascii_uppercase c || is_ascii_digit c || (c == 45) || (c == 46) || (c == 95)

-- 1 to 32 of these
abbrev pub is_name : List ℕ → Bool
is_name word = nat_lt 0 (length word) && nat_le (length word) 32 && list_all is_name_octet word

-- one or more pairs of hexadecimal digits, of either case
abbrev pub are_pairs : List ℕ → Bool
are_pairs word = nat_lt 0 (length word) && (length word % 2 == 0) && list_all is_ascii_hexdigit word

-- an octet for each pair
abbrev pub pair_octets : List ℕ → List ℕ
pair_octets [] = []
pair_octets (high ∷ []) = []
pair_octets (high ∷ low ∷ rest) = (16 * digit_value high + digit_value low) ∷ pair_octets rest

-- the octets that a word of pairs spells, where there are at most this many
abbrev pub pairs_within : ℕ → List ℕ → Option (List ℕ)
pairs_within room word = if are_pairs word && nat_le (length (pair_octets word)) room then Some (pair_octets word) else None

-- it begins with #: what stands behind it in its line is a comment
abbrev pub is_comment : List ℕ → Bool
is_comment [] = false
is_comment (c ∷ cs) = c == 35
