-- How long checks are, of which octets they consist, and that two checks differ.
use Rattle.std.proofs.Common.{◌≡◌, ◌≢◌, ℕ, zero, suc, ◌*◌, ◌^◌, ◌<◌, Bool, true, false, List, [], ◌∷◌, All, take}
use Rattle.std.proofs.Common.{drop, map, not, slice_index, ap, arith, lit<, length, refl}
use Rattle.std.proofs.lemmas.List.Elements.{All-cons, All-nil}
use native.Mathlib.Nat.{pow-suc}
use Rattle.pre_crc.specs.Checks.{number_of, octets_of, check_remainder, Fcs, Mcrc}

pub length-Fcs : (octets : List ℕ) → length (Fcs octets) ≡ 4
unfolding octets_of Fcs
length-Fcs octets = refl

pub length-Mcrc : (octets : List ℕ) → length (Mcrc octets) ≡ 4
unfolding Mcrc
length-Mcrc octets = refl

four : (a b c d : ℕ) → a < 256 → b < 256 → c < 256 → d < 256 → All (λ octet. octet < 256) (a ∷ b ∷ c ∷ d ∷ [])
four a b c d p q r s =
    let P : ℕ → Type 0 = λ octet. octet < 256 in
    All-cons P a (b ∷ c ∷ d ∷ []) p (All-cons P b (c ∷ d ∷ []) q (All-cons P c (d ∷ []) r (All-cons P d [] s (All-nil P))))

-- n bits make a number below 2 ^ n
number_of-lt : (n : ℕ) (bits : List Bool) → number_of (take n bits) < 2 ^ n
unfolding number_of
number_of-lt zero bits = omega arith
number_of-lt (suc n) [] = omega (arith, number_of-lt n [])
number_of-lt (suc n) (true ∷ bits) =
    let p : 2 ^ suc n ≡ 2 ^ n * 2 = pow-suc 2 n in
    let rest = number_of-lt n bits in
    omega arith
number_of-lt (suc n) (false ∷ bits) =
    let p : 2 ^ suc n ≡ 2 ^ n * 2 = pow-suc 2 n in
    let rest = number_of-lt n bits in
    omega arith

pub Fcs-octets : (octets : List ℕ) → All (λ octet. octet < 256) (Fcs octets)
unfolding octets_of Fcs
Fcs-octets octets =
    let first : List Bool = map not (check_remainder octets) in
    let second : List Bool = drop 8 first in
    let third : List Bool = drop 8 second in
    let fourth : List Bool = drop 8 third in
    four _ _ _ _ (number_of-lt 8 first) (number_of-lt 8 second) (number_of-lt 8 third) (number_of-lt 8 fourth)

pub Mcrc-octets : (octets : List ℕ) → All (λ octet. octet < 256) (Mcrc octets)
unfolding Mcrc
Mcrc-octets octets = four _ _ _ _ (below 0 (lit< tt)) (below 1 (lit< tt)) (omega arith) (omega arith)
  where
    below : (i : ℕ) → i < 4 → slice_index (Fcs octets) i < 256
    below i h = Fcs-octets octets i 0 (omega (arith, length-Fcs octets))

pub Fcs-differs : (octets : List ℕ) → Fcs octets ≢ Mcrc octets
unfolding Mcrc
Fcs-differs octets e = let third = ap (λ c. slice_index c 2) e in absurd (omega arith)
