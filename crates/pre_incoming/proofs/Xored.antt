-- Octets that are XORed, one after another, and from a place on.
use Rattle.std.proofs.Common.{ℕ, zero, suc, ◌≡◌, ◌<◌, ◌≤◌, List, [], ◌∷◌, ◌++◌, length, take, drop, get_or, refl, sym, ◌∙◌, ap, arith, inl, inr, bit_xor}
use Rattle.std.specs.Prelude.{min}
use Rattle.std.proofs.Math.ListN.{set}
use Rattle.std.proofs.lemmas.Bool.{cases_lt}
use Rattle.std.proofs.lemmas.List.{take_all, drop_all, append-nil}
use Rattle.pre_history.specs.Octets.{xored_from, xored}

-- one more octet is XORed
pub one_more : (with' octets : List ℕ) (i : ℕ) → i < length octets → i < length with'
    → set (xored_from (take i with') octets) i (bit_xor (get_or (xored_from (take i with') octets) i 0) (get_or with' i 0)) ≡ xored_from (take (suc i) with') octets
one_more [] xs i lt lt' = absurd (omega (arith, lt'))
one_more (y ∷ ys) [] i lt lt' = absurd (omega (arith, lt))
one_more (y ∷ ys) (x ∷ xs) zero lt lt' = refl
one_more (y ∷ ys) (x ∷ xs) (suc i) lt lt' = ap (λ zs. bit_xor x y ∷ zs) (one_more ys xs i (omega (arith, lt)) (omega (arith, lt')))

-- the first ones are all
pub all_of : (n : ℕ) (with' octets : List ℕ) → min (length octets) (length with') ≤ n → xored_from (take n with') octets ≡ xored_from with' octets
all_of zero [] xs few = refl
all_of zero (y ∷ ys) [] few = refl
all_of zero (y ∷ ys) (x ∷ xs) few = absurd (omega (arith, few))
all_of (suc n) [] xs few = refl
all_of (suc n) (y ∷ ys) [] few = refl
all_of (suc n) (y ∷ ys) (x ∷ xs) few = ap (λ zs. bit_xor x y ∷ zs) (all_of n ys xs (omega (arith, few)))

none_from : (with' : List ℕ) → xored_from with' [] ≡ []
none_from [] = refl
none_from (y ∷ ys) = refl

-- past the last octet nothing is XORed
pub past_end : (place : ℕ) (with' octets : List ℕ) → length octets ≤ place → xored place with' octets ≡ octets
past_end place with' octets past =
    ap (λ xs. xs ++ xored_from with' (drop place octets)) (take_all place octets past)
    ∙ (ap (λ xs. octets ++ xored_from with' xs) (drop_all place octets past) ∙ (ap (λ xs. octets ++ xs) (none_from with') ∙ append-nil octets))

-- so a place may be cut off at a bound past it
pub within_bound : (place bound : ℕ) (with' octets : List ℕ) → length octets ≤ bound → xored (min place bound) with' octets ≡ xored place with' octets
within_bound place bound with' octets few = elim (cases_lt place bound) [
  | inl lt ↦ let same : min place bound ≡ place = omega (arith, lt) in ap (λ n. xored n with' octets) same
  | inr ge ↦ past_end (min place bound) with' octets (omega (arith, ge, few)) ∙ sym (past_end place with' octets (omega (arith, ge, few)))
]
