-- A letter and a number make a name, and different numbers different ones.
use Rattle.std.proofs.Common.{◌≡◌, ◌≢◌, ℕ, ◌<◌, ◌^◌, Bool, true, List, ◌∷◌, ◌++◌, codes, get_or, IsTrue, refl, ◌∙◌, ap, subst, arith}
use Rattle.std.specs.Fmt.{decimal, digits}
use Rattle.std.specs.List.{list_all, range_with_len}
use Rattle.std.proofs.lemmas.Fmt.{decimal_injective}
use Rattle.std.proofs.lemmas.List.FromFn.{length-range_with_len, get_or-range_with_len}
use Rattle.std.proofs.lemmas.List.Sums.{AllPass-from_list_all}
use Rattle.pre_text.specs.Words.{is_name}

-- a test that passes at each of the first numbers
holds_below : (p : ℕ → Bool) (n i : ℕ) → list_all p (range_with_len 0 n) ≡ true → i < n → p i ≡ true
holds_below p n i all lt =
    let at : get_or (range_with_len 0 n) i 0 ≡ i = get_or-range_with_len 0 n i 0 lt ∙ omega arith in
    subst (λ k. p k ≡ true) at (AllPass-from_list_all p (range_with_len 0 n) all i 0 (omega (arith, length-range_with_len 0 n)))

bridges_named : list_all (λ i. is_name (codes "b" ++ decimal i)) (range_with_len 0 12) ≡ true
unfolding digits
bridges_named = refl

stations_named : list_all (λ i. is_name (codes "s" ++ decimal i)) (range_with_len 0 40) ≡ true
unfolding digits
stations_named = refl

streams_named : list_all (λ i. is_name (codes "e" ++ decimal i)) (range_with_len 0 60) ≡ true
unfolding digits
streams_named = refl

flows_named : list_all (λ i. is_name (codes "f" ++ decimal i)) (range_with_len 0 30) ≡ true
unfolding digits
flows_named = refl

pub bridge_named : (i : ℕ) → i < 12 → IsTrue (is_name (codes "b" ++ decimal i))
bridge_named i lt = holds_below (λ i. is_name (codes "b" ++ decimal i)) 12 i bridges_named lt

pub station_named : (i : ℕ) → i < 40 → IsTrue (is_name (codes "s" ++ decimal i))
station_named i lt = holds_below (λ i. is_name (codes "s" ++ decimal i)) 40 i stations_named lt

pub stream_named : (i : ℕ) → i < 60 → IsTrue (is_name (codes "e" ++ decimal i))
stream_named i lt = holds_below (λ i. is_name (codes "e" ++ decimal i)) 60 i streams_named lt

pub flow_named : (i : ℕ) → i < 30 → IsTrue (is_name (codes "f" ++ decimal i))
flow_named i lt = holds_below (λ i. is_name (codes "f" ++ decimal i)) 30 i flows_named lt

-- names of one letter differ by their numbers, and names of two letters by these
pub one_letter : (letter i j : ℕ) → i < j → j < 2 ^ 64 → letter ∷ decimal i ≢ letter ∷ decimal j
one_letter letter i j lt small same =
    let digits_same : decimal i ≡ decimal j = cc in
    omega (arith, lt, decimal_injective i j (omega (arith, lt, small)) small digits_same)

pub two_letters : (a b : ℕ) (xs ys : List ℕ) → a ≢ b → a ∷ xs ≢ b ∷ ys
two_letters a b xs ys apart same = apart (ap (λ (l : List ℕ). get_or l 0 0) same)
