-- Texts that are written part by part, and numbers that are gone through one by one.
use Rattle.std.proofs.Common.{◌≡◌, suc, ◌<◌, ◌+◌, ◌-◌, ◌≤◌, ℕ, Bool, true, false, cond, List, [], ◌∷◌, ◌++◌}
use Rattle.std.proofs.Common.{length, drop, get_or, append_assoc, length-append, Option, Result, subst, refl, ap, ◌∙◌, arith}
use Rattle.std.proofs.lemmas.List.{drop_more}
use Rattle.std.specs.List.{range_with_len}
use Rattle.std.specs.Result.{IsErr}
use Rattle.pre_base.specs.Told.{WhereTold}
use Rattle.pre_base.specs.Sinks.{Taken, TakesBut, TakesAll, TakesWhole, TakesFront}
use Rattle.pre_base.proofs.Pieces.{untouched, goes_on, breaks, ends}

-- the first part of what is left fails, and so does the whole
pub part_fails : {U E : Type 0} (a b c : Option Taken) (whole left part later : List ℕ) (r : Result U E) → IsErr r → left ≡ part ++ later
    → WhereTold a b (TakesBut left whole) → WhereTold b c (TakesFront part) → WhereTold a c (TakesAll r whole)
part_fails a b c whole left part later r is cut so_far took =
    breaks a b c whole part later r is (subst (λ (l : List ℕ). WhereTold a b (TakesBut l whole)) cut so_far) took

-- it goes through, and the later ones are left
pub part_goes : (a b c : Option Taken) (whole left part later : List ℕ) → left ≡ part ++ later
    → WhereTold a b (TakesBut left whole) → WhereTold b c (TakesWhole part) → WhereTold a c (TakesBut later whole)
part_goes a b c whole left part later cut so_far took =
    goes_on a b c whole part later (subst (λ (l : List ℕ). WhereTold a b (TakesBut l whole)) cut so_far) took

-- the first of two parts fails
pub first_fails : {U E : Type 0} (a b : Option Taken) (p s : List ℕ) (r : Result U E) → IsErr r → WhereTold a b (TakesFront p) → WhereTold a b (TakesAll r (p ++ s))
first_fails a b p s r is first = breaks a a b (p ++ s) p s r is (untouched a (p ++ s)) first

-- the answer of the second one is that of both
pub second_ends : {U E : Type 0} (a b c : Option Taken) (p s : List ℕ) (r : Result U E) → WhereTold a b (TakesWhole p) → WhereTold b c (TakesAll r s) → WhereTold a c (TakesAll r (p ++ s))
second_ends a b c p s r first second = ends a b c (p ++ s) s r (goes_on a a b (p ++ s) p s (untouched a (p ++ s)) first) second

-- the second of three parts fails
pub second_fails : {U E : Type 0} (a b c : Option Taken) (p q s : List ℕ) (r : Result U E) → IsErr r
    → WhereTold a b (TakesWhole p) → WhereTold b c (TakesFront q) → WhereTold a c (TakesAll r (p ++ (q ++ s)))
second_fails a b c p q s r is first second =
    let whole = p ++ (q ++ s) in
    breaks a b c whole q s r is (goes_on a a b whole p (q ++ s) (untouched a whole) first) second

-- the answer of the third one is that of all
pub third_ends : {U E : Type 0} (a b c d : Option Taken) (p q s : List ℕ) (r : Result U E)
    → WhereTold a b (TakesWhole p) → WhereTold b c (TakesWhole q) → WhereTold c d (TakesAll r s) → WhereTold a d (TakesAll r (p ++ (q ++ s)))
third_ends a b c d p q s r first second third =
    let whole = p ++ (q ++ s) in
    ends a c d whole s r (goes_on a b c whole q s (goes_on a a b whole p (q ++ s) (untouched a whole) first) second) third

range_goes : (i n k : ℕ) → k ≡ n + 1 → range_with_len i k ≡ i ∷ range_with_len (i + 1) n
range_goes i n k is = subst (λ (m : ℕ). range_with_len i m ≡ i ∷ range_with_len (i + 1) n) (let e : suc n ≡ k = omega arith in e) refl

-- the numbers from one to a last one
pub range_more : (i n : ℕ) → i < n → range_with_len i (n - i) ≡ i ∷ range_with_len (i + 1) (n - (i + 1))
range_more i n lt = range_goes i (n - (i + 1)) (n - i) (omega arith)

-- what is left from one place before
pub drop_before : {X : Type 0} (xs : List X) (i : ℕ) (d : X) → 0 < i → i ≤ length xs → drop (i - 1) xs ≡ get_or xs (i - 1) d ∷ drop i xs
drop_before xs i d some le =
    let next : i - 1 + 1 ≡ i = omega arith in
    subst (λ (n : ℕ). drop (i - 1) xs ≡ get_or xs (i - 1) d ∷ drop n xs) next (drop_more xs (i - 1) d (omega arith))

-- a number that passes is put behind those found
pub filter_step : (b : Bool) (found next rest : List ℕ) (i : ℕ) → next ≡ cond b (found ++ i ∷ []) found → next ++ rest ≡ found ++ cond b (i ∷ rest) rest
filter_step true found next rest i is = ap (λ (l : List ℕ). l ++ rest) is ∙ append_assoc found (i ∷ []) rest
filter_step false found next rest i is = ap (λ (l : List ℕ). l ++ rest) is

pub few_more : (b : Bool) (found next : List ℕ) (i : ℕ) → next ≡ cond b (found ++ i ∷ []) found → length found ≤ i → length next ≤ i + 1
few_more true found next i is few = omega (arith, ap length is, length-append found (i ∷ []))
few_more false found next i is few = omega (arith, ap length is)
