-- Lists of numbered rows and sums over them, one row further.
use Rattle.std.proofs.Common.{◌≡◌, ℕ, zero, suc, ◌+◌, ◌<◌, Bool, true, false, cond, List, [], ◌∷◌, ◌++◌, sym, ◌∙◌, ap, subst, arith, length, get_or, take, map}
use Rattle.std.specs.Prelude.{filter, sum_by}
use Rattle.std.specs.List.{enumerate_from, range_with_len}
use Rattle.std.proofs.lemmas.List.{map-id, map-append}
use Rattle.std.proofs.lemmas.List.FromFn.{map-range_with_len_more}
use Rattle.std.proofs.lemmas.List.Sums.{sum_by_push}
use Rattle.std.proofs.lemmas.List.{append-nil}
use Rattle.std.proofs.lemmas.List.Elements.{filter-append}

pub numbered_more : {X : Type 0} (n : ℕ) (xs : List X) (k j : ℕ) (x : X) → k < length xs → x ≡ get_or xs k x → n + k ≡ j → enumerate_from n (take (k + 1) xs) ≡ enumerate_from n (take k xs) ++ (j, x) ∷ []
numbered_more {X} n xs k j x h e q = let eq : suc k ≡ k + 1 = omega arith in subst (λ m. enumerate_from n (take m xs) ≡ enumerate_from n (take k xs) ++ (j, x) ∷ []) eq (more n xs k j h e q)
  where
    more : (n : ℕ) (xs : List X) (k j : ℕ) → k < length xs → x ≡ get_or xs k x → n + k ≡ j → enumerate_from n (take (suc k) xs) ≡ enumerate_from n (take k xs) ++ (j, x) ∷ []
    more n [] k j h e q = absurd (omega arith)
    more n (y ∷ ys) zero j h e q = let same : n ≡ j = omega arith in ap (λ m. (m, y) ∷ []) same ∙ ap (λ z. (j, z) ∷ []) (sym e)
    more n (y ∷ ys) (suc k) j h e q = ap (λ l. (n, y) ∷ l) (more (n + 1) ys k j (omega arith) e (omega arith))

pub numbered_yes : {X : Type 0} (p : X → Bool) (xs : List X) (k : ℕ) (x : X) → k < length xs → x ≡ get_or xs k x → p x ≡ true
    → filter (λ e. p e.1) (enumerate_from 0 (take (k + 1) xs)) ≡ filter (λ e. p e.1) (enumerate_from 0 (take k xs)) ++ (k, x) ∷ []
numbered_yes p xs k x h e yes' =
    ap (filter (λ e. p e.1)) (numbered_more 0 xs k k x h e (omega arith)) ∙ filter-append (λ e. p e.1) (enumerate_from 0 (take k xs)) ((k, x) ∷ [])
    ∙ ap (λ b. filter (λ e. p e.1) (enumerate_from 0 (take k xs)) ++ cond b ((k, x) ∷ []) []) yes'

pub numbered_no : {X : Type 0} (p : X → Bool) (xs : List X) (k : ℕ) (x : X) → k < length xs → x ≡ get_or xs k x → p x ≡ false
    → filter (λ e. p e.1) (enumerate_from 0 (take (k + 1) xs)) ≡ filter (λ e. p e.1) (enumerate_from 0 (take k xs))
numbered_no p xs k x h e no' =
    ap (filter (λ e. p e.1)) (numbered_more 0 xs k k x h e (omega arith)) ∙ filter-append (λ e. p e.1) (enumerate_from 0 (take k xs)) ((k, x) ∷ [])
    ∙ ap (λ b. filter (λ e. p e.1) (enumerate_from 0 (take k xs)) ++ cond b ((k, x) ∷ []) []) no' ∙ append-nil (filter (λ e. p e.1) (enumerate_from 0 (take k xs)))

-- the sum over the numbered rows that pass, one row on
pub numbered_sum_yes : {X : Type 0} (f : ℕ × X → ℕ) (p : X → Bool) (xs : List X) (k : ℕ) (x : X) → k < length xs → x ≡ get_or xs k x → p x ≡ true
    → sum_by f (filter (λ e. p e.1) (enumerate_from 0 (take (k + 1) xs))) ≡ sum_by f (filter (λ e. p e.1) (enumerate_from 0 (take k xs))) + f (k, x)
numbered_sum_yes f p xs k x h e on = ap (sum_by f) (numbered_yes p xs k x h e on) ∙ sum_by_push f (filter (λ e. p e.1) (enumerate_from 0 (take k xs))) (k, x)

pub numbered_sum_no : {X : Type 0} (f : ℕ × X → ℕ) (p : X → Bool) (xs : List X) (k : ℕ) (x : X) → k < length xs → x ≡ get_or xs k x → p x ≡ false
    → sum_by f (filter (λ e. p e.1) (enumerate_from 0 (take (k + 1) xs))) ≡ sum_by f (filter (λ e. p e.1) (enumerate_from 0 (take k xs)))
numbered_sum_no f p xs k x h e off = ap (sum_by f) (numbered_no p xs k x h e off)

pub range_more : (n : ℕ) → range_with_len 0 (n + 1) ≡ range_with_len 0 n ++ n ∷ []
range_more n =
    sym (map-id (range_with_len 0 (n + 1))) ∙ map-range_with_len_more (λ (x : ℕ). x) 0 n n (omega arith) ∙ ap (λ l. l ++ n ∷ []) (map-id (range_with_len 0 n))

-- one number more, which passes or doesn't
pub range_yes : (p : ℕ → Bool) (n : ℕ) → p n ≡ true → filter p (range_with_len 0 (n + 1)) ≡ filter p (range_with_len 0 n) ++ n ∷ []
range_yes p n e =
    ap (filter p) (range_more n) ∙ filter-append p (range_with_len 0 n) (n ∷ []) ∙ ap (λ b. filter p (range_with_len 0 n) ++ cond b (n ∷ []) []) e

pub range_no : (p : ℕ → Bool) (n : ℕ) → p n ≡ false → filter p (range_with_len 0 (n + 1)) ≡ filter p (range_with_len 0 n)
range_no p n e =
    ap (filter p) (range_more n) ∙ filter-append p (range_with_len 0 n) (n ∷ []) ∙ ap (λ b. filter p (range_with_len 0 n) ++ cond b (n ∷ []) []) e ∙ append-nil (filter p (range_with_len 0 n))

pub listed_yes : {X : Type 0} (f : ℕ → X) (p : ℕ → Bool) (n : ℕ) → p n ≡ true → map f (filter p (range_with_len 0 (n + 1))) ≡ map f (filter p (range_with_len 0 n)) ++ f n ∷ []
listed_yes f p n e = ap (map f) (range_yes p n e) ∙ map-append f (filter p (range_with_len 0 n)) (n ∷ [])

pub listed_no : {X : Type 0} (f : ℕ → X) (p : ℕ → Bool) (n : ℕ) → p n ≡ false → map f (filter p (range_with_len 0 (n + 1))) ≡ map f (filter p (range_with_len 0 n))
listed_no f p n e = ap (map f) (range_no p n e)
