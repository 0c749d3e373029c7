-- How many items pass a test, and how long a joined list is.
use Rattle.std.proofs.Common.{◌≡◌, ℕ, zero, suc, ◌+◌, ◌*◌, ◌<◌, ◌≤◌, Bool, true, false, cond, List, [], ◌∷◌}
use Rattle.std.proofs.Common.{length, map, count_by, All, refl, sym, ◌∙◌, ap, arith, length-append}
use Rattle.std.proofs.lemmas.List.Sums.{sum_by-cons}
use Rattle.pre_plant.specs.Lists.{joined_of}
use Rattle.pre_plant.proofs.ListLaws.{joined_of_none, joined_of_more}

pub count_map : {X Y : Type 0} (p : Y → Bool) (f : X → Y) (xs : List X) → count_by (λ x. p (f x)) xs ≡ count_by p (map f xs)
count_map p f [] = refl
count_map p f (x ∷ xs) =
    sum_by-cons (λ x. cond (p (f x)) 1 0) x xs ∙ ap (λ n. cond (p (f x)) 1 0 + n) (count_map p f xs) ∙ sym (sum_by-cons (λ y. cond (p y) 1 0) (f x) (map f xs))

pub count_all : {X : Type 0} (p : X → Bool) (xs : List X) → All (λ x. p x ≡ true) xs → count_by p xs ≡ length xs
count_all p [] all = refl
count_all p (x ∷ xs) all =
    let one : cond {A = ℕ} (p x) 1 0 ≡ 1 = ap (λ b. cond {A = ℕ} b 1 0) (all zero x (omega arith)) in
    omega (arith, one, sum_by-cons (λ x. cond (p x) 1 0) x xs, count_all p xs (λ k d within. all (suc k) d (omega arith)))

pub count_none : {X : Type 0} (p : X → Bool) (xs : List X) → All (λ x. p x ≡ false) xs → count_by p xs ≡ 0
count_none p [] all = refl
count_none p (x ∷ xs) all =
    let none : cond {A = ℕ} (p x) 1 0 ≡ 0 = ap (λ b. cond {A = ℕ} b 1 0) (all zero x (omega arith)) in
    omega (arith, none, sum_by-cons (λ x. cond (p x) 1 0) x xs, count_none p xs (λ k d within. all (suc k) d (omega arith)))

module _ {X : Type 0} (f : ℕ → List X) (m : ℕ) where
  pub length-joined_of-le : (n : ℕ) → ((i : ℕ) → i < n → length (f i) ≤ m) → length (joined_of n f) ≤ n * m
  length-joined_of-le zero each = omega (arith, ap (λ (xs : List X). length xs) (joined_of_none f))
  length-joined_of-le (suc n) each =
      let on : n + 1 ≡ suc n = omega arith in
      let split : length (joined_of (suc n) f) ≡ length (joined_of n f) + length (f n) = ap (λ k. length (joined_of k f)) (sym on) ∙ ap (λ (xs : List X). length xs)
      (joined_of_more f n) ∙ length-append (joined_of n f) (f n) in
      let rest = length-joined_of-le n (λ i lt. each i (omega arith)) in
      let last = each n (omega arith) in
      let whole : suc n * m ≡ n * m + m = grind arith in
      omega (arith, split, rest, last, whole)

  pub length-joined_of : (n : ℕ) → ((i : ℕ) → i < n → length (f i) ≡ m) → length (joined_of n f) ≡ n * m
  length-joined_of zero each = omega (arith, ap (λ (xs : List X). length xs) (joined_of_none f))
  length-joined_of (suc n) each =
      let on : n + 1 ≡ suc n = omega arith in
      let split : length (joined_of (suc n) f) ≡ length (joined_of n f) + length (f n) = ap (λ k. length (joined_of k f)) (sym on) ∙ ap (λ (xs : List X). length xs)
      (joined_of_more f n) ∙ length-append (joined_of n f) (f n) in
      let rest = length-joined_of n (λ i lt. each i (omega arith)) in
      let last = each n (omega arith) in
      let whole : suc n * m ≡ n * m + m = grind arith in
      omega (arith, split, rest, last, whole)
