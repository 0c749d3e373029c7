-- Sums over the rows that pass a test, and the longest of them.
use Rattle.std.proofs.Common.{◌≡◌, ℕ, zero, suc, ◌+◌, ◌*◌, ◌<◌, ◌≤◌, max, Bool, true, false, cond, List, [], ◌∷◌}
use Rattle.std.proofs.Common.{Some, refl, sym, ◌∙◌, ap, subst, arith, zero-add, inl, inr, length, get_or}
use Rattle.std.specs.Prelude.{slice_get, sum_by, filter, fold, Contains}
use Rattle.std.specs.List.{enumerate_from}
use Rattle.std.proofs.Math.Nat.{le-max_left, le-max_right, max-eq_left, max-eq_right}
use Rattle.std.proofs.lemmas.Bool.{cases_Bool, cases_lt}
use Rattle.std.proofs.lemmas.List.Sums.{sum_by-cons}

pub sum_by-filter-cons : {X : Type 0} (f : X → ℕ) (p : X → Bool) (x : X) (xs : List X) → sum_by f (filter p (x ∷ xs)) ≡ cond (p x) (f x) 0 + sum_by f (filter p xs)
sum_by-filter-cons f p x xs =
    elim (p x) as (λ b. sum_by f (cond b (x ∷ filter p xs) (filter p xs)) ≡ cond b (f x) 0 + sum_by f (filter p xs)) [
      | true ↦ sum_by-cons f x (filter p xs)
      | false ↦ sym (zero-add (sum_by f (filter p xs)))
    ]

pub cond_le : (b : Bool) (m n : ℕ) → (b ≡ true → m ≤ n) → cond b m 0 ≤ cond b n 0
cond_le true m n h = h refl
cond_le false m n h = omega arith

-- a sum by rows is at most a sum by rows and their numbers
pub sums_le : {X : Type 0} (f : X → ℕ) (g : ℕ × X → ℕ) (p : X → Bool) (n : ℕ) (xs : List X)
    → ((i k : ℕ) (x : X) → n + i ≡ k → slice_get xs i ≡ Some x → p x ≡ true → f x ≤ g (k, x))
    → sum_by f (filter p xs) ≤ sum_by g (filter (λ e. p e.1) (enumerate_from n xs))
sums_le f g p n [] h = omega arith
sums_le f g p n (x ∷ xs) h =
    let left = sum_by-filter-cons f p x xs in
    let right = sum_by-filter-cons g (λ e. p e.1) (n, x) (enumerate_from (n + 1) xs) in
    let first : cond (p x) (f x) 0 ≤ cond (p x) (g (n, x)) 0 = cond_le (p x) (f x) (g (n, x)) (λ e. h 0 n x (omega arith) refl e) in
    let rest = sums_le f g p (n + 1) xs (λ i k y e at q. h (suc i) k y (omega arith) at q) in
    omega (arith, left, right, first, rest)

-- and the other way round
pub sums_ge : {X : Type 0} (f : X → ℕ) (g : ℕ × X → ℕ) (p : X → Bool) (n : ℕ) (xs : List X)
    → ((i k : ℕ) (x : X) → n + i ≡ k → slice_get xs i ≡ Some x → p x ≡ true → g (k, x) ≤ f x)
    → sum_by g (filter (λ e. p e.1) (enumerate_from n xs)) ≤ sum_by f (filter p xs)
sums_ge f g p n [] h = omega arith
sums_ge f g p n (x ∷ xs) h =
    let left = sum_by-filter-cons f p x xs in
    let right = sum_by-filter-cons g (λ e. p e.1) (n, x) (enumerate_from (n + 1) xs) in
    let first : cond (p x) (g (n, x)) 0 ≤ cond (p x) (f x) 0 = cond_le (p x) (g (n, x)) (f x) (λ e. h 0 n x (omega arith) refl e) in
    let rest = sums_ge f g p (n + 1) xs (λ i k y e at q. h (suc i) k y (omega arith) at q) in
    omega (arith, left, right, first, rest)

wider : (p q : Bool) (m : ℕ) → (p ≡ true → q ≡ true) → cond p m 0 ≤ cond q m 0
wider false q m h = omega arith
wider true true m h = omega arith
wider true false m h = absurd (let no = h refl in cc)

-- a wider test keeps a greater sum
pub sum_by-filter-le : {X : Type 0} (f : X → ℕ) (p q : X → Bool) (xs : List X) → ((x : X) → p x ≡ true → q x ≡ true) → sum_by f (filter p xs) ≤ sum_by f (filter q xs)
sum_by-filter-le f p q [] h = omega arith
sum_by-filter-le f p q (x ∷ xs) h =
    let left = sum_by-filter-cons f p x xs in
    let right = sum_by-filter-cons f q x xs in
    let first = wider (p x) (q x) (f x) (h x) in
    let rest = sum_by-filter-le f p q xs h in
    omega (arith, left, right, first, rest)

-- a sum of greater numbers is greater
pub sum_by-le-at : {X : Type 0} (f g : X → ℕ) (xs : List X) → ((i : ℕ) (x : X) → slice_get xs i ≡ Some x → f x ≤ g x) → sum_by f xs ≤ sum_by g xs
sum_by-le-at f g [] h = omega arith
sum_by-le-at f g (x ∷ xs) h =
    let left = sum_by-cons f x xs in
    let right = sum_by-cons g x xs in
    let first = h 0 x refl in
    let rest = sum_by-le-at f g xs (λ i y at. h (suc i) y at) in
    omega (arith, left, right, first, rest)

pub contains_head : {X : Type 0} (x : X) (xs : List X) → Contains (x ∷ xs) x
contains_head x xs = (0, omega arith, refl)

pub contains_tail : {X : Type 0} (x y : X) (xs : List X) → Contains xs y → Contains (x ∷ xs) y
contains_tail x y xs c = (suc c.0, omega (arith, c.1), c.2)

pub mul_max : (k a b most : ℕ) → k * a ≤ most → k * b ≤ most → k * max a b ≤ most
mul_max k a b most h j =
    elim (cases_lt a b) [
      | inl less ↦ let le : a ≤ b = omega arith in rw (max-eq_right le) j
      | inr more ↦ rw (max-eq_left more) h
    ]

-- the greatest of some numbers and those of the rows that pass, times a factor
pub greatest_le : {X : Type 0} (f : X → ℕ) (p : X → Bool) (k most m : ℕ) (xs : List X) → k * m ≤ most → ((x : X) → Contains xs x → p x ≡ true → k * f x ≤ most) → k * fold (λ a x. max a (f x)) m (filter p xs) ≤ most
greatest_le f p k most m [] h each = h
greatest_le f p k most m (x ∷ xs) h each =
    elim (cases_Bool (p x)) [
      | inl passes ↦ rw passes (greatest_le f p k most (max m (f x)) xs (mul_max k m (f x) most h (each x (contains_head x xs) passes)) (λ y c e. each y (contains_tail x y xs c) e))
      | inr fails ↦ rw fails (greatest_le f p k most m xs h (λ y c e. each y (contains_tail x y xs c) e))
    ]

pub first-le-greatest : {X : Type 0} (f : X → ℕ) (m : ℕ) (xs : List X) → m ≤ fold (λ a x. max a (f x)) m xs
first-le-greatest f m [] = omega arith
first-le-greatest f m (x ∷ xs) = let here = le-max_left m (f x) in let rest = first-le-greatest f (max m (f x)) xs in omega (arith, here, rest)

pub each-le-greatest : {X : Type 0} (f : X → ℕ) (p : X → Bool) (m : ℕ) (xs : List X) (k : ℕ) (y : X) → k < length xs → get_or xs k y ≡ y → p y ≡ true → f y ≤ fold (λ a x. max a (f x)) m (filter p xs)
each-le-greatest f p m [] k y h at e = absurd (omega arith)
each-le-greatest f p m (x ∷ xs) zero y h at e =
    let passes : p x ≡ true = ap p at ∙ e in
    rw passes (let here = le-max_right m (f x) in let rest = first-le-greatest f (max m (f x)) (filter p xs) in subst (λ z. f z ≤ fold (λ a x. max a (f x)) (max m (f x)) (filter p xs)) at (omega (arith, here, rest)))
each-le-greatest f p m (x ∷ xs) (suc k) y h at e =
    elim (cases_Bool (p x)) [
      | inl passes ↦ rw passes (each-le-greatest f p (max m (f x)) xs k y (omega arith) at e)
      | inr fails ↦ rw fails (each-le-greatest f p m xs k y (omega arith) at e)
    ]
