-- Elements of lists by their places, look-ups by a key, and sums of the same terms.
use Rattle.std.proofs.Common.{◌≡◌, ◌⊎◌, ℕ, zero, suc, ◌+◌, Bool, true, false, cond, List, [], ◌∷◌, ◌++◌, Some, refl, sym, ◌∙◌, ap, subst, arith, inl, inr, map}
use Rattle.std.specs.Prelude.{slice_get, filter, sum_by}
use Rattle.std.specs.Option.{option_map_or}
use Rattle.std.specs.List.{enumerate_from, flat_map, find, list_all}
use Rattle.std.proofs.lemmas.Bool.{cases_Bool, and_parts, and_from}
use Rattle.std.proofs.lemmas.List.Sums.{sum_by-cons}
use Rattle.pre_bound.proofs.Sums.{sum_by-filter-cons}

-- an element at some place
abbrev pub Has : {X : Type 0} → List X → X → Type 0
Has xs x = (i : ℕ) × (slice_get xs i ≡ Some x)

pub has_tail : {X : Type 0} (x y : X) (xs : List X) → Has xs y → Has (x ∷ xs) y
has_tail x y xs h = (suc h.0, h.1)

pub has_filter : {X : Type 0} (p : X → Bool) (xs : List X) (i : ℕ) (x : X) → slice_get xs i ≡ Some x → p x ≡ true → Has (filter p xs) x
has_filter p [] i x e on = absurd (cc)
has_filter p (y ∷ xs) zero x e on =
    let same : y ≡ x = cc in
    let passes : p y ≡ true = ap p same ∙ on in
    rw passes (0, ap (λ z. Some z) same)
has_filter p (y ∷ xs) (suc i) x e on =
    elim (cases_Bool (p y)) [
      | inl passes ↦ rw passes (has_tail y x (filter p xs) (has_filter p xs i x e on))
      | inr fails ↦ rw fails (has_filter p xs i x e on)
    ]

behind : {X : Type 0} (y x : X) (p : X → Bool) (xs : List X) → (p x ≡ true) × Has xs x → (p x ≡ true) × Has (y ∷ xs) x
behind y x p xs h = (h.0, has_tail y x xs h.1)

pub from_filter : {X : Type 0} (p : X → Bool) (xs : List X) (i : ℕ) (x : X) → slice_get (filter p xs) i ≡ Some x → (p x ≡ true) × Has xs x
from_filter p [] i x e = absurd (cc)
from_filter p (y ∷ xs) zero x e =
    elim (cases_Bool (p y)) [
      | inl passes ↦
          let here : Some y ≡ Some x = subst (λ b. slice_get (cond b (y ∷ filter p xs) (filter p xs)) zero ≡ Some x) passes e in
          let same : y ≡ x = cc in
          (ap p (sym same) ∙ passes, (0, here))
      | inr fails ↦ behind y x p xs (from_filter p xs zero x (subst (λ b. slice_get (cond b (y ∷ filter p xs) (filter p xs)) zero ≡ Some x) fails e))
    ]
from_filter p (y ∷ xs) (suc i) x e =
    elim (cases_Bool (p y)) [
      | inl passes ↦ behind y x p xs (from_filter p xs i x (subst (λ b. slice_get (cond b (y ∷ filter p xs) (filter p xs)) (suc i) ≡ Some x) passes e))
      | inr fails ↦ behind y x p xs (from_filter p xs (suc i) x (subst (λ b. slice_get (cond b (y ∷ filter p xs) (filter p xs)) (suc i) ≡ Some x) fails e))
    ]

pub at_map : {X Y : Type 0} (f : X → Y) (xs : List X) (i : ℕ) (x : X) → slice_get xs i ≡ Some x → slice_get (map f xs) i ≡ Some (f x)
at_map f [] i x e = absurd (cc)
at_map f (y ∷ xs) zero x e = let same : y ≡ x = cc in ap (λ z. Some (f z)) same
at_map f (y ∷ xs) (suc i) x e = at_map f xs i x e

pub from_map : {X Y : Type 0} (f : X → Y) (xs : List X) (i : ℕ) (y : Y) → slice_get (map f xs) i ≡ Some y → (x : X) × (slice_get xs i ≡ Some x) × (f x ≡ y)
from_map f [] i y e = absurd (cc)
from_map f (x ∷ xs) zero y e = (x, refl, cc)
from_map f (x ∷ xs) (suc i) y e = from_map f xs i y e

pub at_enumerate : {X : Type 0} (n : ℕ) (xs : List X) (i j : ℕ) (x : X) → slice_get xs i ≡ Some x → n + i ≡ j → slice_get (enumerate_from n xs) i ≡ Some (j, x)
at_enumerate n [] i j x e q = absurd (cc)
at_enumerate n (y ∷ xs) zero j x e q = let same : y ≡ x = cc in let number : n ≡ j = omega (arith, q) in ap (λ z. Some (n, z)) same ∙ ap (λ m. Some (m, x)) number
at_enumerate n (y ∷ xs) (suc i) j x e q = at_enumerate (n + 1) xs i j x e (omega (arith, q))

pub from_enumerate : {X : Type 0} (n : ℕ) (xs : List X) (i : ℕ) (e : ℕ × X) → slice_get (enumerate_from n xs) i ≡ Some e → (slice_get xs i ≡ Some e.1) × (n + i ≡ e.0)
from_enumerate n [] i e h = absurd (cc)
from_enumerate n (y ∷ xs) zero e h = let same : (n, y) ≡ e = cc in let number : n ≡ e.0 = ap (λ z. z.0) same in (ap (λ z. Some z.1) same, omega (arith, number))
from_enumerate n (y ∷ xs) (suc i) e h = let rest = from_enumerate (n + 1) xs i e h in (rest.0, omega (arith, rest.1))

at_append : {X : Type 0} (xs ys : List X) (i : ℕ) (x : X) → slice_get xs i ≡ Some x → slice_get (xs ++ ys) i ≡ Some x
at_append [] ys i x e = absurd (cc)
at_append (y ∷ xs) ys zero x e = e
at_append (y ∷ xs) ys (suc i) x e = at_append xs ys i x e

has_behind : {X : Type 0} (xs ys : List X) (x : X) → Has ys x → Has (xs ++ ys) x
has_behind [] ys x h = h
has_behind (y ∷ xs) ys x h = has_tail y x (xs ++ ys) (has_behind xs ys x h)

pub from_append : {X : Type 0} (xs ys : List X) (i : ℕ) (x : X) → slice_get (xs ++ ys) i ≡ Some x → Has xs x ⊎ Has ys x
from_append [] ys i x e = inr (i, e)
from_append (y ∷ xs) ys zero x e = inl (0, e)
from_append (y ∷ xs) ys (suc i) x e =
    elim (from_append xs ys i x e) [
      | inl h ↦ inl (has_tail y x xs h)
      | inr h ↦ inr h
    ]

pub has_flat_map : {X Y : Type 0} (f : X → List Y) (xs : List X) (i : ℕ) (x : X) (y : Y) → slice_get xs i ≡ Some x → Has (f x) y → Has (flat_map f xs) y
has_flat_map f [] i x y e h = absurd (cc)
has_flat_map f (z ∷ xs) zero x y e h = let same : x ≡ z = cc in let at = subst (λ w. Has (f w) y) same h in (at.0, at_append (f z) (flat_map f xs) at.0 y at.1)
has_flat_map f (z ∷ xs) (suc i) x y e h = has_behind (f z) (flat_map f xs) y (has_flat_map f xs i x y e h)

pub from_flat_map : {X Y : Type 0} (f : X → List Y) (xs : List X) (i : ℕ) (y : Y) → slice_get (flat_map f xs) i ≡ Some y → (x : X) × Has xs x × Has (f x) y
from_flat_map f [] i y e = absurd (cc)
from_flat_map f (x ∷ xs) i y e =
    elim (from_append (f x) (flat_map f xs) i y e) [
      | inl h ↦ (x, (0, refl), h)
      | inr h ↦ let rest = from_flat_map f xs h.0 y h.1 in (rest.0, has_tail x rest.0 xs rest.1, rest.2)
    ]

-- a look-up by a key that tells the number
pub looked : {A R : Type 0} (test : R → Bool) (number : R → ℕ) (f : A → R) (n : ℕ) → ((x : A) → test (f x) ≡ true → number (f x) ≡ n)
    → (ks : List A) (i : ℕ) (k : A) → slice_get ks i ≡ Some k → test (f k) ≡ true → option_map_or number (find test (map f ks)) 0 ≡ n
looked test number f n same [] i k e on = absurd (cc)
looked test number f n same (x ∷ ks) zero k e on =
    let here : k ≡ x = cc in
    let passes : test (f x) ≡ true = ap (λ z. test (f z)) (sym here) ∙ on in
    rw passes (same x passes)
looked test number f n same (x ∷ ks) (suc i) k e on =
    elim (cases_Bool (test (f x))) [
      | inl passes ↦ rw passes (same x passes)
      | inr fails ↦ rw fails (looked test number f n same ks i k e on)
    ]

-- the same terms where the test passes
pub sum_same : {X : Type 0} (f g : X → ℕ) (p : X → Bool) (xs : List X) → ((i : ℕ) (x : X) → slice_get xs i ≡ Some x → p x ≡ true → f x ≡ g x) → sum_by f (filter p xs) ≡ sum_by g (filter p xs)
sum_same f g p [] h = refl
sum_same f g p (x ∷ xs) h =
    let left = sum_by-filter-cons f p x xs in
    let right = sum_by-filter-cons g p x xs in
    let first : cond (p x) (f x) 0 ≡ cond (p x) (g x) 0 = one (p x) (f x) (g x) (h 0 x refl) in
    let rest = sum_same f g p xs (λ i y at. h (suc i) y at) in
    omega (arith, left, right, first, rest)
  where
    one : (b : Bool) (m n : ℕ) → (b ≡ true → m ≡ n) → cond b m 0 ≡ cond b n 0
    one true m n e = e refl
    one false m n e = refl

pub sum_same_all : {X : Type 0} (f g : X → ℕ) (xs : List X) → ((i : ℕ) (x : X) → slice_get xs i ≡ Some x → f x ≡ g x) → sum_by f xs ≡ sum_by g xs
sum_same_all f g [] h = refl
sum_same_all f g (x ∷ xs) h =
    let left = sum_by-cons f x xs in
    let right = sum_by-cons g x xs in
    let first = h 0 x refl in
    let rest = sum_same_all f g xs (λ i y at. h (suc i) y at) in
    omega (arith, left, right, first, rest)

-- a test of all elements, place by place
pub all_at : {X : Type 0} (p : X → Bool) (xs : List X) → list_all p xs ≡ true → (i : ℕ) (x : X) → slice_get xs i ≡ Some x → p x ≡ true
all_at p [] h i x e = absurd (cc)
all_at p (y ∷ xs) h zero x e = let same : y ≡ x = cc in ap p (sym same) ∙ (and_parts (p y) (list_all p xs) h).0
all_at p (y ∷ xs) h (suc i) x e = all_at p xs (and_parts (p y) (list_all p xs) h).1 i x e

pub all_from : {X : Type 0} (p : X → Bool) (xs : List X) → ((i : ℕ) (x : X) → slice_get xs i ≡ Some x → p x ≡ true) → list_all p xs ≡ true
all_from p [] h = refl
all_from p (y ∷ xs) h = and_from (p y) (list_all p xs) (h 0 y refl) (all_from p xs (λ i x e. h (suc i) x e))
