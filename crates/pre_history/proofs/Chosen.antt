-- Elements of a list that a test passes, or that are mapped, by their places.
use Rattle.std.proofs.Common.{ℕ, zero, suc, ◌≡◌, ◌<◌, ◌≤◌, Bool, true, false, List, [], ◌∷◌, ◌++◌, length, take, refl}
use Rattle.std.proofs.Common.{sym, ◌∙◌, ap, arith, Option, Some, map, filter, filter_map}
use Rattle.std.specs.Prelude.{if◌then◌else◌, slice_get}
use Rattle.std.specs.List.{AllByRecursion as Every, cons_option}
use Rattle.pre_base.specs.Last.{last}

pub from_filter : {X : Type 0} (test : X → Bool) (xs : List X) (i : ℕ) (x : X) → slice_get (filter test xs) i ≡ Some x → (j : ℕ) × (slice_get xs j ≡ Some x) × (test x ≡ true)
from_filter test [] i x at = absurd (cc at)
from_filter {X} test (y ∷ ys) i x at = go (test y) refl i at (λ i at. from_filter test ys i x at)
  where
    go : (b : Bool) → test y ≡ b → (i : ℕ) → slice_get (if b then y ∷ filter test ys else filter test ys) i ≡ Some x
        → ((i : ℕ) → slice_get (filter test ys) i ≡ Some x → (j : ℕ) × (slice_get ys j ≡ Some x) × (test x ≡ true)) → (j : ℕ) × (slice_get (y ∷ ys) j ≡ Some x) × (test x ≡ true)
    go true pass zero at more = let same : y ≡ x = cc at in (0, at, ap test (sym same) ∙ pass)
    go true pass (suc i) at more = let o = more i at in (suc o.0, o.1, o.2)
    go false pass i at more = let o = more i at in (suc o.0, o.1, o.2)

pub into_filter : {X : Type 0} (test : X → Bool) (xs : List X) (j : ℕ) (x : X) → slice_get xs j ≡ Some x → test x ≡ true → (i : ℕ) × (slice_get (filter test xs) i ≡ Some x)
into_filter test [] j x at pass = absurd (cc at)
into_filter test (y ∷ ys) zero x at pass = let same : y ≡ x = cc at in let here : test y ≡ true = ap test same ∙ pass in (0, rw here at)
into_filter {X} test (y ∷ ys) (suc j) x at pass = go (test y) (into_filter test ys j x at pass)
  where
    go : (b : Bool) → (i : ℕ) × (slice_get (filter test ys) i ≡ Some x) → (i : ℕ) × (slice_get (if b then y ∷ filter test ys else filter test ys) i ≡ Some x)
    go true o = (suc o.0, o.1)
    go false o = o

pub from_map : {X Y : Type 0} (f : X → Y) (xs : List X) (i : ℕ) (y : Y) → slice_get (map f xs) i ≡ Some y → (x : X) × (slice_get xs i ≡ Some x) × (f x ≡ y)
from_map f [] i y at = absurd (cc at)
from_map f (x ∷ xs) zero y at = (x, refl, cc at)
from_map f (x ∷ xs) (suc i) y at = from_map f xs i y at

pub into_map : {X Y : Type 0} (f : X → Y) (xs : List X) (i : ℕ) (x : X) → slice_get xs i ≡ Some x → slice_get (map f xs) i ≡ Some (f x)
into_map f [] i x at = absurd (cc at)
into_map {X} {Y} f (y ∷ xs) zero x at = let same : y ≡ x = cc at in ap (λ z. Some (f z)) same
into_map f (y ∷ xs) (suc i) x at = into_map f xs i x at

-- fronts of two lists with the same elements
pub take_like : {X : Type 0} (n : ℕ) (xs ys : List X) → n ≤ length xs → n ≤ length ys → ((k : ℕ) → k < n → slice_get xs k ≡ slice_get ys k) → take n xs ≡ take n ys
take_like zero xs ys le le' same = refl
take_like (suc n) [] ys le le' same = absurd (omega (arith, le))
take_like (suc n) (x ∷ xs) [] le le' same = absurd (omega (arith, le'))
take_like {X} (suc n) (x ∷ xs) (y ∷ ys) le le' same =
    let first : Some x ≡ Some y = same 0 (omega arith) in
    let head : x ≡ y = cc first in
    cc (head, take_like n xs ys (omega (arith, le)) (omega (arith, le')) (λ k lt. same (suc k) (omega (arith, lt))))

pub last_there : {X : Type 0} (xs : List X) (x : X) → last xs ≡ Some x → (i : ℕ) × (slice_get xs i ≡ Some x)
last_there [] x is = absurd (cc is)
last_there (y ∷ []) x is = (0, is)
last_there (y ∷ z ∷ xs) x is = let o = last_there (z ∷ xs) x is in (suc o.0, o.1)

pub last_push : {X : Type 0} (xs : List X) (x : X) → last (xs ++ x ∷ []) ≡ Some x
last_push [] x = refl
last_push (y ∷ []) x = refl
last_push (y ∷ z ∷ xs) x = last_push (z ∷ xs) x

-- two selections that select the same of each element
pub selected_like : {X Y : Type 0} (f g : X → Option Y) (xs : List X) → Every (λ x. f x ≡ g x) xs → filter_map f xs ≡ filter_map g xs
selected_like f g [] same = refl
selected_like f g (x ∷ xs) (here, more) = let rest = selected_like f g xs more in λ i. cons_option (here i) (rest i)
