-- Elements of lists by their places, and what each of a list gives.
use Rattle.std.proofs.Common.{ℕ, zero, suc, ◌≡◌, ◌≢◌, ◌<◌, ◌≤◌, ◌+◌, Bool, true, false, cond, List, [], ◌∷◌}
use Rattle.std.proofs.Common.{◌++◌, length, take, drop, refl, sym, ◌∙◌, ap, arith, subst, Some, None, filter}
use Rattle.std.specs.Prelude.{slice_get, set, count_by}
use Rattle.std.specs.List.{sum_by, remove, AllByRecursion as Every}
use Rattle.std.proofs.lemmas.List.{append-nil, take_at}
use Rattle.std.proofs.lemmas.List.Sums.{sum_by-cons, sum_by-append, sum_by-set, length-filter, count_by-le-length}
use Rattle.pre_history.specs.History.{PlainEvent}
use Rattle.pre_history.specs.Rules.{Each}
-- an element at a place
pub use Rattle.std.proofs.lemmas.Option.{slice_get_within as within, slice_get_past as past_end, slice_get-get_or as find_at, get_or_from_slice_get as read_at}
pub use Rattle.std.proofs.lemmas.List.{drop-append-le as drop-append}
pub use Rattle.pre_history.proofs.Lists.{there, at_last, at_front, found_at, any_at}
-- an element of a list of images
pub use Rattle.pre_history.proofs.Chosen.{from_map as map_at, into_map as at_map}
-- each of a list
pub use Rattle.pre_history.proofs.Lists.{every-append, every_weaker, every_at, every_placed, every_filter, every_selected, none_selected}

-- more behind a list change none of its elements
pub get_front : {X : Type 0} (xs ys : List X) (i : ℕ) → i < length xs → slice_get (xs ++ ys) i ≡ slice_get xs i
get_front xs ys i lt = let x = there xs i lt in at_front xs ys i x.0 x.1 ∙ sym x.1

-- what is so of each is so of each at the front
pub every_front : {X : Type 0} (P : X → Type 0) (xs ys : List X) → Every P (xs ++ ys) → Every P xs
every_front P [] ys all = tt
every_front P (x ∷ xs) ys (here, more) = (here, every_front P xs ys more)

-- and of each behind some
pub every_drop : {X : Type 0} (P : X → Type 0) (n : ℕ) (xs : List X) → Every P xs → Every P (drop n xs)
every_drop P zero xs all = all
every_drop P (suc n) [] all = tt
every_drop P (suc n) (x ∷ xs) (here, more) = every_drop P n xs more

-- the first behind some is the one at their number
pub at_drop : {X : Type 0} (xs : List X) (n : ℕ) (x : X) (rest : List X) → drop n xs ≡ x ∷ rest → slice_get xs n ≡ Some x
at_drop xs zero x rest is = ap (λ ys. slice_get ys 0) is
at_drop [] (suc n) x rest is = absurd (cc is)
at_drop (y ∷ xs) (suc n) x rest is = at_drop xs n x rest is

-- a list with this first element
pub headed : {X : Type 0} (xs : List X) (x : X) → slice_get xs 0 ≡ Some x → xs ≡ x ∷ drop 1 xs
headed [] x at = absurd (cc at)
headed (y ∷ xs) x at = let same : y ≡ x = cc at in ap (λ z. z ∷ xs) same

-- and with none
pub none_at : {X : Type 0} (xs : List X) → slice_get xs 0 ≡ None → xs ≡ []
none_at [] none = refl
none_at (x ∷ xs) none = absurd (cc none)

-- the first is removed
pub without_first : {X : Type 0} (xs : List X) (x : X) → xs ≡ x ∷ drop 1 xs → remove xs 0 ≡ drop 1 xs
without_first [] x is = absurd (cc is)
without_first (y ∷ xs) x is = refl

-- ---- other elements at places

-- the element that was put there
pub set_here : {X : Type 0} (xs : List X) (i : ℕ) (x y : X) → slice_get xs i ≡ Some x → slice_get (set xs i y) i ≡ Some y
set_here [] i x y at = absurd (cc at)
set_here (z ∷ xs) zero x y at = refl
set_here (z ∷ xs) (suc i) x y at = set_here xs i x y at

-- what is found there is what was put there
pub set_found : {X : Type 0} (xs : List X) (i : ℕ) (y z : X) → slice_get (set xs i y) i ≡ Some z → y ≡ z
set_found [] i y z at = absurd (cc at)
set_found (x ∷ xs) zero y z at = cc at
set_found (x ∷ xs) (suc i) y z at = set_found xs i y z at

-- the others stay
pub set_elsewhere : {X : Type 0} (xs : List X) (i j : ℕ) (y : X) → j ≢ i → slice_get (set xs i y) j ≡ slice_get xs j
set_elsewhere [] i j y other = refl
set_elsewhere (x ∷ xs) zero zero y other = absurd (other refl)
set_elsewhere (x ∷ xs) zero (suc j) y other = refl
set_elsewhere (x ∷ xs) (suc i) zero y other = refl
set_elsewhere (x ∷ xs) (suc i) (suc j) y other = set_elsewhere xs i j y (λ e. other (ap suc e))

-- the same element, put there again
pub set_same : {X : Type 0} (xs : List X) (i : ℕ) (x : X) → slice_get xs i ≡ Some x → set xs i x ≡ xs
set_same [] i x at = refl
set_same (y ∷ xs) zero x at = let same : x ≡ y = cc at in ap (λ z. z ∷ xs) same
set_same (y ∷ xs) (suc i) x at = ap (λ zs. y ∷ zs) (set_same xs i x at)

-- what was put there first is no more
pub set_twice : {X : Type 0} (xs : List X) (i : ℕ) (x y : X) → set (set xs i x) i y ≡ set xs i y
set_twice [] i x y = refl
set_twice (z ∷ xs) zero x y = refl
set_twice (z ∷ xs) (suc i) x y = ap (λ zs. z ∷ zs) (set_twice xs i x y)

-- an element of a list with another at a place
pub set_cases : {X : Type 0} (P : ℕ → X → Type 0) (xs : List X) (i : ℕ) (y : X) → ((j : ℕ) (x : X) → slice_get xs j ≡ Some x → P j x) → P i y → (j : ℕ) (x : X)
    → slice_get (set xs i y) j ≡ Some x → P j x
set_cases P [] i y each here j x at = absurd (cc at)
set_cases P (z ∷ xs) zero y each here zero x at = subst (P zero) (cc at) here
set_cases P (z ∷ xs) zero y each here (suc j) x at = each (suc j) x at
set_cases P (z ∷ xs) (suc i) y each here zero x at = each zero x at
set_cases P (z ∷ xs) (suc i) y each here (suc j) x at = set_cases (λ k v. P (suc k) v) xs i y (λ k v at'. each (suc k) v at') here j x at

-- an element of a list with one more
pub each_pushed : {X : Type 0} (P : ℕ → X → Type 0) (xs : List X) (y : X) → ((i : ℕ) (x : X) → slice_get xs i ≡ Some x → P i x) → P (length xs) y → (i : ℕ) (x : X)
    → slice_get (xs ++ y ∷ []) i ≡ Some x → P i x
each_pushed P [] y each here zero x at = subst (P zero) (cc at) here
each_pushed P [] y each here (suc i) x at = absurd (cc at)
each_pushed P (z ∷ xs) y each here zero x at = each zero x at
each_pushed P (z ∷ xs) y each here (suc i) x at = each_pushed (λ k v. P (suc k) v) xs y (λ k v at'. each (suc k) v at') here i x at

-- ---- the first ones

-- one more of the first ones
pub take_one : {X : Type 0} (k : ℕ) (xs : List X) (x : X) → slice_get xs k ≡ Some x → take (k + 1) xs ≡ take k xs ++ x ∷ []
take_one {X} k xs x at = let next : k + 1 ≡ suc k = omega arith in ap (λ n. take n xs) next ∙ go k xs at
  where
    go : (k : ℕ) (xs : List X) → slice_get xs k ≡ Some x → take (suc k) xs ≡ take k xs ++ x ∷ []
    go k [] at = absurd (cc at)
    go zero (y ∷ xs) at = ap (λ z. z ∷ []) (cc at)
    go (suc k) (y ∷ xs) at = ap (λ zs. y ∷ zs) (go k xs at)

-- there are no more
pub take_no_more : {X : Type 0} (k n : ℕ) (xs : List X) → slice_get xs k ≡ None → k ≤ n → take k xs ≡ take n xs
take_no_more zero zero [] none le = refl
take_no_more zero (suc n) [] none le = refl
take_no_more (suc k) zero [] none le = refl
take_no_more (suc k) (suc n) [] none le = refl
take_no_more zero n (x ∷ xs) none le = absurd (cc none)
take_no_more (suc k) zero (x ∷ xs) none le = absurd (omega (arith, le))
take_no_more (suc k) (suc n) (x ∷ xs) none le = ap (λ zs. x ∷ zs) (take_no_more k n xs none (omega (arith, le)))

-- where none stands, the list is no longer
pub few_at : {X : Type 0} (k : ℕ) (xs : List X) → slice_get xs k ≡ None → length xs ≤ k
few_at k [] none = omega arith
few_at zero (x ∷ xs) none = absurd (cc none)
few_at (suc k) (x ∷ xs) none = let less = few_at k xs none in omega (arith, less)

-- the others of the first ones
pub take_rest : {X : Type 0} (k n : ℕ) (xs : List X) → k ≤ n → (rest : List X) × (take n xs ≡ take k xs ++ rest)
take_rest zero n xs le = (take n xs, refl)
take_rest (suc k) zero xs le = absurd (omega (arith, le))
take_rest (suc k) (suc n) [] le = ([], refl)
take_rest (suc k) (suc n) (x ∷ xs) le = let more = take_rest k n xs (omega (arith, le)) in (more.0, ap (λ zs. x ∷ zs) more.1)

-- one more than those before the rest
pub drop_one : {X : Type 0} (n : ℕ) (xs : List X) (x : X) (rest : List X) → drop n xs ≡ x ∷ rest → (drop (n + 1) xs ≡ rest) × (take (n + 1) xs ≡ take n xs ++ x ∷ []) × (n + 1 ≤ length xs)
drop_one {X} n xs x rest is = let same : suc n ≡ n + 1 = omega arith in subst (λ m. (drop m xs ≡ rest) × (take m xs ≡ take n xs ++ x ∷ []) × (m ≤ length xs)) same (go n xs is)
  where
    go : (n : ℕ) (xs : List X) → drop n xs ≡ x ∷ rest → (drop (suc n) xs ≡ rest) × (take (suc n) xs ≡ take n xs ++ x ∷ []) × (suc n ≤ length xs)
    go zero [] is = absurd (cc is)
    go zero (y ∷ xs) is = (cc is, ap (λ z. z ∷ []) (cc is), omega arith)
    go (suc n) [] is = absurd (cc is)
    go (suc n) (y ∷ xs) is = let r = go n xs is in (r.0, ap (λ zs. y ∷ zs) r.1, omega (arith, r.2))

-- a list that was written whole
pub written : {X : Type 0} (n : ℕ) (xs ys : List X) → length ys ≡ length xs → n ≡ length xs → take n (ys ++ drop (length ys) xs) ≡ ys
written n xs ys same all = take_at ys (drop (length ys) xs) n (same ∙ sym all)

-- ---- tests

-- a test leaves no more
pub length_filter : {X : Type 0} (test : X → Bool) (xs : List X) → length (filter test xs) ≤ length xs
length_filter test xs = omega (arith, length-filter test xs, count_by-le-length test xs)

-- two tests pass the same in either order
pub filter_swap : {X : Type 0} (p q : X → Bool) (xs : List X) → filter p (filter q xs) ≡ filter q (filter p xs)
filter_swap p q [] = refl
filter_swap p q (x ∷ xs) = go (p x) (q x) refl refl (filter_swap p q xs)
  where
    go : (b c : Bool) → p x ≡ b → q x ≡ c → filter p (filter q xs) ≡ filter q (filter p xs) → filter p (filter q (x ∷ xs)) ≡ filter q (filter p (x ∷ xs))
    go true true here there more = rw (there, here, there) (ap (λ zs. x ∷ zs) more)
    go true false here there more = rw (there, here, there) more
    go false true here there more = rw (there, here) more
    go false false here there more = rw (there, here) more

-- ---- sums over a list

-- with another element at a place
pub sum-set : {X : Type 0} (f : X → ℕ) (xs : List X) (i : ℕ) (x y : X) → slice_get xs i ≡ Some x → sum_by f (set xs i y) + f x ≡ sum_by f xs + f y
sum-set f xs i x y at = subst (λ z. sum_by f (set xs i y) + f z ≡ sum_by f xs + f y) (read_at xs i x x at) (sum_by-set f xs i y x (within xs i x at))

-- no element gives more than all
pub sum-one : {X : Type 0} (f : X → ℕ) (xs : List X) (i : ℕ) (x : X) → slice_get xs i ≡ Some x → f x ≤ sum_by f xs
sum-one f [] i x at = absurd (cc at)
sum-one f (y ∷ xs) zero x at = let same : y ≡ x = cc at in omega (arith, sum_by-cons f y xs, ap f same)
sum-one f (y ∷ xs) (suc i) x at = omega (arith, sum_by-cons f y xs, sum-one f xs i x at)

-- where each gives nothing, all do
pub sum-none : {X : Type 0} (f : X → ℕ) (xs : List X) → ((i : ℕ) (x : X) → slice_get xs i ≡ Some x → f x ≡ 0) → sum_by f xs ≡ 0
sum-none f [] none = refl
sum-none f (x ∷ xs) none = omega (arith, sum_by-cons f x xs, none zero x refl, sum-none f xs (λ i y at. none (suc i) y at))

-- a count over both parts
pub count_by-append : {X : Type 0} (p : X → Bool) (xs ys : List X) → count_by p (xs ++ ys) ≡ count_by p xs + count_by p ys
count_by-append p xs ys = sum_by-append (λ x. cond (p x) 1 0) xs ys

-- ---- the events of each of a list

-- none gives any
pub each_empty : {X : Type 0} (R : X → List PlainEvent → Type 0) (xs : List X) → ((i : ℕ) (x : X) → slice_get xs i ≡ Some x → R x []) → Each R xs []
each_empty R [] none = refl
each_empty R (x ∷ xs) none = ([], [], none zero x refl, each_empty R xs (λ i y at. none (suc i) y at), refl)

-- the one at this place gives them
pub each_at : {X : Type 0} (R : X → List PlainEvent → Type 0) (xs : List X) (es : List PlainEvent) (m : ℕ) (y : X) → slice_get xs m ≡ Some y → R y es
    → ((i : ℕ) (x : X) → i ≢ m → slice_get xs i ≡ Some x → R x []) → Each R xs es
each_at R [] es m y at gives none = absurd (cc at)
each_at R (x ∷ xs) es zero y at gives none =
    let same : y ≡ x = cc at in
    (es, [], subst (λ z. R z es) same gives, each_empty R xs (λ i z at'. none (suc i) z (λ e. absurd (omega (arith, e))) at'), sym (append-nil es))
each_at R (x ∷ xs) es (suc m) y at gives none =
    ([], es, none zero x (λ e. absurd (omega (arith, e))) refl, each_at R xs es m y at gives (λ i z other at'. none (suc i) z (λ e. other (omega (arith, e))) at'), refl)
