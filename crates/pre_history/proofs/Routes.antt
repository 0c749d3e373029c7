-- Routes: what is behind an arc of one, and that of a route which takes no arc twice.
use Rattle.std.proofs.Common.{ℕ, zero, suc, ◌≡◌, ◌≢◌, ◌==◌, ◌<◌, ◌≤◌, Bool, true, false, List, [], ◌∷◌, length}
use Rattle.std.proofs.Common.{refl, sym, ◌∙◌, ap, inl, inr, ◌⊎◌, arith, subst, Some, None}
use Rattle.std.specs.Prelude.{if◌then◌else◌, slice_get, unwrap_or, AllPairs, Contains}
use Rattle.std.proofs.lemmas.Bool.Decides.{nat_tests}
use Rattle.pre_history.specs.Comings.{after}
use Rattle.pre_history.proofs.Lists.{within, read_at, found_at}

pub contained_at : {X : Type 0} (xs : List X) (x : X) → Contains xs x → (i : ℕ) × (slice_get xs i ≡ Some x)
contained_at xs x (i, lt, is) = (i, found_at xs i x lt is)

pub contains_at : {X : Type 0} (xs : List X) (i : ℕ) (x : X) → slice_get xs i ≡ Some x → Contains xs x
contains_at xs i x at = (i, within xs i x at, read_at xs i x at)

-- what is behind an arc stands at the place behind its place
pub behind : (xs : List ℕ) (x y : ℕ) → after x xs ≡ Some y → (i : ℕ) × (slice_get xs i ≡ Some x) × (slice_get xs (suc i) ≡ Some y)
behind [] x y is = absurd (cc is)
behind (z ∷ xs) x y is = go (z == x) refl is (λ more. let o = behind xs x y more in (suc o.0, o.1, o.2))
  where
    go : (b : Bool) → (z == x) ≡ b → (if b then slice_get xs 0 else after x xs) ≡ Some y → (after x xs ≡ Some y → (i : ℕ) × (slice_get (z ∷ xs) i ≡ Some x) × (slice_get (z ∷ xs) (suc i) ≡ Some y))
        → (i : ℕ) × (slice_get (z ∷ xs) i ≡ Some x) × (slice_get (z ∷ xs) (suc i) ≡ Some y)
    go true same here more = let is : z ≡ x = grind (arith, nat_tests) in (0, ap Some is, here)
    go false other here more = more here

-- an arc of the route with none behind it is the last one
none_behind : (xs : List ℕ) (x i : ℕ) → after x xs ≡ None → slice_get xs i ≡ Some x → (n : ℕ) × (length xs ≡ suc n) × (slice_get xs n ≡ Some x)
none_behind [] x i none at = absurd (cc at)
none_behind (z ∷ xs) x i none at = go (z == x) refl none (λ j here at'. none_behind xs x j here at')
  where
    empty : (ys : List ℕ) → slice_get ys 0 ≡ None → ys ≡ []
    empty [] is = refl
    empty (y ∷ ys) is = absurd (cc is)

    later : (i : ℕ) → (z ≢ x) → slice_get (z ∷ xs) i ≡ Some x → (j : ℕ) × (slice_get xs j ≡ Some x)
    later zero other at = absurd (other (cc at))
    later (suc j) other at = (j, at)

    go : (b : Bool) → (z == x) ≡ b → (if b then slice_get xs 0 else after x xs) ≡ None → ((j : ℕ) → after x xs ≡ None → slice_get xs j ≡ Some x → (n : ℕ) × (length xs ≡ suc n) × (slice_get xs n ≡ Some x))
        → (n : ℕ) × (length (z ∷ xs) ≡ suc n) × (slice_get (z ∷ xs) n ≡ Some x)
    go true same here more = let is : z ≡ x = grind (arith, nat_tests) in (0, ap (λ (ys : List ℕ). length (z ∷ ys)) (empty xs here), ap Some is)
    go false other here more =
        let not_here : z ≢ x = grind (arith, nat_tests) in
        let o = later i not_here at in
        let rest = more o.0 here o.1 in
        (suc rest.0, omega (arith, rest.1), rest.2)

pub one_last : (xs : List ℕ) (x y : ℕ) → Contains xs x → Contains xs y → after x xs ≡ None → after y xs ≡ None → x ≡ y
one_last xs x y on on' none none' =
    let p = contained_at xs x on in
    let q = contained_at xs y on' in
    let o = none_behind xs x p.0 none p.1 in
    let o' = none_behind xs y q.0 none' q.1 in
    let same : o.0 ≡ o'.0 = omega (arith, o.1, o'.1) in
    let at : slice_get xs o'.0 ≡ Some x = subst (λ n. slice_get xs n ≡ Some x) same o.2 in
    cc (at, o'.2)

module _ (xs : List ℕ) (apart : AllPairs (λ x y. x ≢ y) xs) where
  -- an arc stands at one place
  one_place : (i j x : ℕ) → slice_get xs i ≡ Some x → slice_get xs j ≡ Some x → i ≡ j
  one_place i j x at at' = elim (order i j) [
    | inl same ↦ same
    | inr (inl less) ↦ absurd (apart i j x less (within xs j x at') (read_at xs i x at ∙ sym (read_at xs j x at')))
    | inr (inr more) ↦ absurd (apart j i x more (within xs i x at) (read_at xs j x at' ∙ sym (read_at xs i x at)))
  ]
    where
      order : (m n : ℕ) → (m ≡ n) ⊎ (m < n) ⊎ (n < m)
      order m n = grind arith

  -- one arc is before it
  pub one_before : (x y z : ℕ) → after x xs ≡ Some z → after y xs ≡ Some z → x ≡ y
  one_before x y z is is' =
      let o = behind xs x z is in
      let o' = behind xs y z is' in
      let place : suc o.0 ≡ suc o'.0 = one_place (suc o.0) (suc o'.0) z o.2 o'.2 in
      let same : o.0 ≡ o'.0 = omega (arith, place) in
      let at : slice_get xs o'.0 ≡ Some x = subst (λ n. slice_get xs n ≡ Some x) same o.1 in
      cc (at, o'.1)

  -- and none is before the first one
  pub not_first : (x : ℕ) → after x xs ≡ Some (unwrap_or (slice_get xs 0) 0) → ⊥
  not_first x is =
      let o = behind xs x (unwrap_or (slice_get xs 0) 0) is in
      let place : suc o.0 ≡ 0 = one_place (suc o.0) 0 (unwrap_or (slice_get xs 0) 0) o.2 (first xs o.0 x o.1) in
      absurd (omega (arith, place))
    where
      first : (ys : List ℕ) (i x : ℕ) → slice_get ys i ≡ Some x → slice_get ys 0 ≡ Some (unwrap_or (slice_get ys 0) 0)
      first [] i x at = absurd (cc at)
      first (y ∷ ys) i x at = refl

pub first_on : (xs : List ℕ) → 1 ≤ length xs → Contains xs (unwrap_or (slice_get xs 0) 0)
first_on [] some = absurd (omega (arith, some))
first_on (x ∷ xs) some = contains_at (x ∷ xs) 0 x refl

pub next_on : (xs : List ℕ) (x y : ℕ) → after x xs ≡ Some y → Contains xs y
next_on xs x y is = let o = behind xs x y is in contains_at xs (suc o.0) y o.2
