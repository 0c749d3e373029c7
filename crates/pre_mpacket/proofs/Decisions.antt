-- What is decided: connectives, searches below a number, and tests of plain values.
use Rattle.std.proofs.Common.{ℕ, zero, suc, ◌≡◌, ◌⊎◌, ◌<◌, ◌≤◌, Bool, true, false, List, [], ◌∷◌, refl, inl, inr, arith, subst}
use Rattle.std.specs.Prelude.{◌↔◌, IsTrue}
use Rattle.std.specs.Bool.{Decides}
use Rattle.std.proofs.lemmas.Bool.{cases_lt}

abbrev pub IsDecided : Type 0 → Type 0
IsDecided P = P ⊎ ¬ P

pub both : {P Q : Type 0} → IsDecided P → IsDecided Q → IsDecided (P × Q)
both (inl p) (inl q) = inl (p, q)
both (inl p) (inr nay) = inr (λ x. nay x.1)
both (inr nay) q = inr (λ x. nay x.0)

-- the second one asked where the first one holds
pub both_then : {P Q : Type 0} → IsDecided P → (P → IsDecided Q) → IsDecided (P × Q)
both_then (inr nay) q = inr (λ x. nay x.0)
both_then {P} {Q} (inl p) q = elim (q p) [ inl y ↦ inl (p, y) | inr nay ↦ inr (λ x. nay x.1) ]

pub one_of : {P Q : Type 0} → IsDecided P → IsDecided Q → IsDecided (P ⊎ Q)
one_of (inl p) q = inl (inl p)
one_of (inr nay) (inl q) = inl (inr q)
one_of (inr nay) (inr never) = inr (λ x. elim x [ inl p ↦ nay p | inr q ↦ never q ])

pub negated : {P : Type 0} → IsDecided P → IsDecided (¬ P)
negated (inl p) = inr (λ nay. nay p)
negated (inr nay) = inl nay

pub alike : {P Q : Type 0} → P ↔ Q → IsDecided P → IsDecided Q
alike like (inl p) = inl (like.0 p)
alike like (inr nay) = inr (λ q. nay (like.1 q))

pub by_test : {P : Type 0} (b : Bool) → Decides b P → IsDecided P
by_test true is = inl (is.0 refl)
by_test false is = inr (λ p. absurd (cc (is.1 p)))

pub tested : {P : Type 0} → IsDecided P → (b : Bool) × Decides b P
tested (inl p) = (true, ((λ e. p), λ q. refl))
tested (inr nay) = (false, ((λ e. absurd (cc e)), λ q. absurd (nay q)))

pub truth : (b : Bool) → IsDecided (b ≡ true)
truth true = inl refl
truth false = inr (λ e. cc e)

pub is_true : (b : Bool) → IsDecided (IsTrue b)
is_true true = inl refl
is_true false = inr (λ e. cc e)

pub equal : (m n : ℕ) → IsDecided (m ≡ n)
equal m n = grind arith

pub less : (m n : ℕ) → IsDecided (m < n)
less m n = elim (cases_lt m n) [ inl lt ↦ inl lt | inr le ↦ inr (λ lt. absurd (omega (arith, lt, le))) ]

pub at_most : (m n : ℕ) → IsDecided (m ≤ n)
at_most m n = elim (cases_lt n m) [ inl lt ↦ inr (λ le. absurd (omega (arith, lt, le))) | inr le ↦ inl le ]

pub equal_lists : (xs ys : List ℕ) → IsDecided (xs ≡ ys)
equal_lists [] [] = inl refl
equal_lists [] (y ∷ ys) = inr (λ e. cc e)
equal_lists (x ∷ xs) [] = inr (λ e. cc e)
equal_lists (x ∷ xs) (y ∷ ys) = elim (equal x y) [
  | inr other ↦ inr (λ e. other (cc e))
  | inl same ↦ elim (equal_lists xs ys) [ inl rest ↦ inl (cc (same, rest)) | inr other ↦ inr (λ e. other (cc e)) ]
]

-- a number below n with a property
pub some_below : (P : ℕ → Type 0) (n : ℕ) → ((d : ℕ) → d < n → IsDecided (P d)) → ((d : ℕ) × (d < n) × P d) ⊎ ((d : ℕ) → d < n → ¬ P d)
some_below P zero decided = inr (λ d lt p. omega (arith, lt))
some_below P (suc n) decided = elim (some_below P n (λ d lt. decided d (omega (arith, lt)))) [
  | inl o ↦ inl (o.0, omega (arith, o.1), o.2)
  | inr none ↦ elim (decided n (omega arith)) [
    | inl p ↦ inl (n, omega arith, p)
    | inr nay ↦ inr (λ d lt p. elim (cases_lt d n) [ inl lt' ↦ none d lt' p | inr le ↦ let is : d ≡ n = omega (arith, lt, le) in nay (subst P is p) ])
  ]
]

-- whether each number from u up to n has it
pub each_between : (P : ℕ → Type 0) (u n : ℕ) → ((d : ℕ) → d < n → IsDecided (P d)) → IsDecided ((d : ℕ) → u ≤ d → d < n → P d)
each_between P u n decided = elim (some_below (λ d. (u ≤ d) × ¬ P d) n (λ d lt. both (at_most u d) (negated (decided d lt)))) [
  | inl o ↦ inr (λ each. o.2.1 (each o.0 o.2.0 o.1))
  | inr none ↦ inl (λ d from lt. elim (decided d lt) [ inl p ↦ p | inr nay ↦ absurd (none d lt (from, nay)) ])
]
