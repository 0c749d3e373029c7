-- The first line at which a test fails is the first at which its clause does.
use Rattle.std.proofs.Common.{◌≡◌, ℕ, ◌+◌, ◌^◌, ◌<◌, Bool, true, false, cond, List, Option, Some, None, refl, sym, ◌∙◌, ap, subst, arith, inl, inr, length, get_or, map}
use Rattle.std.specs.Prelude.{slice_get, not}
use Rattle.std.specs.Option.{option_map}
use Rattle.std.specs.List.{position_or_len}
use Rattle.std.proofs.Math.Nat.{min-eq_left}
use Rattle.std.proofs.lemmas.Bool.{cases_lt, lt-ltb, true≢false}
use Rattle.std.proofs.lemmas.List.Sums.{fails_before_first}
use Rattle.std.proofs.lemmas.List.Quantifiers.{position-Some}
use Rattle.std.proofs.lemmas.Option.{slice_get_within, get_or_from_slice_get, slice_get-get_or}
use Rattle.pre_check.specs.Lines.{AtLine}
use Rattle.pre_check.specs.Breaches.{later, fails_at, fails_from}
use Rattle.pre_check.proofs.Lists.{at_map, from_map}

-- the first line at which a fact doesn't hold, or none
abbrev pub FirstAt : (ℕ → Type 0) → Option ℕ → Type 0
FirstAt Q None = (line : ℕ) → Q line
FirstAt Q (Some line) = (Q line → ⊥) × ((other : ℕ) → other < line → Q other)

passed : (b : Bool) → not b ≡ false → b ≡ true
passed true e = refl
passed false e = absurd (true≢false e)

failed : (b : Bool) → not b ≡ true → b ≡ true → ⊥
failed true e h = true≢false (sym e)
failed false e h = true≢false (sym h)

module _ {A R : Type 0} (f : A → R) (test : R → Bool) (P : A → Type 0) (items : List A) (d : R) (sound : (i : ℕ) (a : A) → slice_get items i ≡ Some a → test (f a) ≡ true → P a) (complete : (i : ℕ) (a : A) → slice_get items i ≡ Some a → P a → test (f a) ≡ true) where
  none_fails : fails_at test (map f items) ≡ None → (i : ℕ) (a : A) → slice_get items i ≡ Some a → P a
  none_fails e i a at =
      let p : R → Bool = λ r. not (test r) in
      let xs = map f items in
      let made = at_map f items i a at in
      let inside = slice_get_within xs i (f a) made in
      elim (cases_lt (position_or_len p xs) (length xs)) [
        | inl less ↦
            let some : None ≡ Some (position_or_len p xs) = sym e ∙ ap (λ b. cond b (Some (position_or_len p xs)) None) (lt-ltb (position_or_len p xs) (length xs) less) in
            absurd (cc)
        | inr past ↦
            let fails = fails_before_first p xs i d (omega (arith, inside, past)) in
            sound i a at (passed (test (f a)) (ap p (sym (get_or_from_slice_get xs i (f a) d made)) ∙ fails))
      ]

  before_fails : (k : ℕ) → fails_at test (map f items) ≡ Some k → (i : ℕ) (a : A) → i < k → slice_get items i ≡ Some a → P a
  before_fails k e i a less at =
      let p : R → Bool = λ r. not (test r) in
      let xs = map f items in
      let first = position-Some p xs k d e in
      sound i a at (passed (test (f a)) (ap p (sym (get_or_from_slice_get xs i (f a) d (at_map f items i a at))) ∙ first.2 i less))

  one_fails : (k : ℕ) → fails_at test (map f items) ≡ Some k → (a : A) × (slice_get items k ≡ Some a) × (P a → ⊥)
  one_fails k e =
      let p : R → Bool = λ r. not (test r) in
      let xs = map f items in
      let first = position-Some p xs k d e in
      let made = from_map f items k (get_or xs k d) (slice_get-get_or xs k d first.0) in
      (made.0, made.1, λ h. failed (test (f made.0)) (ap p made.2 ∙ first.1) (complete k made.0 made.1 h))

  found : (from other : ℕ) → other ≡ from → from + length items < 2 ^ 64 → (o : Option ℕ) → fails_at test (map f items) ≡ o → FirstAt (λ line. AtLine from items line P) (option_map (later other) o)
  found from other same small None e = λ line place x at q. none_fails e place x at
  found from other same small (Some k) e =
      let one = one_fails k e in
      let inside = slice_get_within items k one.0 one.1 in
      let exact : later other k ≡ from + k = ap (λ n. later n k) same ∙ min-eq_left (omega (arith, inside, small)) in (
        λ q. one.2 (q k one.0 one.1 (sym exact)),
        λ line less place x at q. before_fails k e place x (omega (arith, less, q, exact)) at,
      )

  pub first_at : (rows : List R) → rows ≡ map f items → (from other : ℕ) → other ≡ from → from + length items < 2 ^ 64 → FirstAt (λ line. AtLine from items line P) (fails_from other test rows)
  first_at rows made from other same small =
      subst (λ l. FirstAt (λ line. AtLine from items line P) (fails_from other test l)) (sym made) (found from other same small (fails_at test (map f items)) refl)
