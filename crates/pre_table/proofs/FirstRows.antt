-- The first row that breaks a rule, found by going through the rows.
use Rattle.std.proofs.Common.{◌≡◌, ℕ, ◌+◌, ◌<◌, ◌≤◌, Bool, true, false, List, [], ◌∷◌, length, get_or, cond, nat_lt}
use Rattle.std.proofs.Common.{Some, None, refl, sym, ◌∙◌, ap, subst, arith, ◌⊎◌, inl, inr}
use Rattle.std.specs.List.{position_or_len, enumerate_from}
use Rattle.std.proofs.lemmas.List.FromFn.{length-enumerate_from, get_or-enumerate_from}
use Rattle.std.proofs.lemmas.List.{get_or_default}
use Rattle.std.proofs.lemmas.List.Sums.{position_or_len_is}
use Rattle.std.proofs.lemmas.Bool.{lt-ltb, ltb-true, cases_order}
use Rattle.pre_table.specs.FirstFaults.{first_row}

not_true : (b : Bool) → (b ≡ true → ⊥) → b ≡ false
not_true true h = absurd (h refl)
not_true false h = refl

module _ {X : Type 0} (breaks : ℕ → X → Bool) (rows : List X) (i : ℕ) (d : X) (none : (k : ℕ) (e : X) → k < i → breaks k (get_or rows k e) ≡ false) where
  abbrev numbered : List (ℕ × X)
  numbered = enumerate_from 0 rows

  abbrev test : ℕ × X → Bool
  test r = breaks r.0 r.1

  row_is : (k : ℕ) → k < length rows → test (get_or numbered k (0, d)) ≡ breaks k (get_or rows k d)
  row_is k h = ap test (get_or-enumerate_from 0 rows k (0, d) h) ∙ ap (λ n. breaks n (get_or rows k d)) {x = 0 + k} {y = k} (omega arith)

  same_length : length numbered ≡ length rows
  same_length = length-enumerate_from 0 rows

  place_is : i ≤ length rows → (i < length rows → breaks i (get_or rows i d) ≡ true) → position_or_len test numbered ≡ i
  place_is h last =
      position_or_len_is test numbered i (0, d) (omega (arith, same_length))
      (λ k less. row_is k (omega arith) ∙ none k d less)
      (λ less. let within : i < length rows = omega (arith, same_length, less) in row_is i within ∙ last within)

  -- the first that breaks it
  pub first_row_at : i < length rows → breaks i (get_or rows i d) ≡ true → first_row breaks rows ≡ Some i
  first_row_at h last =
      ap (λ n. cond (nat_lt n (length numbered)) (Some n) None) (place_is (omega arith) (λ less. last))
      ∙ ap (λ b. cond b (Some i) None) (lt-ltb i (length numbered) (omega (arith, same_length)))

  -- none of the first i breaks it, and not the next one
  pub none_further : breaks i (get_or rows i d) ≡ false → i < length rows → (k : ℕ) (e : X) → k < i + 1 → breaks k (get_or rows k e) ≡ false
  none_further last within k e below = by_cases (cases_order k i)
    where
      by_cases : (k ≡ i) ⊎ ((k < i) ⊎ (i < k)) → breaks k (get_or rows k e) ≡ false
      by_cases (inr (inl less)) = none k e less
      by_cases (inr (inr more)) = absurd (omega (arith, below, more))
      by_cases (inl same) = subst (λ n. breaks n (get_or rows n e) ≡ false) (sym same) (ap (breaks i) (get_or_default rows i e d within) ∙ last)

  no_row : i ≡ length rows → first_row breaks rows ≡ None
  no_row h =
      ap (λ n. cond (nat_lt n (length numbered)) (Some n) None) (place_is (omega arith) (λ less. absurd (omega (arith, h, less))))
      ∙ ap (λ b. cond b (Some i) None) (not_true (nat_lt i (length numbered)) (λ t. omega (arith, same_length, h, ltb-true i (length numbered) t)))

-- none breaks it
pub first_row_none : {X : Type 0} (breaks : ℕ → X → Bool) (rows : List X) (i : ℕ) →
    ((k : ℕ) (e : X) → k < i → breaks k (get_or rows k e) ≡ false) → i ≡ length rows → first_row breaks rows ≡ None
first_row_none breaks [] i none end = refl
first_row_none breaks (r ∷ rows) i none end = no_row breaks (r ∷ rows) i r none end
