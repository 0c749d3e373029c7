-- Rows with their numbers: sums and tests over them, one row further, and at one row.
use Rattle.std.proofs.Common.{◌≡◌, ℕ, zero, suc, ◌+◌, ◌<◌, Bool, true, false, List, [], ◌∷◌, Some, refl, sym, ◌∙◌, ap, subst, arith, inl, inr, length, get_or, take}
use Rattle.std.specs.Prelude.{slice_get, sum_by, filter, ◌||◌}
use Rattle.std.specs.List.{list_any, enumerate_from}
use Rattle.std.proofs.lemmas.Bool.{cases_Bool, or_from, or_left, or_right, true≢false}
use Rattle.std.proofs.lemmas.List.Sums.{fold-append}
use Rattle.std.proofs.lemmas.List.Folds.{list_any-append, Any-from_list_any}
use Rattle.pre_streams.specs.declared.rows.Row.{Row}
use Rattle.pre_bound.specs.Uses.{is_on, hop_of}
use Rattle.pre_bound.proofs.Placed.{enumerated}
use Rattle.pre_certify.proofs.Listing.{numbered_more, numbered_yes, numbered_no}
use Rattle.pre_rounds.specs.Rounds.{Bursts, bursts_over}

pub bursts-yes : (b : Bursts) (arc low high : ℕ) (rows : List Row) (k : ℕ) (r : Row) → k < length rows → r ≡ get_or rows k r → is_on arc low high r ≡ true
    → bursts_over b arc low high (take (k + 1) rows) ≡ bursts_over b arc low high (take k rows) + b k (hop_of arc r)
bursts-yes b arc low high rows k r inside at on =
    ap (sum_by (λ (e : ℕ × Row). b e.0 (hop_of arc e.1))) (numbered_yes (is_on arc low high) rows k r inside at on)
    ∙ fold-append (λ n (e : ℕ × Row). n + b e.0 (hop_of arc e.1)) 0 (filter (λ e. is_on arc low high e.1) (enumerate_from 0 (take k rows))) ((k, r) ∷ [])

pub bursts-no : (b : Bursts) (arc low high : ℕ) (rows : List Row) (k : ℕ) (r : Row) → k < length rows → r ≡ get_or rows k r → is_on arc low high r ≡ false
    → bursts_over b arc low high (take (k + 1) rows) ≡ bursts_over b arc low high (take k rows)
bursts-no b arc low high rows k r inside at off =
    ap (sum_by (λ (e : ℕ × Row). b e.0 (hop_of arc e.1))) (numbered_no (is_on arc low high) rows k r inside at off)

-- a row that fails the test behind others that do
pub any_more : (p : ℕ × Row → Bool) (rows : List Row) (k : ℕ) (r : Row) → k < length rows → r ≡ get_or rows k r → list_any p (enumerate_from 0 (take k rows)) ≡ false → p (k, r) ≡ false
    → list_any p (enumerate_from 0 (take (k + 1) rows)) ≡ false
any_more p rows k r inside at before here =
    ap (list_any p) (numbered_more 0 rows k k r inside at (omega arith)) ∙ list_any-append p (enumerate_from 0 (take k rows)) ((k, r) ∷ [])
    ∙ or_from (list_any p (enumerate_from 0 (take k rows))) (p (k, r) || false) before (or_from (p (k, r)) false here refl)

any_from : {X : Type 0} (p : ℕ × X → Bool) (n : ℕ) (xs : List X) (i k : ℕ) (x : X) → n + i ≡ k → slice_get xs i ≡ Some x → p (k, x) ≡ true → list_any p (enumerate_from n xs) ≡ true
any_from p n [] i k x e at on = absurd (cc)
any_from {X} p n (y ∷ xs) zero k x e at on =
    let same : y ≡ x = cc in
    let number : n ≡ k = omega arith in
    let make : ℕ → X → ℕ × X = λ m z. (m, z) in
    let eq : (n, y) ≡ (k, x) = ap (λ m. make m y) number ∙ ap (make k) same in
    or_left (p (n, y)) (list_any p (enumerate_from (n + 1) xs)) (ap p eq ∙ on)
any_from p n (y ∷ xs) (suc i) k x e at on = or_right (p (n, y)) (list_any p (enumerate_from (n + 1) xs)) (any_from p (n + 1) xs i k x (omega arith) at on)

-- a row that passes is some row that does
pub any_numbered : (p : ℕ × Row → Bool) (rows : List Row) (k : ℕ) (r : Row) → slice_get rows k ≡ Some r → p (k, r) ≡ true → list_any p (enumerate_from 0 rows) ≡ true
any_numbered p rows k r at on = any_from p 0 rows k k r (omega arith) at on

pub none_numbered : (p : ℕ × Row → Bool) (rows : List Row) (k : ℕ) (r : Row) → slice_get rows k ≡ Some r → list_any p (enumerate_from 0 rows) ≡ false → p (k, r) ≡ false
none_numbered p rows k r at none =
    elim (cases_Bool (p (k, r))) [
      | inl passes ↦ absurd (true≢false (sym (any_numbered p rows k r at passes) ∙ none))
      | inr fails ↦ fails
    ]

-- where some row passes, one does
pub record Passes (p : ℕ × Row → Bool) (rows : List Row) : Type 0 where
  pub stream : ℕ
  pub row : Row
  pub at : slice_get rows stream ≡ Some row
  pub passes : p (stream, row) ≡ true

pub some_numbered : (p : ℕ × Row → Bool) (rows : List Row) → list_any p (enumerate_from 0 rows) ≡ true → Passes p rows
some_numbered p rows some =
    let found = Any-from_list_any p (enumerate_from 0 rows) some in
    let place = enumerated 0 rows found.0 found.1 found.2 found.3 in
    let number : place.0 ≡ (found.1).0 = omega (arith, place.1) in
    record { stream = (found.1).0; row = (found.1).1; at = subst (λ n. slice_get rows n ≡ Some (found.1).1) number place.2; passes = found.4 }
