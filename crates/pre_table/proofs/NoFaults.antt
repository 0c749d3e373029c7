-- What holds where there is no first fault.
use Rattle.std.specs.Prelude.{not, position, All, IsTrue, slice_index_or}
use Rattle.std.specs.List.{position_or_len, enumerate_from, list_any}
use Rattle.std.proofs.Common.{◌≡◌, ℕ, zero, suc, ◌<◌, Bool, true, false, List, [], ◌∷◌, length, take, Option, Some, None}
use Rattle.std.proofs.Common.{option_map, nat_lt, refl, sym, ◌∙◌, ap, subst, cond, zero-add}
use Rattle.std.proofs.Math.Nat.{le_trans, not-suc-le-zero, le_of_suc-le-suc}
use Rattle.std.proofs.lemmas.Bool.{not-false, or_parts, ltb-false}
use Rattle.std.proofs.lemmas.Option.{none-some}
use Rattle.std.proofs.lemmas.List.FromFn.{length-enumerate_from, get_or-enumerate_from}
use Rattle.std.proofs.lemmas.List.Sums.{fails_before_first}
use Rattle.pre_table.specs.FirstFaults.{first_of, first_row}

-- none of the faults is there
pub first_none : {A : Type 0} (o : Option A) (os : List (Option A)) → first_of (o ∷ os) ≡ None → (o ≡ None) × (first_of os ≡ None)
first_none None os none = (refl, none)
first_none (Some x) os none = absurd (none-some x (sym none))

pub map_none : {A B : Type 0} (f : A → B) (o : Option A) → option_map f o ≡ None → o ≡ None
map_none f None none = refl
map_none f (Some x) none = absurd (none-some (f x) (sym none))

-- a fault that is due unless a test holds
pub unless_none : {A : Type 0} (b : Bool) (fault : A) → cond b None (Some fault) ≡ None → IsTrue b
unless_none true fault none = refl
unless_none false fault none = absurd (none-some fault (sym none))

none_from_cond : {A : Type 0} (b : Bool) (x : A) → cond b (Some x) None ≡ None → b ≡ false
none_from_cond true x none = absurd (none-some x (sym none))
none_from_cond false x none = refl

-- where no element passes a test
pub none_passes : {X : Type 0} (p : X → Bool) (xs : List X) → position p xs ≡ None → (k : ℕ) (d : X) → k < length xs → p (slice_index_or xs k d) ≡ false
none_passes p xs none k d within =
    fails_before_first p xs k d (le_trans within (ltb-false (position_or_len p xs) (length xs) (none_from_cond (nat_lt (position_or_len p xs) (length xs)) (position_or_len p xs) none)))

pub none_fails : {X : Type 0} (p : X → Bool) (xs : List X) → position (λ x. not (p x)) xs ≡ None → All (λ x. IsTrue (p x)) xs
none_fails p xs none k d within = not-false (p (slice_index_or xs k d)) (none_passes (λ x. not (p x)) xs none k d within)

-- where no row breaks a rule
pub none_breaks : {X : Type 0} (breaks : ℕ → X → Bool) (xs : List X) → first_row breaks xs ≡ None → (k : ℕ) (d : X) → k < length xs → breaks k (slice_index_or xs k d) ≡ false
none_breaks {X} breaks xs none k d within =
    let row = get_or-enumerate_from 0 xs k (0, d) within in
    let numbered = subst (λ n. k < n) (sym (length-enumerate_from 0 xs)) within in
    ap (λ i. breaks i (slice_index_or xs k d)) (sym (zero-add k))
    ∙ ap (λ (r : ℕ × X). breaks r.0 r.1) (sym row)
    ∙ none_passes (λ (r : ℕ × X). breaks r.0 r.1) (enumerate_from 0 xs) none k (0, d) numbered

-- where none of the elements before a place passes a test
pub none_before : {X : Type 0} (p : X → Bool) (xs : List X) (j : ℕ) → list_any p (take j xs) ≡ false → (i : ℕ) (d : X) → i < j → i < length xs → p (slice_index_or xs i d) ≡ false
none_before p [] j none i d before within = absurd (not-suc-le-zero within)
none_before p (x ∷ xs) zero none i d before within = absurd (not-suc-le-zero before)
none_before p (x ∷ xs) (suc j) none zero d before within = (or_parts (p x) (list_any p (take j xs)) none).0
none_before p (x ∷ xs) (suc j) none (suc i) d before within = none_before p xs j (or_parts (p x) (list_any p (take j xs)) none).1 i d (le_of_suc-le-suc before) (le_of_suc-le-suc within)
