-- A text and a line, cut at their first line end or space.
use Rattle.std.proofs.Common.{◌≡◌, ◌≢◌, ◌⊎◌, inl, inr, ⊎_elim, ℕ, suc, ◌+◌, ◌<◌, ◌≤◌, Bool, true, false, cond}
use Rattle.std.proofs.Common.{◌==◌, List, [], ◌∷◌, length, map, filter, refl, sym, ◌∙◌, ap, arith, Some}
use Rattle.std.specs.List.{slice_split, onto_first, before_first, after_first, position_or_len, slice_get}
use Rattle.std.specs.Str.Lines.{strip_carriage_return}
use Rattle.std.proofs.lemmas.List.{take_all, drop_all}
use Rattle.std.proofs.lemmas.List.Splits.{slice_split_none, slice_split_first}
use Rattle.std.proofs.lemmas.List.Sums.{fails_before_first}
use Rattle.std.proofs.lemmas.Bool.{cases_lt}
use Rattle.std.proofs.lemmas.Bool.Decides.{nat_tests}
use Rattle.pre_text.specs.Lines.{cut_at, without_empty_end, lines_of, is_nonempty, words_of}

-- there is a first part
pub parts_of : (p : ℕ → Bool) (xs : List ℕ) → (part : List ℕ) × (parts : List (List ℕ)) × (slice_split p xs ≡ part ∷ parts)
parts_of p [] = ([], [], refl)
parts_of p (x ∷ xs) =
    let rest = parts_of p xs in
    elim (p x) as (λ b. (part : List ℕ) × (parts : List (List ℕ)) × (cond b ([] ∷ slice_split p xs) (onto_first x (slice_split p xs)) ≡ part ∷ parts)) [
      | true ↦ ([], slice_split p xs, refl)
      | false ↦ (x ∷ rest.0, rest.1, ap (onto_first x) rest.2)
    ]

all_one : (p : ℕ → Bool) (xs : List ℕ) → length xs ≤ position_or_len p xs → (slice_split p xs ≡ before_first p xs ∷ []) × (before_first p xs ≡ xs) × (after_first p xs ≡ [])
all_one p xs h =
    let whole = take_all (position_or_len p xs) xs h in (
      slice_split_none p xs (λ k d lt. fails_before_first p xs k d (omega arith)) ∙ ap (λ (l : List ℕ). l ∷ []) (sym whole),
      whole,
      drop_all (position_or_len p xs + 1) xs (omega arith),
    )

-- the first part goes up to the first octet that passes, or it is all
first_part : (p : ℕ → Bool) (xs : List ℕ) → (slice_split p xs ≡ before_first p xs ∷ slice_split p (after_first p xs)) ⊎ ((slice_split p xs ≡ before_first p xs ∷ []) × (before_first p xs ≡ xs) × (after_first p xs ≡ []))
first_part p xs = ⊎_elim (λ h. inl (slice_split_first p xs 0 h)) (λ h. inr (all_one p xs h)) (cases_lt (position_or_len p xs) (length xs))

-- a part before others is a line
pub goes_on : (part : List ℕ) (more : List (List ℕ)) (next : List ℕ) (parts : List (List ℕ)) → more ≡ next ∷ parts → without_empty_end (part ∷ more) ≡ part ∷ without_empty_end more
goes_on part more next parts e = rw e refl

lines_more : (before after : List ℕ) (parts : List (List ℕ)) → parts ≡ before ∷ cut_at 10 after → map strip_carriage_return (without_empty_end parts) ≡ strip_carriage_return before ∷ lines_of after
lines_more before after parts e =
    let next = parts_of (λ b. b == 10) after in
    ap (λ (l : List (List ℕ)). map strip_carriage_return (without_empty_end l)) e ∙ ap (map strip_carriage_return) (goes_on before (cut_at 10 after) next.0 next.1 next.2)

lines_last : (b : ℕ) (bs before after : List ℕ) (parts : List (List ℕ)) → parts ≡ before ∷ [] → before ≡ b ∷ bs → after ≡ [] → map strip_carriage_return (without_empty_end parts) ≡ strip_carriage_return before ∷ lines_of after
lines_last b bs before after parts e is nothing = rw (e, is, nothing) refl

-- a text that isn't empty has a first line, and the others are those of what follows it
pub lines_step : (xs : List ℕ) → 0 < length xs → lines_of xs ≡ strip_carriage_return (before_first (λ b. b == 10) xs) ∷ lines_of (after_first (λ b. b == 10) xs)
lines_step [] some = absurd (omega arith)
lines_step (x ∷ xs) some =
    ⊎_elim (lines_more (before_first (λ b. b == 10) (x ∷ xs)) (after_first (λ b. b == 10) (x ∷ xs)) (cut_at 10 (x ∷ xs)))
    (λ w. lines_last x xs (before_first (λ b. b == 10) (x ∷ xs)) (after_first (λ b. b == 10) (x ∷ xs)) (cut_at 10 (x ∷ xs)) w.0 w.1 w.2)
    (first_part (λ b. b == 10) (x ∷ xs))

-- the first part begins with the first octet, which isn't a space
words_more : (b : ℕ) (bs : List ℕ) (after : List ℕ) (parts : List (List ℕ)) → parts ≡ (b ∷ bs) ∷ cut_at 32 after → filter is_nonempty parts ≡ (b ∷ bs) ∷ words_of after
words_more b bs after parts e = ap (filter is_nonempty) e

words_last : (b : ℕ) (bs after : List ℕ) (parts : List (List ℕ)) → parts ≡ (b ∷ bs) ∷ [] → after ≡ [] → filter is_nonempty parts ≡ (b ∷ bs) ∷ words_of after
words_last b bs after parts e nothing = rw (e, nothing) refl

begins : (p : ℕ → Bool) (x : ℕ) (xs : List ℕ) → p x ≡ false → (bs : List ℕ) × (before_first p (x ∷ xs) ≡ x ∷ bs)
begins p x xs fails =
    let next : 1 + position_or_len p xs ≡ suc (position_or_len p xs) = omega arith in
    (before_first p xs, rw (fails, next) refl)

no_space : (x : ℕ) → Some x ≢ Some 32 → (x == 32) ≡ false
no_space x other = let ne : x ≢ 32 = λ e. other (ap Some e) in grind (arith, nat_tests)

pub words_step : (xs : List ℕ) → 0 < length xs → slice_get xs 0 ≢ Some 32 → words_of xs ≡ before_first (λ b. b == 32) xs ∷ words_of (after_first (λ b. b == 32) xs)
words_step [] some other = absurd (omega arith)
words_step (x ∷ xs) some other =
    let p : ℕ → Bool = λ b. b == 32 in
    let front = begins p x xs (no_space x other) in
    rw front.1
    (⊎_elim (λ e. words_more x front.0 (after_first p (x ∷ xs)) (cut_at 32 (x ∷ xs)) (e ∙ ap (λ (l : List ℕ). l ∷ cut_at 32 (after_first p (x ∷ xs))) front.1))
    (λ w. words_last x front.0 (after_first p (x ∷ xs)) (cut_at 32 (x ∷ xs)) (w.0 ∙ ap (λ (l : List ℕ). l ∷ []) front.1) w.2)
    (first_part p (x ∷ xs)))
