-- Two names with a mark between, and the places of each in the whole.
use Rattle.std.proofs.Common.{◌≡◌, ◌≢◌, ℕ, suc, ◌<◌, Bool, true, false, List, [], ◌∷◌, ◌++◌, length, take, drop}
use Rattle.std.proofs.Common.{get_or, refl, sym, ◌∙◌, ap, subst, arith, ◌≤◌, not}
use Rattle.std.specs.Str.{bytes_eq}
use Rattle.std.proofs.lemmas.Bool.{true≢false}
use Rattle.std.specs.Cmp.Lexicographic.{same_text, other_text}

pub bytes_eq-same : (xs ys : List ℕ) → xs ≡ ys → bytes_eq xs ys ≡ true
bytes_eq-same xs ys same = by_cases (bytes_eq xs ys) refl
  where
    by_cases : (b : Bool) → b ≡ bytes_eq xs ys → bytes_eq xs ys ≡ true
    by_cases true is = sym is
    by_cases false is = absurd (other_text xs ys is same)

pub bytes_eq-other : (xs ys : List ℕ) → xs ≢ ys → bytes_eq xs ys ≡ false
bytes_eq-other xs ys other = by_cases (bytes_eq xs ys) refl
  where
    by_cases : (b : Bool) → b ≡ bytes_eq xs ys → bytes_eq xs ys ≡ false
    by_cases true is = absurd (other (same_text xs ys is))
    by_cases false is = sym is

-- the places of both names and the mark
pub record Parts (from to word : List ℕ) (mark : ℕ) : Type 0 where
  pub longer : length from < length word
  pub front : take (length from) word ≡ from
  pub middle : get_or word (length from) 0 ≡ mark
  pub back : drop (suc (length from)) word ≡ to

pub parts_of : (from to : List ℕ) (mark : ℕ) → Parts from to (from ++ mark ∷ to) mark
parts_of [] to mark = record { longer = omega arith; front = refl; middle = refl; back = refl }
parts_of (x ∷ from) to mark =
    let rest = parts_of from to mark in
    record { longer = omega (arith, rest.longer); front = ap (λ l. x ∷ l) rest.front; middle = rest.middle; back = rest.back }

pub whole_of : (from to word : List ℕ) (mark : ℕ) → length from < length word → take (length from) word ≡ from → get_or word (length from) 0 ≡ mark → drop (suc (length from)) word ≡ to → from ++ mark ∷ to ≡ word
whole_of from to [] mark longer front middle back = absurd (omega (arith, longer))
whole_of [] to (y ∷ word) mark longer front middle back = λ k. sym middle k ∷ sym back k
whole_of (x ∷ from) to (y ∷ word) mark longer front middle back =
    let heads : x ≡ y = cc in
    let tails : take (length from) word ≡ from = cc in
    let rest = whole_of from to word mark (omega (arith, longer)) tails middle back in
    λ k. heads k ∷ rest k

-- what isn't made of the two names and the mark
pub not_joined : (from to word : List ℕ) (mark : ℕ) → ¬ Parts from to word mark → bytes_eq (from ++ mark ∷ to) word ≡ false
not_joined from to word mark not = bytes_eq-other (from ++ mark ∷ to) word (λ same. not (subst (λ w. Parts from to w mark) same (parts_of from to mark)))

pub too_short : (from to word : List ℕ) (mark : ℕ) → length word ≤ length from → false ≡ bytes_eq (from ++ mark ∷ to) word
too_short from to word mark short = sym (not_joined from to word mark (λ p. omega (arith, short, p.longer)))

pub other_mark : (from to word : List ℕ) (mark : ℕ) → get_or word (length from) 0 ≢ mark → false ≡ bytes_eq (from ++ mark ∷ to) word
other_mark from to word mark other = sym (not_joined from to word mark (λ p. other p.middle))

pub other_front : (from to word : List ℕ) (mark : ℕ) → true ≡ not (bytes_eq (take (length from) word) from) → false ≡ bytes_eq (from ++ mark ∷ to) word
other_front from to word mark other = sym (not_joined from to word mark (λ p. absurd (true≢false (other ∙ ap not (bytes_eq-same (take (length from) word) from p.front)))))

is_true : (b : Bool) → false ≡ not b → true ≡ b
is_true true e = refl
is_true false e = absurd (true≢false (sym e))

pub joined : (from to word : List ℕ) (mark : ℕ) → length from < length word → get_or word (length from) 0 ≡ mark → false ≡ not (bytes_eq (take (length from) word) from) → bytes_eq (drop (suc (length from)) word) to ≡ bytes_eq (from ++ mark ∷ to) word
joined from to word mark longer middle front = by_cases (bytes_eq (drop (suc (length from)) word) to) refl
  where
    same_front : take (length from) word ≡ from
    same_front = same_text (take (length from) word) from (is_true (bytes_eq (take (length from) word) from) front)

    by_cases : (b : Bool) → b ≡ bytes_eq (drop (suc (length from)) word) to → bytes_eq (drop (suc (length from)) word) to ≡ bytes_eq (from ++ mark ∷ to) word
    by_cases true is = sym is ∙ sym (bytes_eq-same (from ++ mark ∷ to) word (whole_of from to word mark longer same_front middle (same_text (drop (suc (length from)) word) to is)))
    by_cases false is = sym is ∙ sym (not_joined from to word mark (λ p. other_text (drop (suc (length from)) word) to is p.back))
