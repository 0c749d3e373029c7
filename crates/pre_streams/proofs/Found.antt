-- What was looked for in each of a list.
use Rattle.std.proofs.lemmas.Bool.{cases_order}
use Rattle.std.proofs.lemmas.List.{get_or_default}
use Rattle.std.proofs.Common.{◌≡◌, ℕ, ◌<◌, ◌+◌, List, length, slice_index_or, Option, Some, None, IfNone, Any, sym, ◌∙◌, subst, arith, ◌⊎◌, inl, inr}

-- what follows where nothing was found
pub IfNone-map : {X P Q : Type 0} (found : Option X) → (P → Q) → IfNone found P → IfNone found Q
IfNone-map None f p = f p
IfNone-map (Some x) f p = p

-- none of the first n, and not the next one
pub none_up_to : {X : Type 0} (P : X → Type 0) (xs : List X) (n : ℕ) (x : X) → n < length xs → x ≡ slice_index_or xs n x → ((k : ℕ) (d : X) → k < n → ¬ P (slice_index_or xs k d)) → ¬ P x → (k : ℕ) (d : X) → k < n + 1 → ¬ P (slice_index_or xs k d)
none_up_to {X} P xs n x lt is before here k d below = by_cases (cases_order k n)
  where
    by_cases : (k ≡ n) ⊎ ((k < n) ⊎ (n < k)) → ¬ P (slice_index_or xs k d)
    by_cases (inr (inl less)) = before k d less
    by_cases (inr (inr more)) = absurd (omega (arith, below, more))
    by_cases (inl same) = λ p. here (subst P (sym (is ∙ get_or_default xs n x d lt)) (subst (λ i. P (slice_index_or xs i d)) same p))

pub none_of_all : {X : Type 0} (P : X → Type 0) (xs : List X) (n : ℕ) → ¬ (n < length xs) → ((k : ℕ) (d : X) → k < n → ¬ P (slice_index_or xs k d)) → ¬ Any P xs
none_of_all P xs n end before any = before any.0 any.1 (omega (arith, end, any.2)) (subst P (sym any.3) any.4)
