-- A set of texts, after one more is added.
use Rattle.std.proofs.Common.{◌≡◌, ℕ, Bool, true, false, cond, List, [], ◌∷◌, ◌++◌, ◌||◌, refl, sym, ap, ◌∙◌}
use Rattle.std.specs.List.{list_any}
use Rattle.std.specs.Str.{bytes_eq}
use Rattle.std.specs.BTreeSet.{contains_text}
use Rattle.std.proofs.lemmas.List.Folds.{list_any-append}
use Rattle.pre_table.specs.declared.text_sets.TextSet.{TextSet}
use Rattle.pre_table.specs.TextSets.{IsSetOf}

pub IsSetOf-from : (set : TextSet) (texts : List (List ℕ)) → ((text : List ℕ) → contains_text set.texts text ≡ list_any (λ t. bytes_eq t text) texts) → IsSetOf set texts
unfolding IsSetOf
IsSetOf-from set texts h = h

pub IsSetOf-has : (set : TextSet) (texts : List (List ℕ)) → IsSetOf set texts → (text : List ℕ) → contains_text set.texts text ≡ list_any (λ t. bytes_eq t text) texts
unfolding IsSetOf
IsSetOf-has set texts h = h

either : (a b : Bool) → cond a true b ≡ (b || (a || false))
either true true = refl
either true false = refl
either false true = refl
either false false = refl

pub one_more : (old new : TextSet) (texts : List (List ℕ)) (w : List ℕ) →
    ((text : List ℕ) → contains_text new.texts text ≡ cond (bytes_eq w text) true (contains_text old.texts text)) → IsSetOf old texts → IsSetOf new (texts ++ w ∷ [])
one_more old new texts w updates held =
    IsSetOf-from new (texts ++ w ∷ []) (λ text.
    updates text
    ∙ ap (cond (bytes_eq w text) true) (IsSetOf-has old texts held text)
    ∙ either (bytes_eq w text) (list_any (λ t. bytes_eq t text) texts)
    ∙ sym (list_any-append (λ t. bytes_eq t text) texts (w ∷ [])))
