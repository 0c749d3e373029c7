-- Rows whose name isn't one or was given before, by the set of the names so far.
use Rattle.std.proofs.Common.{◌≡◌, ℕ, ◌+◌, ◌<◌, Bool, true, false, not, ◌||◌, List, [], ◌∷◌, ◌++◌, length, get_or, map, take, refl, sym, ◌∙◌, ap, ap₂, subst}
use Rattle.std.specs.List.{list_any}
use Rattle.std.specs.Str.{bytes_eq}
use Rattle.std.proofs.lemmas.List.{map_more}
use Rattle.pre_table.specs.declared.text_sets.TextSet.{TextSet}
use Rattle.pre_table.specs.TextSets.{IsSetOf}

-- a text is one of the names where a row has it as its name
pub any_named : {X : Type 0} (name : X → List ℕ) (text : List ℕ) (rows : List X) → list_any (λ t. bytes_eq t text) (map name rows) ≡ list_any (λ r. bytes_eq (name r) text) rows
any_named name text [] = refl
any_named name text (r ∷ rows) = ap (λ b. bytes_eq (name r) text || b) (any_named name text rows)

-- the set of the names so far, after one more
pub set_more : {X : Type 0} (name : X → List ℕ) (set : TextSet) (rows : List X) (i : ℕ) (d : X) → i < length rows →
    IsSetOf set (map name (take i rows) ++ name (get_or rows i d) ∷ []) → IsSetOf set (map name (take (i + 1) rows))
set_more name set rows i d h held = subst (IsSetOf set) (sym (map_more name rows i d h)) held

twice : (b : Bool) → not (not b) ≡ b
twice true = refl
twice false = refl

or_true : (b : Bool) → (b || true) ≡ true
or_true true = refl
or_true false = refl

module _ {X : Type 0} (name : X → List ℕ) (is_name : List ℕ → Bool) (rows : List X) (i : ℕ) (d : X) (text : List ℕ) (here : d ≡ get_or rows i d) (is : text ≡ name d) where
  abbrev breaks : ℕ → X → Bool
  breaks place r = not (is_name (name r)) || list_any (λ s. bytes_eq (name s) (name r)) (take place rows)

  -- its name isn't one
  pub unnamed_breaks : is_name text ≡ false → breaks i (get_or rows i d) ≡ true
  unnamed_breaks bad = subst (λ r. breaks i r ≡ true) here (ap (λ b. not b || list_any (λ s. bytes_eq (name s) (name d)) (take i rows)) (ap is_name (sym is) ∙ bad))

  module _ (first : Bool) (first_is : first ≡ not (list_any (λ t. bytes_eq t text) (map name (take i rows)))) where
    seen : list_any (λ s. bytes_eq (name s) (name d)) (take i rows) ≡ not first
    seen =
        sym (any_named name (name d) (take i rows))
        ∙ ap (λ w. list_any (λ t. bytes_eq t w) (map name (take i rows))) (sym is)
        ∙ sym (twice (list_any (λ t. bytes_eq t text) (map name (take i rows))))
        ∙ sym (ap not first_is)

    -- its name was given before
    pub repeated_breaks : first ≡ false → breaks i (get_or rows i d) ≡ true
    repeated_breaks bad = subst (λ r. breaks i r ≡ true) here (ap (λ b. not (is_name (name d)) || b) (seen ∙ ap not bad) ∙ or_true (not (is_name (name d))))

    -- its name is one, and wasn't given before
    pub new_holds : is_name text ≡ true → first ≡ true → breaks i (get_or rows i d) ≡ false
    new_holds good new = subst (λ r. breaks i r ≡ false) here (ap₂ (λ a b. not a || b) (ap is_name (sym is) ∙ good) (seen ∙ ap not new))
