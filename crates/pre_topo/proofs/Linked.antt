-- Links whose ends are linked by an earlier row, by the set of the pairs of ends so far.
use Rattle.std.proofs.Common.{◌≡◌, ℕ, ◌+◌, ◌<◌, Bool, true, false, not, ◌&&◌, ◌||◌, List, length, get_or, take, refl, sym, ◌∙◌, ap, ap₂, subst}
use Rattle.std.specs.List.{list_any}
use Rattle.std.specs.Str.{bytes_eq}
use Rattle.std.proofs.lemmas.List.Folds.{list_any_more}
use Rattle.pre_table.specs.declared.text_sets.PairSet.{PairSet}
use Rattle.pre_table.specs.TextSets.{HasPairs}
use Rattle.pre_table.proofs.PairsAdded.{HasPairs-from, HasPairs-has}
use Rattle.pre_topo.specs.declared.raw.RawNode.{RawNode}
use Rattle.pre_topo.specs.declared.raw.RawLink.{RawLink}
use Rattle.pre_topo.specs.FileRules.{joins, has_wrong_end, ends_break}

-- the pairs of ends of some links, in both orders
abbrev pub are_linked : List RawLink → List ℕ → List ℕ → Bool
are_linked links a b = list_any (joins a b) links

both_orders : (f p q r s : Bool) → ((f || (p && q)) || (r && s)) ≡ (f || ((p && q) || (s && r)))
both_orders true p q r s = refl
both_orders false p q true true = refl
both_orders false p q true false = refl
both_orders false p q false true = refl
both_orders false p q false false = refl

-- one more link, in both orders
pub linked_more : (set : PairSet) (links : List RawLink) (i : ℕ) (l : RawLink) (first second : List ℕ) → l ≡ get_or links i l → first ≡ l.first → second ≡ l.second → i < length links →
    HasPairs set (λ a b. (are_linked (take i links) a b || (bytes_eq first a && bytes_eq second b)) || (bytes_eq second a && bytes_eq first b)) → HasPairs set (are_linked (take (i + 1) links))
linked_more set links i l first second here left right within held =
    HasPairs-from set (are_linked (take (i + 1) links)) (λ a b.
    HasPairs-has set _ held a b
    ∙ both_orders (are_linked (take i links) a b) (bytes_eq first a) (bytes_eq second b) (bytes_eq second a) (bytes_eq first b)
    ∙ ap₂ (λ x y. are_linked (take i links) a b || ((bytes_eq x a && bytes_eq y b) || (bytes_eq x b && bytes_eq y a))) left right
    ∙ ap (λ k. are_linked (take i links) a b || joins a b k) here
    ∙ sym (list_any_more (joins a b) links i l within))

or_true : (b : Bool) → (b || true) ≡ true
or_true true = refl
or_true false = refl

twice : (b : Bool) → not (not b) ≡ b
twice true = refl
twice false = refl

module _ (nodes : List RawNode) (links : List RawLink) (i : ℕ) (l : RawLink) (first second : List ℕ) (here : l ≡ get_or links i l) (left : first ≡ l.first) (right : second ≡ l.second) where
  breaks_is : ends_break nodes links i l ≡ (has_wrong_end nodes l || are_linked (take i links) l.first l.second)
  breaks_is = refl

  -- an end that isn't a node, or one end
  pub wrong_end_breaks : has_wrong_end nodes l ≡ true → ends_break nodes links i (get_or links i l) ≡ true
  wrong_end_breaks wrong = subst (λ k. ends_break nodes links i k ≡ true) here (breaks_is ∙ ap (λ b. b || are_linked (take i links) l.first l.second) wrong)

  module _ (added : Bool) (added_is : added ≡ not (are_linked (take i links) first second)) where
    linked : are_linked (take i links) l.first l.second ≡ not added
    linked = ap₂ (are_linked (take i links)) (sym left) (sym right) ∙ sym (twice (are_linked (take i links) first second)) ∙ sym (ap not added_is)

    -- linked by an earlier row
    pub linked_breaks : added ≡ false → ends_break nodes links i (get_or links i l) ≡ true
    linked_breaks old = subst (λ k. ends_break nodes links i k ≡ true) here (breaks_is ∙ ap (λ b. has_wrong_end nodes l || b) (linked ∙ ap not old) ∙ or_true (has_wrong_end nodes l))

    -- not linked before
    pub link_holds : has_wrong_end nodes l ≡ false → added ≡ true → ends_break nodes links i (get_or links i l) ≡ false
    link_holds right_ends new = subst (λ k. ends_break nodes links i k ≡ false) here (breaks_is ∙ ap₂ (λ a b. a || b) right_ends (linked ∙ ap not new))
