-- A set of pairs of texts, after one more is added.
use Rattle.std.proofs.Common.{◌≡◌, ℕ, Bool, true, false, ◌&&◌, ◌||◌, List, [], ◌∷◌, refl, sym, ap, ap₂, ◌∙◌, String, Global, string_bytes, true≢false}
use Rattle.std.specs.List.{list_any}
use Rattle.std.specs.Str.{bytes_eq}
use Rattle.std.specs.String.{string_cmp}
use Rattle.std.specs.Ordering.{is_eq, ordering_then}
use Rattle.std.specs.BTreeMap.{is_at}
use Rattle.std.specs.BTreeSet.{insert_key}
use Rattle.std.specs.declared.cmp.Ordering.{Ordering}
use Rattle.std.specs.declared.cmp.Ordering.TheVariants.{Less, Equal, Greater}
use Rattle.std.proofs.lemmas.Map.Text.{is_eq-slice_cmp}
use Rattle.std.specs.Cmp.Lexicographic.{bytes_decides}
use Rattle.std.proofs.lemmas.Cmp.{nat_list_eq_equiv}
use Rattle.pre_table.specs.declared.text_sets.PairSet.{PairSet}
use Rattle.pre_table.specs.TextSets.{HasPairs}
use Rattle.pre_table.proofs.Inserted.{any_inserted}

pub HasPairs-from : (set : PairSet) (has : List ℕ → List ℕ → Bool) →
    ((a b : List ℕ) → list_any (λ k. bytes_eq a (string_bytes k.0) && bytes_eq b (string_bytes k.1)) set.pairs.keys ≡ has a b) → HasPairs set has
unfolding HasPairs
HasPairs-from set has h = h

pub HasPairs-has : (set : PairSet) (has : List ℕ → List ℕ → Bool) → HasPairs set has →
    (a b : List ℕ) → list_any (λ k. bytes_eq a (string_bytes k.0) && bytes_eq b (string_bytes k.1)) set.pairs.keys ≡ has a b
unfolding HasPairs
HasPairs-has set has h = h

abbrev pub Texts : Type 0
Texts = String Global × String Global

abbrev pub pair_cmp : Texts → Texts → Ordering
pair_cmp x y = ordering_then (string_cmp x.0 y.0) (string_cmp x.1 y.1)

abbrev pub is_pair : List ℕ → List ℕ → Texts → Bool
is_pair a b k = bytes_eq a (string_bytes k.0) && bytes_eq b (string_bytes k.1)

is_both : (o p : Ordering) → is_eq (ordering_then o p) ≡ (is_eq o && is_eq p)
is_both Less p = refl
is_both Equal p = refl
is_both Greater p = refl

both : (p q : Bool) → (p && q) ≡ true → (p ≡ true) × (q ≡ true)
both true q h = (refl, h)
both false q h = absurd (true≢false (sym h))

-- two pairs compare equal where their texts are the same
compared : (x y : Texts) → is_eq (pair_cmp x y) ≡ is_pair (string_bytes x.0) (string_bytes x.1) y
compared x y =
    is_both (string_cmp x.0 y.0) (string_cmp x.1 y.1)
    ∙ ap₂ (λ p q. p && q) (is_eq-slice_cmp (string_bytes x.0) (string_bytes y.0)) (is_eq-slice_cmp (string_bytes x.1) (string_bytes y.1))

any_same : {X : Type 0} (p q : X → Bool) → ((x : X) → p x ≡ q x) → (xs : List X) → list_any p xs ≡ list_any q xs
any_same p q h [] = refl
any_same p q h (x ∷ xs) = ap₂ (λ a b. a || b) (h x) (any_same p q h xs)

-- whether a pair is in the set
pub pair_found : (set : PairSet) (has : List ℕ → List ℕ → Bool) → HasPairs set has →
    (k : Texts) (a b : List ℕ) → string_bytes k.0 ≡ a → string_bytes k.1 ≡ b → list_any (is_at (pair_cmp k)) set.pairs.keys ≡ has a b
pair_found set has held k a b left right =
    any_same (is_at (pair_cmp k)) (is_pair (string_bytes k.0) (string_bytes k.1)) (compared k) set.pairs.keys
    ∙ HasPairs-has set has held (string_bytes k.0) (string_bytes k.1)
    ∙ ap₂ has left right

equal_pairs : (a b : List ℕ) (k x : Texts) → pair_cmp k x ≡ Equal → is_pair a b x ≡ is_pair a b k
equal_pairs a b k x h =
    let parts = both (bytes_eq (string_bytes k.0) (string_bytes x.0)) (bytes_eq (string_bytes k.1) (string_bytes x.1)) (sym (compared k x) ∙ ap is_eq h) in
    ap₂ (λ s t. bytes_eq a s && bytes_eq b t) (sym ((bytes_decides (string_bytes k.0) (string_bytes x.0)).0 parts.0)) (sym ((bytes_decides (string_bytes k.1) (string_bytes x.1)).0 parts.1))

turned : (a b : List ℕ) (k : Texts) (first second : List ℕ) → string_bytes k.0 ≡ first → string_bytes k.1 ≡ second → is_pair a b k ≡ (bytes_eq first a && bytes_eq second b)
turned a b k first second left right =
    ap₂ (λ s t. bytes_eq a s && bytes_eq b t) left right
    ∙ ap₂ (λ p q. p && q) (nat_list_eq_equiv.symm a first) (nat_list_eq_equiv.symm b second)

pub pair_added : (old new : PairSet) (has : List ℕ → List ℕ → Bool) (k : Texts) (first second : List ℕ) → string_bytes k.0 ≡ first → string_bytes k.1 ≡ second →
    new.pairs.keys ≡ insert_key pair_cmp old.pairs.keys k → HasPairs old has → HasPairs new (λ a b. has a b || (bytes_eq first a && bytes_eq second b))
pair_added old new has k first second left right keys held =
    HasPairs-from new _ (λ a b.
    ap (list_any (is_pair a b)) keys
    ∙ any_inserted pair_cmp (is_pair a b) k (equal_pairs a b k) old.pairs.keys
    ∙ ap₂ (λ p q. p || q) (HasPairs-has old has held a b) (turned a b k first second left right))
