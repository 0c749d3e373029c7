-- The texts of a list as a set, and sets of pairs of texts.
use Rattle.std.specs.Prelude.{◌≡◌, ℕ, Bool, ◌&&◌, List}
use Rattle.std.specs.BTreeSet.{contains_text}
use Rattle.std.specs.List.{list_any}
use Rattle.std.specs.Str.{bytes_eq}
use Rattle.std.specs.String.{string_bytes}
use Rattle.pre_table.specs.declared.text_sets.PairSet.{PairSet}
use Rattle.pre_table.specs.declared.text_sets.TextSet.{TextSet}

-- it has these texts and no others
unfoldable pub IsSetOf : TextSet → List (List ℕ) → Type 0
IsSetOf set texts = (text : List ℕ) → contains_text set.texts text ≡ list_any (λ t. bytes_eq t text) texts

-- it has the pairs for which this is true and no others
unfoldable pub HasPairs : PairSet → (List ℕ → List ℕ → Bool) → Type 0
HasPairs set has = (a b : List ℕ) → list_any (λ k. bytes_eq a (string_bytes k.0) && bytes_eq b (string_bytes k.1)) set.pairs.keys ≡ has a b
