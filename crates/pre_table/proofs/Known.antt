-- The keys of a table and of its members.
use Rattle.std.proofs.Common.{◌≡◌, ℕ, ◌&&◌, ◌||◌, List, [], ◌∷◌, map, Bor, String, Global, string_bytes, refl, ap}
use Rattle.std.specs.List.{list_all, list_any}
use Rattle.std.specs.Map.{keys_of}
use Rattle.std.specs.Str.{bytes_eq}
use Rattle.toml.specs.View.{members_view}
use Rattle.toml.specs.declared.value.Value.{Value}
use Rattle.pre_table.specs.Documents.{is_one_of, has_only}

pub known_texts : (known : List (Bor (List ℕ))) (key : List ℕ) → list_any (λ k. bytes_eq k.now key) known ≡ is_one_of (map (λ k. k.now) known) key
known_texts [] key = refl
known_texts (k ∷ known) key = ap (λ b. bytes_eq k.now key || b) (known_texts known key)

pub known_keys : (known : List (List ℕ)) (es : List (String Global × Value)) → list_all (λ k. is_one_of known (string_bytes k)) (keys_of es) ≡ has_only known (members_view es)
known_keys known [] = refl
known_keys known (e ∷ es) = ap (λ b. is_one_of known (string_bytes e.0) && b) (known_keys known es)
