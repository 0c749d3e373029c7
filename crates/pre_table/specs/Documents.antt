-- The table that a text is, and the keys in it.
use Rattle.std.specs.Prelude.{ℕ, Bool, List, [], ◌∷◌, Option, None, if◌then◌else◌}
use Rattle.std.specs.List.{list_all, list_any}
use Rattle.std.specs.Str.{bytes_eq, is_utf8}
use Rattle.toml.specs.Data.{Members, no_members, member}
use Rattle.toml.specs.Parse.{parse_document}

-- a document is UTF-8
abbrev pub document_of : List ℕ → Option Members
document_of text = if is_utf8 text then parse_document text else None

abbrev pub keys_in : Members → List (List ℕ)
keys_in no_members = []
keys_in (member k d ms) = k ∷ keys_in ms

-- it is one of these
abbrev pub is_one_of : List (List ℕ) → List ℕ → Bool
is_one_of known key = list_any (λ k. bytes_eq k key) known

-- the table has no other keys than these
abbrev pub has_only : List (List ℕ) → Members → Bool
has_only known ms = list_all (is_one_of known) (keys_in ms)
