-- What stands at the keys of a table, read as its kind.
use Rattle.std.specs.Prelude.{ℕ, ℤ, pos, negsuc, Bool, true, false, List, [], ◌∷◌, length, ◌==◌, ◌&&◌, nat_le, nat_lt, Option}
use Rattle.std.specs.Prelude.{Some, None, option_map, option_and_then, if◌then◌else◌}
use Rattle.std.specs.List.{list_all}
use Rattle.std.specs.Option.{option_map_or}
use Rattle.toml.specs.Data.{Data, table, Items, no_items, item, Members, get_member, as_str, as_integer, as_array}
use Rattle.pre_table.specs.declared.values.Whole.{Whole}
use Rattle.pre_table.specs.declared.values.Whole.TheVariants.{Negative, Natural}

abbrev pub whole_of : ℤ → Whole
whole_of (pos n) = Natural n
whole_of (negsuc n) = Negative n

abbrev pub natural : Whole → ℕ
natural (Negative n) = 0
natural (Natural n) = n

abbrev pub same_whole : Whole → Whole → Bool
same_whole (Natural m) (Natural n) = m == n
same_whole (Natural m) (Negative n) = false
same_whole (Negative m) (Natural n) = false
same_whole (Negative m) (Negative n) = m == n

abbrev pub is_below : ℕ → Whole → Bool
is_below limit (Negative n) = true
is_below limit (Natural n) = nat_lt n limit

abbrev pub is_within : ℕ → ℕ → Whole → Bool
is_within low high (Negative n) = false
is_within low high (Natural n) = nat_le low n && nat_le n high

abbrev pub as_whole : Data → Option Whole
as_whole d = option_map whole_of (as_integer d)

abbrev pub items_in : Items → List Data
items_in no_items = []
items_in (item d ds) = d ∷ items_in ds

abbrev pub as_some_whole : Data → Option (Option Whole)
as_some_whole d = option_map Some (as_whole d)

abbrev pub as_items : Data → Option (List Data)
as_items d = option_map items_in (as_array d)

-- the elements, where each one is of the kind
abbrev pub each_read : {A : Type 0} → (Data → Option A) → List Data → Option (List A)
each_read read [] = Some []
each_read read (d ∷ ds) = option_and_then (λ a. option_map (λ as_. a ∷ as_) (each_read read ds)) (read d)

abbrev pub is_table : Data → Bool
is_table (table ms) = true
is_table _ = false

abbrev pub all_tables : List Data → Option (List Data)
all_tables ds = if list_all is_table ds then Some ds else None

-- the elements of an array of tables
abbrev pub as_tables : Data → Option (List Data)
as_tables d = option_and_then all_tables (as_items d)

abbrev pub as_texts : Data → Option (List (List ℕ))
as_texts d = option_and_then (each_read as_str) (as_items d)

-- an array of two texts
abbrev pub two_texts : List Data → Option (List ℕ × List ℕ)
two_texts [] = None
two_texts (a ∷ []) = None
two_texts (a ∷ b ∷ []) = option_and_then (λ x. option_map (λ y. (x, y)) (as_str b)) (as_str a)
two_texts (a ∷ b ∷ c ∷ rest) = None

abbrev pub as_two_texts : Data → Option (List ℕ × List ℕ)
as_two_texts d = option_and_then two_texts (as_items d)

-- an array of this many numbers
abbrev pub as_numbers : ℕ → Data → Option (List Whole)
as_numbers count d = option_and_then (λ ds. if length ds == count then each_read as_whole ds else None) (as_items d)

-- what stands at the key, where it is of the kind; and the default, if there is one, where nothing stands there
abbrev pub read_or : {A : Type 0} → (Data → Option A) → Option A → List ℕ → Members → Option A
read_or read default key ms = option_map_or read (get_member key ms) default

-- a number of the table, which is this one where nothing stands at the key
abbrev pub number_or : ℕ → List ℕ → Members → Option Whole
number_or default key ms = read_or as_whole (Some (Natural default)) key ms

-- a number of the table, or that nothing stands at the key
abbrev pub number_or_none : List ℕ → Members → Option (Option Whole)
number_or_none key ms = read_or as_some_whole (Some None) key ms

-- what goes on with a value, where there is one
abbrev pub given : {A B : Type 0} → Option A → (A → Option B) → Option B
given None next = None
given (Some x) next = next x

abbrev pub kept : {B : Type 0} → Bool → Option B → Option B
kept true next = next
kept false next = None
