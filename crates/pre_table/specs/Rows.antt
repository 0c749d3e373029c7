-- Tables in a row, each read as a row of its kind.
use Rattle.std.specs.Prelude.{ℕ, List, [], ◌∷◌, Option, Some, None, option_and_then, is_none, map, position, Result, Ok, Err}
use Rattle.toml.specs.Data.{Data, Members, as_table}
use Rattle.pre_base.specs.declared.numbers.FileRow.{FileRow}

-- a row is a table
abbrev pub row_of : {A : Type 0} → (Members → Option A) → Data → Option A
row_of read d = option_and_then read (as_table d)

-- the values that are there
abbrev pub somes : {A : Type 0} → List (Option A) → List A
somes [] = []
somes (None ∷ os) = somes os
somes (Some a ∷ os) = a ∷ somes os

abbrev pub unless_at : {A : Type 0} → Option ℕ → List A → Result (List A) ℕ
unless_at None rows = Ok rows
unless_at (Some i) rows = Err i

-- all rows, or the place of the first that can't be read
abbrev pub rows_of : {A : Type 0} → (Members → Option A) → List Data → Result (List A) ℕ
rows_of read ds = unless_at (position (λ d. is_none (row_of read d)) ds) (somes (map (row_of read) ds))

-- what goes on with a value, and is a fault of the row where there is none
abbrev pub in_row : {A B : Type 0} → FileRow → Option A → (A → Result B FileRow) → Result B FileRow
in_row row None next = Err row
in_row row (Some x) next = next x

abbrev pub rows_in : {A : Type 0} → (ℕ → FileRow) → Result (List A) ℕ → Result (List A) FileRow
rows_in row (Ok rows) = Ok rows
rows_in row (Err place) = Err (row place)

abbrev pub in_rows : {A B : Type 0} → Result A FileRow → (A → Result B FileRow) → Result B FileRow
in_rows (Err row) next = Err row
in_rows (Ok rows) next = next rows
