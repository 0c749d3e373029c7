-- Rows by their names.
use Rattle.std.specs.Prelude.{ℕ, List, Option}
use Rattle.pre_streams.specs.declared.rows.Streams.{Streams}
use Rattle.pre_streams.specs.Hops.{place_of_row}

-- the place of the first row of this name, where there is one
abbrev pub row_named : Streams → List ℕ → Option ℕ
row_named streams word = place_of_row streams.rows word
