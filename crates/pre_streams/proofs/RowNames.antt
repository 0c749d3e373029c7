-- The names of the rows of a file.
use Rattle.std.proofs.Common.{ℕ, List, map}
use Rattle.pre_streams.specs.declared.raw.RawFlow.{RawFlow}

abbrev pub row_names : List RawFlow → List (List ℕ)
row_names rows = map (λ r. r.name) rows
