use Rattle.std.proofs.Common.{◌≡◌, map, Some, take}
use Rattle.toml.specs.View.{view}
use Rattle.pre_table.specs.Rows.{row_of}
use Rattle.pre_table.proofs.rows.read_rows.Given as goal

abbrev pub invariant-loop-place : goal.invariant-loop-place
invariant-loop-place g l = map (row_of g.R.Row.reads) (map view (take l.place l.values)) ≡ map Some l.rows
