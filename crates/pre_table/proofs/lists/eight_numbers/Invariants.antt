use Rattle.std.proofs.Common.{◌≡◌, length, map, Some, take}
use Rattle.toml.specs.View.{view}
use Rattle.pre_table.specs.Values.{as_whole}
use Rattle.pre_table.proofs.lists.eight_numbers.Given as goal

abbrev pub invariant-loop-place : goal.invariant-loop-place
invariant-loop-place l = (length l.numbers ≡ 8) × (map as_whole (map view (take l.place l.values)) ≡ map Some (take l.place l.numbers))
