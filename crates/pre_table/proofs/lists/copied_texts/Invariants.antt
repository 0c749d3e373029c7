use Rattle.std.proofs.Common.{◌≡◌, map, Some, take}
use Rattle.toml.specs.Data.{as_str}
use Rattle.toml.specs.View.{view}
use Rattle.pre_table.proofs.lists.copied_texts.Given as goal

abbrev pub invariant-loop-value : goal.invariant-loop-value
invariant-loop-value l = map as_str (map view (take l.value-index l.values)) ≡ map Some l.names
