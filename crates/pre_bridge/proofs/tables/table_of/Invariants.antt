use Rattle.std.proofs.Common.{◌≡◌, take}
use Rattle.std.specs.List.{flat_map}
use Rattle.pre_bridge.specs.Table.{hops_of}
use Rattle.pre_bridge.proofs.tables.table_of.Given as goal

abbrev pub invariant-loop-row : goal.invariant-loop-row
invariant-loop-row l = l.hops.items ≡ flat_map hops_of (take l.row-index l.rows)
