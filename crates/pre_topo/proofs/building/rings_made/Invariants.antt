use Rattle.std.proofs.Common.{◌≡◌, length, map, take}
use Rattle.pre_table.specs.Values.{natural}
use Rattle.pre_topo.proofs.building.rings_made.Given as goal

abbrev pub invariant-loop-place : goal.invariant-loop-place
invariant-loop-place l = (length l.made ≡ 8) × (take l.place l.made ≡ map natural (take l.place l.rings))
