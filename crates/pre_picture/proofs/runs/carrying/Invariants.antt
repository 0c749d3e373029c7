use Rattle.std.proofs.Common.{◌≡◌, ◌≤◌, ◌++◌, ◌-◌, filter, length}
use Rattle.std.specs.List.{range_with_len}
use Rattle.pre_picture.specs.Runs.{carries, carrying}
use Rattle.pre_picture.proofs.runs.carrying.Given as goal

abbrev pub invariant-loop-arc : goal.invariant-loop-arc
invariant-loop-arc l = record {
  rest : l.arcs ++ filter (carries l.scale l.bars) (range_with_len l.arc (256 - l.arc)) ≡ carrying l.scale l.bars;
  few : length l.arcs ≤ l.arc;
}
