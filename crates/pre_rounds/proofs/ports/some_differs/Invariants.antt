use Rattle.std.proofs.Common.{◌≡◌, false, take}
use Rattle.std.specs.List.{list_any, enumerate_from}
use Rattle.pre_rounds.specs.Passing.{differs_behind}
use Rattle.pre_rounds.specs.Tables.{bursts_in}
use Rattle.pre_rounds.proofs.ports.some_differs.Given as goal

abbrev pub invariant-loop-stream : goal.invariant-loop-stream
invariant-loop-stream l = list_any (differs_behind (bursts_in l.bursts) (bursts_in l.other) l.arc.0 l.prio) (enumerate_from 0 (take l.stream l.rows)) ≡ false
