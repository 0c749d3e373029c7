use Rattle.std.proofs.Common.{◌≡◌, false, take}
use Rattle.std.specs.List.{list_any, enumerate_from}
use Rattle.pre_rounds.specs.Passing.{leaving_passes}
use Rattle.pre_rounds.specs.Tables.{bursts_in}
use Rattle.pre_rounds.proofs.ports.some_leaving_passes.Given as goal

abbrev pub invariant-loop-stream : goal.invariant-loop-stream
invariant-loop-stream l = list_any (leaving_passes l.net (bursts_in l.bursts) l.arc.0 l.prio l.delay) (enumerate_from 0 (take l.stream l.rows)) ≡ false
