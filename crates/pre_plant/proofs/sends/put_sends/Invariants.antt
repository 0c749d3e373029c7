use Rattle.std.proofs.Common.{◌≡◌, ◌++◌}
use Rattle.pre_plant.specs.Lists.{list_of}
use Rattle.pre_plant.specs.Scripts.{nth_send}
use Rattle.pre_plant.proofs.sends.put_sends.Given as goal

abbrev pub invariant-loop-count : goal.invariant-loop-count
invariant-loop-count l = l.sends.items ≡ l.fn.sends.items ++ list_of l.count (nth_send l.source.stream l.source.size l.source.first l.source.period)
