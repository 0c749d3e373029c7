use Rattle.std.proofs.Common.{◌≡◌, ◌++◌}
use Rattle.pre_plant.specs.Lists.{joined_of}
use Rattle.pre_plant.specs.Scripts.{flow_sends}
use Rattle.pre_plant.proofs.sends.put_flow_sends.Given as goal

abbrev pub invariant-loop-flow : goal.invariant-loop-flow
invariant-loop-flow l = l.sends.items ≡ l.fn.sends.items ++ joined_of l.flow (flow_sends l.draws)
