use Rattle.std.proofs.Common.{◌≡◌}
use Rattle.pre_plant.specs.Lists.{list_of}
use Rattle.pre_plant.specs.Scripts.{damage}
use Rattle.pre_plant.proofs.lines.damages.Given as goal

abbrev pub invariant-loop-place : goal.invariant-loop-place
invariant-loop-place l = l.damages ≡ list_of l.place (damage l.draws)
