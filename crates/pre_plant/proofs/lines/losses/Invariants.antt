use Rattle.std.proofs.Common.{◌≡◌}
use Rattle.pre_plant.specs.Lists.{list_of}
use Rattle.pre_plant.specs.Scripts.{loss}
use Rattle.pre_plant.proofs.lines.losses.Given as goal

abbrev pub invariant-loop-place : goal.invariant-loop-place
invariant-loop-place l = l.losses ≡ list_of l.place (loss l.draws)
