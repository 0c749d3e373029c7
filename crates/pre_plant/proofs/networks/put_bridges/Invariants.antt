use Rattle.std.proofs.Common.{◌≡◌, ◌++◌}
use Rattle.pre_plant.specs.Lists.{list_of}
use Rattle.pre_plant.specs.Networks.{bridge}
use Rattle.pre_plant.proofs.networks.put_bridges.Given as goal

abbrev pub invariant-loop-number : goal.invariant-loop-number
invariant-loop-number l = l.nodes ≡ l.fn.nodes ++ list_of l.number bridge
