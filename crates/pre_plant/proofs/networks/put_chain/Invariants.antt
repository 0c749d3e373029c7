use Rattle.std.proofs.Common.{◌≡◌, ◌++◌}
use Rattle.pre_plant.specs.Lists.{joined_of}
use Rattle.pre_plant.specs.Networks.{chain_link}
use Rattle.pre_plant.proofs.networks.put_chain.Given as goal

abbrev pub invariant-loop-bridge : goal.invariant-loop-bridge
invariant-loop-bridge l = l.arcs ≡ l.fn.arcs ++ joined_of l.bridge chain_link
