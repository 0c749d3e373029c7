use Rattle.std.proofs.Common.{◌≡◌, ◌++◌}
use Rattle.pre_plant.specs.Lists.{joined_of}
use Rattle.pre_plant.specs.Networks.{station_link}
use Rattle.pre_plant.proofs.networks.put_spread.Given as goal

abbrev pub invariant-loop-station : goal.invariant-loop-station
invariant-loop-station l = l.arcs ≡ l.fn.arcs ++ joined_of l.station station_link
