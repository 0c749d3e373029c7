use Rattle.pre_plant.proofs.PlantNetworks.{plant_network_is}
use Rattle.pre_plant.proofs.networks.plant_network.Goals as goal

pub invariant_of-result : goal.invariant_of-result
invariant_of-result c = record { rules = rw (c.plant_timing.ensures, c.in_ok-plant_nodes.ensures, c.in_ok-plant_arcs.ensures) plant_network_is }
