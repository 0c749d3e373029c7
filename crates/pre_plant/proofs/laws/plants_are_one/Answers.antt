use Rattle.pre_plant.proofs.OnePlant.{one_plant}
use Rattle.pre_plant.proofs.laws.plants_are_one.Goals as goal

pub returns : goal.returns
returns c = one_plant
