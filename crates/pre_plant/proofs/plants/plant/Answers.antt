use Rattle.std.proofs.Common.{◌∙◌, ap, List, ℕ, length}
use Rattle.pre_plant.specs.Plants.{IsPlant}
use Rattle.pre_plant.proofs.Drawing.{length-draws_of}
use Rattle.pre_plant.proofs.PlantRules.{plant_made, streams_fit, lines_fit, plant_curves, plant_counts}
use Rattle.pre_plant.proofs.plants.plant.Goals as goal

pub plant_streams-requires : goal.plant_streams-requires
plant_streams-requires c = ap (λ (ds : List ℕ). length ds) (c.as_slice.ensures.value ∙ c.in_ok-draws.ensures) ∙ length-draws_of c.args.number

pub plant_script-requires : goal.plant_script-requires
plant_script-requires c = ap (λ (ds : List ℕ). length ds) (c.as_slice-2.ensures.value ∙ c.in_ok-draws.ensures) ∙ length-draws_of c.args.number

plant_is : (c : goal.After-drop-draws-2) → IsPlant c.args.number c.in_ok-network.network c.in_ok-streams.streams c.in_ok-script.script
plant_is c =
    plant_made c.args.number c.in_ok-network.network c.in_ok-streams.streams c.in_ok-script.script c.as_slice.result.now c.as_slice-2.result.now
    (c.as_slice.ensures.value ∙ c.in_ok-draws.ensures) (c.as_slice-2.ensures.value ∙ c.in_ok-draws.ensures) c.in_ok-network.ensures c.in_ok-streams.ensures c.in_ok-script.ensures

pub returns-clause-plant : goal.returns-clause-plant
returns-clause-plant c = plant_is c

pub returns-clause-streams_fit : goal.returns-clause-streams_fit
returns-clause-streams_fit c = streams_fit c.args.number c.in_ok-network.network c.in_ok-streams.streams c.in_ok-script.script (plant_is c)

pub returns-clause-script_fits : goal.returns-clause-script_fits
returns-clause-script_fits c = lines_fit c.args.number c.in_ok-network.network c.in_ok-streams.streams c.in_ok-script.script (plant_is c)

pub returns-clause-curves : goal.returns-clause-curves
returns-clause-curves c = plant_curves c.args.number c.in_ok-network.network c.in_ok-streams.streams c.in_ok-script.script (plant_is c)

pub returns-clause-counts : goal.returns-clause-counts
returns-clause-counts c = plant_counts c.args.number c.in_ok-network.network c.in_ok-streams.streams c.in_ok-script.script (plant_is c)
