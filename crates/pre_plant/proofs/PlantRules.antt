-- What holds of every plant.
use Rattle.std.proofs.Common.{◌≡◌, ℕ, List, length, map, sum_by, refl, ◌∙◌, ap, subst}
use Rattle.pre_topo.specs.declared.arcs.Arc.{Arc}
use Rattle.pre_topo.specs.declared.network.Network.{Network}
use Rattle.pre_topo.specs.declared.nodes.Node.{Node}
use Rattle.pre_topo.specs.Arcs.{slots_of_arc, wires_of_arc}
use Rattle.pre_topo.specs.Memory.{slots}
use Rattle.pre_streams.specs.declared.rows.Streams.{Streams}
use Rattle.pre_streams.specs.Fits as streams_rules
use Rattle.pre_streams.specs.Made.{row_parts}
use Rattle.pre_script.specs.Fits as script_rules
use Rattle.pre_script.specs.declared.scripts.Script.{Script}
use Rattle.pre_plant.specs.Counts.{HasCounts}
use Rattle.pre_plant.specs.Curves.{CurvesHold}
use Rattle.pre_plant.specs.Draws.{draws_of}
use Rattle.pre_plant.specs.Networks.{plant_nodes, IsPlantNetwork}
use Rattle.pre_plant.specs.Rows.{plant_rows}
use Rattle.pre_plant.specs.Scripts.{IsPlantScript}
use Rattle.pre_plant.specs.Plants.{IsPlant}
use Rattle.pre_plant.proofs.CurveRules.{curves_hold}
use Rattle.pre_plant.proofs.PlantNetworks.{nodes_count, arcs_count, slots_sum, wires_sum}
use Rattle.pre_plant.proofs.RowRules.{rows_fit, streams_counted, flows_counted}
use Rattle.pre_plant.proofs.ScriptRules.{script_fits, streams_send_few, flows_send_all, sends_end, losses_counted, damages_counted}

slots_are : (net : Network) → IsPlantNetwork net → slots net ≡ 49_328
slots_are net is =
    ap (λ (ns : List Node). sum_by (slots_of_arc ns) net.arcs) is.nodes ∙ ap (λ (as_ : List Arc). sum_by (slots_of_arc plant_nodes) as_) is.arcs ∙ slots_sum

pub plant_made : (n : ℕ) (net : Network) (streams : Streams) (script : Script) (one two : List ℕ) → one ≡ draws_of n → two ≡ draws_of n → IsPlantNetwork net
    → map row_parts streams.rows ≡ plant_rows one → IsPlantScript two script → IsPlant n net streams script
plant_made n net streams script one two first second network rows lines = record {
  network = network;
  rows = rows ∙ ap plant_rows first;
  lines = subst (λ draws. IsPlantScript draws script) second lines;
}

module _ (n : ℕ) (net : Network) (streams : Streams) (script : Script) (is : IsPlant n net streams script) where
  pub streams_fit : streams_rules.Fits net streams
  streams_fit = rows_fit (draws_of n) streams.rows is.rows net streams is.network refl

  pub lines_fit : script_rules.Fits net streams script
  lines_fit = script_fits (draws_of n) script is.lines net streams is.network is.rows

  pub plant_curves : CurvesHold streams.rows script.sends
  plant_curves = curves_hold (draws_of n) streams.rows script.sends is.rows is.lines.sends

  pub plant_counts : HasCounts net streams script
  plant_counts = record {
    nodes = ap (λ (ns : List Node). length ns) is.network.nodes ∙ nodes_count;
    arcs = ap (λ (as_ : List Arc). length as_) is.network.arcs ∙ arcs_count;
    slots = slots_are net is.network;
    wires = ap (λ (as_ : List Arc). sum_by wires_of_arc as_) is.network.arcs ∙ wires_sum;
    express = streams_counted (draws_of n) streams.rows is.rows;
    flows = flows_counted (draws_of n) streams.rows is.rows;
    stream_sends = streams_send_few (draws_of n) script is.lines;
    flow_sends = flows_send_all (draws_of n) script is.lines;
    losses = losses_counted (draws_of n) script is.lines;
    damages = damages_counted (draws_of n) script is.lines;
    ends = sends_end (draws_of n) script is.lines;
  }
