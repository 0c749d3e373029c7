use Rattle.pre_plant.specs.Rows.{stream_row, flow_row}
use Rattle.pre_plant.proofs.Pushes.{few_rows}
use Rattle.pre_plant.proofs.rows.plant_streams.Goals as goal

pub invariant_of-result : goal.invariant_of-result
invariant_of-result c = record {
  few = few_rows (stream_row c.args.draws.now)
      (flow_row c.args.draws.now) c.new-rows.result c.put_streams.new.rows c.put_flows.new.rows c.new-rows.ensures c.in_ok-put_streams.ensures c.in_ok-put_flows.ensures;
}
