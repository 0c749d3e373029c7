use Rattle.pre_plant.specs.Rows.{flow_row}
use Rattle.pre_plant.proofs.Pushes.{row_more}
use Rattle.pre_plant.proofs.rows.put_flows.Goals as goal

pub loop-flow-preserved : goal.loop-flow-preserved
loop-flow-preserved c = row_more c.args.rows.now c.loop-flow.rows c.push.new.self c.in_ok-flow_row.field-0
    (flow_row c.args.draws.now) c.loop-flow.flow c.loop-flow.invariant c.in_ok-push.ensures.ok c.in_ok-flow_row.ensures
