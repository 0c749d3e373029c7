use Rattle.std.proofs.Common.{◌≡◌, ◌++◌, map}
use Rattle.pre_streams.specs.Made.{row_parts}
use Rattle.pre_plant.specs.Lists.{list_of}
use Rattle.pre_plant.specs.Rows.{flow_row}
use Rattle.pre_plant.proofs.rows.put_flows.Given as goal

abbrev pub invariant-loop-flow : goal.invariant-loop-flow
invariant-loop-flow l = map row_parts l.rows ≡ map row_parts l.fn.rows ++ list_of l.flow (flow_row l.draws)
