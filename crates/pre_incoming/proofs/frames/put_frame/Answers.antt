use Rattle.std.proofs.Common.{◌≡◌, ◌≤◌, length, rules}
use Rattle.pre_streams.specs.declared.rows.Row.{Row}
use Rattle.pre_history.specs.Scenario.{row}
use Rattle.pre_incoming.specs.Inputs.{scenario_of}
use Rattle.pre_incoming.proofs.Building.{octets_put}
use Rattle.pre_incoming.proofs.frames.put_frame.Goals as goal

pub returns-clause-octets : goal.returns-clause-octets
returns-clause-octets c =
    let w = scenario_of c.args.inputs.now in
    let r : Row = c.row_of-row.result.now in
    let is : r ≡ row w c.args.frame.0 = c.row_of-row.ensures.here in
    let long : 2 ≤ length r.route = c.row_of-row.ensures.row.route.long.0 in
    octets_put w c.args.frame.0 r c.as_slice-route.result.now is (search rules)
    long _ _ c.prio_of.result c.as_slice.result.now c.args.into.now c.build.new.into c.in-Ok.size c.prio_of.ensures.same c.as_slice.ensures c.in-Ok.ensures.size c.in-Ok.ensures.frame
