use Rattle.std.proofs.Common.{◌≡◌, ◌-◌, ◌≤◌, length, take, rules, sym, subst}
use Rattle.pre_frame.specs.Layout.{with_check}
use Rattle.pre_streams.specs.declared.rows.Row.{Row}
use Rattle.pre_history.specs.Scenario.{row, FrameOf}
use Rattle.pre_incoming.specs.Inputs.{scenario_of}
use Rattle.pre_incoming.proofs.Building.{unchecked_put}
use Rattle.pre_incoming.proofs.frames.put_unchecked.Goals as goal

pub returns-clause-octets : goal.returns-clause-octets
returns-clause-octets c =
    let w = scenario_of c.args.inputs.now in
    let k = c.args.frame.0 in
    let r : Row = c.row_of-row.result.now in
    let is : r ≡ row w k = c.row_of-row.ensures.here in
    let long : 2 ≤ length r.route = c.row_of-row.ensures.row.route.long.0 in
    subst (λ n. with_check (take (n - 4) c.build_unchecked.new.into) ≡ FrameOf w k) (sym c.from.ensures)
    (unchecked_put w k r c.as_slice-route.result.now is (search rules) long _ _ c.prio_of.result c.as_slice.result.now _ c.prio_of.ensures.same c.as_slice.ensures c.in-Ok.ensures.frame)
