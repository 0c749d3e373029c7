use Rattle.std.proofs.Common.{◌≡◌, ◌≤◌, length, rules, ap, arith}
use Rattle.std.specs.Prelude.{slice_index_or}
use Rattle.pre_streams.specs.declared.rows.Row.{Row}
use Rattle.pre_history.specs.Scenario.{row, send, no_send}
use Rattle.pre_incoming.specs.Inputs.{scenario_of}
use Rattle.pre_dissect.proofs.Sent.{built, if_ok, put_of}
use Rattle.pre_dissect.proofs.sending.put_frame.Goals as goal

pub returns-clause-octets : goal.returns-clause-octets
returns-clause-octets c = λ known.
    let w = scenario_of c.args.inputs.now in
    let f = c.args.frame.0 in
    let row_is : c.in_ok-row.row.now ≡ row w f = search rules in
    let size = (slice_index_or c.as_slice-sends.result.now f no_send).send.size in
    let size_is : size ≡ (send w f).send.size = ap (λ l. (slice_index_or l f no_send).send.size) c.as_slice-sends.ensures in
    let long : 2 ≤ length c.in_ok-row.row.now.route = omega (arith, ap (λ (r : Row). length r.route) row_is, known.route) in
    built w f size c.build.result c.ok.result c.args.into.now c.build.new.into c.ok.ensures.value (c.build.ensures.fits.1 (omega (arith, size_is, known.size.1, c.told-into))) c.build.ensures.size
    (if_ok c.build.result (put_of w f c.in_ok-row.row.now c.as_slice-route.result.now _ _ c.args.into.now c.build.new.into size row_is c.as_slice-route.ensures long size_is) c.build.ensures.frame)
    size_is known.size.0
