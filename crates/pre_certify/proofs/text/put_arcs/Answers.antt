use Rattle.std.proofs.Common.{None}
use Rattle.pre_certify.specs.Text.{arc_line}
use Rattle.pre_base.proofs.Pieces.{piece_fails}
use Rattle.pre_certify.proofs.text.put_arcs.Goals as goal

pub returns-in_err-put_arc-clause-octets : goal.returns-in_err-put_arc-clause-octets
returns-in_err-put_arc-clause-octets g c =
    piece_fails (arc_line c.args.net.now) c.args.rows.now c.loop-row.row-index (record { arc = record { 0 = 0 }; rank = None; largest = 0 }) _ _ _ c.from_residual.result c.loop-row-test.true c.from_residual.ensures.0 c.loop-row.invariant.taken c.in_err-put_arc.ensures.octets
