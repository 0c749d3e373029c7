use Rattle.pre_base.proofs.Pieces.{piece_fails}
use Rattle.pre_picture.specs.declared.traces.Seen.TheVariants.{Other}
use Rattle.pre_picture.specs.Bounds.{point_at}
use Rattle.pre_picture.proofs.bounds.put_points.Goals as goal

pub returns-in_err-put_point-clause-octets : goal.returns-in_err-put_point-clause-octets
returns-in_err-put_point-clause-octets g c =
    piece_fails (point_at c.args.sent.now.events.now c.args.row.now c.args.scale.now c.args.y) c.args.sent.now.events.now c.loop-seen.seen-index (Other 0) _ _ _
    c.from_residual.result c.loop-seen-test.true c.from_residual.ensures.0 c.loop-seen.invariant.taken c.in_err-put_point.ensures.octets
