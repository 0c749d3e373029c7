use Rattle.std.proofs.Common.{◌+◌, ap, drop, get_or}
use Rattle.std.proofs.lemmas.List.{drop_more}
use Rattle.pre_picture.specs.Runs.{lane, lanes}
use Rattle.pre_picture.proofs.Drawn.{part_fails}
use Rattle.pre_picture.proofs.runs.put_lanes.Goals as goal

pub returns-in_err-put_lane-clause-octets : goal.returns-in_err-put_lane-clause-octets
returns-in_err-put_lane-clause-octets g c =
    let net = c.args.run.now.net.now in
    let scale = c.args.run.now.scale in
    let bars = c.args.run.now.bars.now in
    let events = c.args.run.now.events.now in
    let arcs = c.args.arcs.now in
    let i = c.loop-arc.arc-index in
    let y = c.loop-arc.y in
    part_fails _ _ _ (lanes net scale bars events 620 arcs) (lanes net scale bars events y (drop i arcs)) (lane net scale bars events y (get_or arcs i 0))
    (lanes net scale bars events (y + 330) (drop (i + 1) arcs)) c.from_residual.result c.from_residual.ensures.0 (ap (lanes net scale bars events y) (drop_more arcs i 0 c.loop-arc-test.true))
    c.loop-arc.invariant.taken c.in_err-put_lane.ensures.octets
