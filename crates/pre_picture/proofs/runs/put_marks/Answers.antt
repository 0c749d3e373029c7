use Rattle.std.proofs.Common.{◌+◌, ap, drop, get_or}
use Rattle.std.proofs.lemmas.List.{drop_more}
use Rattle.pre_picture.specs.declared.traces.Seen.TheVariants.{Other}
use Rattle.pre_picture.specs.Runs.{mark_text, here_after, marks}
use Rattle.pre_picture.proofs.Drawn.{part_fails}
use Rattle.pre_picture.proofs.runs.put_marks.Goals as goal

pub returns-in_err-put_mark-clause-octets : goal.returns-in_err-put_mark-clause-octets
returns-in_err-put_mark-clause-octets g c =
    let scale = c.args.scale.now in
    let events = c.args.events.now in
    let i = c.loop-seen.seen-index in
    let here = c.loop-seen.here in
    let seen = get_or events i (Other 0) in
    part_fails _ _ _ (marks scale c.args.y c.args.arc _ events) (marks scale c.args.y c.args.arc here (drop i events))
    (mark_text scale c.args.y c.args.arc here seen) (marks scale c.args.y c.args.arc (here_after c.args.arc here seen) (drop (i + 1) events))
    c.from_residual.result c.from_residual.ensures.0 (ap (marks scale c.args.y c.args.arc here) (drop_more events i (Other 0) c.loop-seen-test.true))
    c.loop-seen.invariant.taken c.in_err-put_mark.ensures.octets
