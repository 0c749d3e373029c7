use Rattle.std.proofs.Common.{◌+◌, ℕ, ap, drop, get_or, slice_get}
use Rattle.std.proofs.lemmas.List.{drop_more}
use Rattle.pre_base.specs.declared.numbers.StreamId.{StreamId}
use Rattle.pre_picture.specs.Bounds.{row_of, rows_of}
use Rattle.pre_picture.proofs.Drawn.{part_fails}
use Rattle.pre_picture.proofs.bounds.put_rows.Goals as goal

abbrev no_bound : StreamId × ℕ
no_bound = (record { 0 = 0 }, 0)

pub returns-in_err-put_row_of-clause-octets : goal.returns-in_err-put_row_of-clause-octets
returns-in_err-put_row_of-clause-octets g c =
    let events = c.args.sent.now.events.now in
    let rows = c.args.rows.now in
    let scale = c.args.scale.now in
    let bounds = c.args.bounds.now in
    let i = c.loop-bound.bound-index in
    let y = c.loop-bound.y in
    let bound = get_or bounds i no_bound in
    part_fails _ _ _ (rows_of events rows scale 620 bounds) (rows_of events rows scale y (drop i bounds)) (row_of events (slice_get rows bound.0.0) scale y bound.1)
    (rows_of events rows scale (y + 300) (drop (i + 1) bounds)) c.from_residual.result c.from_residual.ensures.0 (ap (rows_of events rows scale y) (drop_more bounds i no_bound c.loop-bound-test.true))
    c.loop-bound.invariant.taken c.in_err-put_row_of.ensures.octets
