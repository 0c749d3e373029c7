use Rattle.std.proofs.Common.{◌≡◌, ◌<◌, List, length, get_or, slice_get, option_map, subst, ap, ◌∙◌}
use Rattle.pre_streams.specs.declared.raw.RawFlow.{RawFlow}
use Rattle.pre_streams.specs.declared.raw.RawCurve.{RawCurve}
use Rattle.pre_streams.specs.Made.{curve_parts, curve_made}
use Rattle.pre_streams.proofs.Rising.{row_more}
use Rattle.pre_streams.proofs.building.rows_made.Goals as goal

pub loop-place-preserved : goal.loop-place-preserved
loop-place-preserved c =
    let rows = c.as_slice-row-items.ensures in
    let within : c.loop-place.place < length c.args.raw.now.rows = subst (λ (l : List RawFlow). c.loop-place.place < length l) rows c.loop-place-test.true in
    let is : c.row-item.result ≡ get_or c.args.raw.now.rows c.loop-place.place c.row-item.result = c.row-item.is ∙ ap (λ (l : List RawFlow). get_or l c.loop-place.place c.row-item.result) rows in
    let curve : option_map curve_parts c.curve_at-curve.result ≡ option_map curve_made (slice_get c.args.raw.now.curves c.loop-place.place) = c.curve_at-curve.ensures ∙ ap (λ (l : List RawCurve). option_map curve_made (slice_get l c.loop-place.place)) c.as_slice.ensures in
    let one = c.in_ok-row_made.ensures (slice_get c.args.raw.now.curves c.loop-place.place) curve in
    let more = row_more c.args.net.now c.args.raw.now.curves c.args.raw.now.rows c.loop-place.place c.row-item.result c.loop-place.made c.in_ok-row_made.field-0 within is c.loop-place.invariant one in
    rw c.in_ok-push.ensures.ok more
