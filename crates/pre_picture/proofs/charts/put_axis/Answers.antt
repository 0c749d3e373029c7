use Rattle.std.proofs.Common.{◌+◌, ◌-◌, ap, rules}
use Rattle.std.specs.List.{flat_map, range_with_len}
use Rattle.pre_picture.specs.Charts.{axis_mark, axis}
use Rattle.pre_picture.proofs.Drawn.{part_fails, part_goes, range_more}
use Rattle.pre_picture.proofs.charts.put_axis.Goals as goal

pub returns-in_err-put_axis_mark-clause-octets : goal.returns-in_err-put_axis_mark-clause-octets
returns-in_err-put_axis_mark-clause-octets g c =
    let marks = axis_mark c.args.scale.now c.args.top c.args.height in
    let i = c.loop-mark.mark in
    part_fails _ _ _ (axis c.args.scale.now c.args.top c.args.height) (flat_map marks (range_with_len i (11 - i))) (marks i) (flat_map marks (range_with_len (i + 1) (11 - (i + 1))))
    c.from_residual.result c.from_residual.ensures.0 (ap (flat_map marks) (range_more i 11 c.loop-mark-test.true)) c.loop-mark.invariant.taken c.in_err-put_axis_mark.ensures.octets

pub loop-mark-preserved : goal.loop-mark-preserved
loop-mark-preserved g c =
    let marks = axis_mark c.args.scale.now c.args.top c.args.height in
    let i = c.loop-mark.mark in
    record {
      taken = part_goes _ _ _ (axis c.args.scale.now c.args.top c.args.height) (flat_map marks (range_with_len i (11 - i))) (marks i) (flat_map marks (range_with_len (i + 1) (11 - (i + 1))))
          (ap (flat_map marks) (range_more i 11 c.loop-mark-test.true)) c.loop-mark.invariant.taken c.in_ok-put_axis_mark.ensures.octets;
      later = search rules;
    }
