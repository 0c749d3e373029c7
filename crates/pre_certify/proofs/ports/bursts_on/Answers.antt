use Rattle.std.proofs.Common.{arith}
use Rattle.pre_bound.specs.Uses.{is_on}
use Rattle.pre_bound.specs.Along.{burst_on}
use Rattle.pre_certify.specs.Tables.{delays_in}
use Rattle.pre_certify.proofs.Growing.{none_iff, sum_on-drop-yes, sum_on-drop-no}
use Rattle.pre_certify.proofs.ports.bursts_on.Goals as goal
use Rattle.pre_certify.proofs.ports.bursts_on.Goals.{then-is_on+in_ok-bursts+else-bursts-gt-LIMIT, else-is_on}

pub returns-in_err-bursts : goal.returns-in_err-bursts
returns-in_err-bursts c =
    let step = sum_on-drop-yes (burst_on c.args.net.now (delays_in c.args.delays.now) c.args.arc.0) (is_on c.args.arc.0 c.args.low c.args.high) c.args.rows.now c.loop-row.row-index c.row-item.result c.loop-row-test.true c.row-item.is c.if-is_on.ensures in
    let whole = c.loop-row.invariant.0 in
    let over = c.in_err-bursts.ensures in
    none_iff c.from_residual.result _ _ c.from_residual.ensures (λ le. over (omega (arith, step, whole, le)))

pub loop-row-preserved : goal.loop-row-preserved
loop-row-preserved c = elim c.if-is_on.branch [
  | then-is_on+in_ok-bursts+else-bursts-gt-LIMIT w ↦
      let step = sum_on-drop-yes (burst_on c.args.net.now (delays_in c.args.delays.now) c.args.arc.0) (is_on c.args.arc.0 c.args.low c.args.high) c.args.rows.now c.loop-row.row-index c.row-item.result c.loop-row-test.true c.row-item.is w.if-is_on.ensures in
      let whole = c.loop-row.invariant.0 in
      let burst = w.in_ok-bursts.ensures.1 in
      let now = w.bursts-is in
      let small = w.if-bursts-gt-LIMIT.false in
      (omega (arith, step, whole, burst, now), omega (arith, now, small))
  | else-is_on w ↦
      let step = sum_on-drop-no (burst_on c.args.net.now (delays_in c.args.delays.now) c.args.arc.0) (is_on c.args.arc.0 c.args.low c.args.high) c.args.rows.now c.loop-row.row-index c.row-item.result c.loop-row-test.true c.row-item.is w.if-is_on.ensures in
      let whole = c.loop-row.invariant.0 in
      let now = w.bursts-is in
      let small = c.loop-row.invariant.1 in
      (omega (arith, step, whole, now), omega (arith, now, small))
]
