use Rattle.std.proofs.Common.{◌∙◌, sym, ap, arith}
use Rattle.pre_rounds.specs.Tables.{bursts_in}
use Rattle.pre_rounds.proofs.Numbered.{bursts-yes, bursts-no}
use Rattle.pre_rounds.proofs.ports.bursts_over.Goals as goal
use Rattle.pre_rounds.proofs.ports.bursts_over.Goals.{then-is_on, else-is_on}

pub loop-stream-preserved : goal.loop-stream-preserved
loop-stream-preserved c = elim c.if-is_on.branch [
  | then-is_on w ↦
      let b = bursts_in c.args.bursts.now in
      let step = bursts-yes b c.args.arc.0 c.args.low c.args.high c.args.rows.now c.loop-stream.stream c.index-rows-stream.result c.loop-stream-test.true c.index-rows-stream.is (sym w.if-is_on.ensures) in
      let burst = w.burst_at-sum.ensures.burst ∙ ap (b c.loop-stream.stream) w.hop_of.ensures.hop in
      let small = w.burst_at-sum.ensures.small in
      let now = w.sum-is in
      record { so_far = omega (arith, step, burst, now); small = omega (arith, small, now) }
  | else-is_on w ↦
      let step = bursts-no (bursts_in c.args.bursts.now) c.args.arc.0 c.args.low c.args.high c.args.rows.now c.loop-stream.stream c.index-rows-stream.result c.loop-stream-test.true c.index-rows-stream.is (sym w.if-is_on.ensures) in
      let now = w.sum-is in
      record { so_far = omega (arith, step, now); small = omega (arith, now) }
]
