use Rattle.std.proofs.Common.{◌≡◌, ℕ, ◌∙◌, ap, sym, arith}
use Rattle.pre_streams.specs.declared.rows.Row.{Row}
use Rattle.pre_bound.specs.Uses.{is_on, hop_of}
use Rattle.pre_check.specs.Said.{burst_in}
use Rattle.pre_check.proofs.Listing.{numbered_sum_yes, numbered_sum_no}
use Rattle.pre_check.proofs.clauses.bursts_in.Goals as goal
use Rattle.pre_check.proofs.clauses.bursts_in.Goals.{then-is_on, else-is_on}

pub loop-stream-preserved : goal.loop-stream-preserved
loop-stream-preserved c =
    let arc = c.args.arc.0 in
    let hops = c.args.hops.now in
    let k = c.loop-stream.stream in
    let r = c.index-rows-stream.result in
    let f : ℕ × Row → ℕ = λ e. burst_in hops e.0 (hop_of arc e.1) in
    let p : Row → _ = is_on arc c.args.low c.args.high in
    elim c.if-is_on.branch [
      | then-is_on w ↦
          let step = numbered_sum_yes f p c.args.rows.now k r c.loop-stream-test.true c.index-rows-stream.is (sym w.if-is_on.ensures) in
          let burst : w.burst_in-burst.result ≡ burst_in hops k (hop_of arc r) = w.burst_in-burst.ensures ∙ ap (burst_in hops k) w.hop_of.ensures in
          let old = c.loop-stream.invariant.0 in
          let few = c.loop-stream.invariant.1 in
          let now = w.bursts-is in
          let wide = w.from-bursts.ensures in
          let most = w.burst_in-burst.type_inv in
          (omega (arith, step, old, now, wide, burst), omega (arith, now, few, wide, most))
      | else-is_on w ↦
          let step = numbered_sum_no f p c.args.rows.now k r c.loop-stream-test.true c.index-rows-stream.is (sym w.if-is_on.ensures) in
          let old = c.loop-stream.invariant.0 in
          let few = c.loop-stream.invariant.1 in
          let now = w.bursts-is in
          (omega (arith, step, old, now), omega (arith, now, few))
    ]
