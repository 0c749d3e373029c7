use Rattle.pre_script.proofs.Lines.{line_breaks}
use Rattle.pre_trace.specs.declared.tallies.Closing.TheVariants as closing
use Rattle.pre_trace.specs.Text.{line}
use Rattle.pre_trace.specs.Sums.{plain_closing}
use Rattle.pre_trace.proofs.summary_lines.put_closings.Goals as goal

pub returns-in_err-put_closing-clause-octets : goal.returns-in_err-put_closing-clause-octets
returns-in_err-put_closing-clause-octets g c =
    line_breaks (λ k. line c.args.net.now (plain_closing k)) c.args.closings.now c.loop-closing.closing-index (closing.Count (record { 0 = 0 }) 0 0 0 0 0)
    _ _ _ c.from_residual.result c.loop-closing-test.true c.from_residual.ensures.0 c.loop-closing.invariant.taken c.in_err-put_closing.ensures.octets
