use Rattle.pre_script.proofs.Lines.{line_breaks}
use Rattle.pre_trace.specs.Sums.{figures_from}
use Rattle.pre_trace.specs.SummaryText.{stream_line}
use Rattle.pre_trace.proofs.summary_lines.put_streams.Goals as goal

pub returns-in_err-put_stream-clause-octets : goal.returns-in_err-put_stream-clause-octets
returns-in_err-put_stream-clause-octets g c =
    line_breaks (λ bound. stream_line c.args.streams.now (figures_from c.args.summary.now.script.now c.args.summary.now.tallies bound.0.0) bound) c.args.bounds.now c.loop-bound.bound-index
    ((record { 0 = 0 }, 0)) _ _ _ c.from_residual.result c.loop-bound-test.true c.from_residual.ensures.0 c.loop-bound.invariant.taken c.in_err-put_stream.ensures.octets
