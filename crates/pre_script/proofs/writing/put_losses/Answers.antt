use Rattle.pre_script.specs.Text.{loss_line}
use Rattle.pre_script.proofs.Lines.{line_breaks}
use Rattle.pre_script.proofs.writing.put_losses.Goals as goal

pub returns-in_err-put_loss-clause-octets : goal.returns-in_err-put_loss-clause-octets
returns-in_err-put_loss-clause-octets g c =
    line_breaks (loss_line c.args.net.now) c.args.losses.now c.loop-loss.loss-index (record { arc = record { 0 = 0 }; ordinal = 0 }) _ _ _ c.from_residual.result c.loop-loss-test.true c.from_residual.ensures.0 c.loop-loss.invariant.taken c.in_err-put_loss.ensures.octets
