use Rattle.pre_script.specs.declared.scripts.Setting.TheVariants.{On}
use Rattle.pre_script.specs.Text.{set_line}
use Rattle.pre_script.proofs.Lines.{line_breaks}
use Rattle.pre_script.proofs.writing.put_sets.Goals as goal

pub returns-in_err-put_set-clause-octets : goal.returns-in_err-put_set-clause-octets
returns-in_err-put_set-clause-octets g c =
    line_breaks (set_line c.args.net.now) c.args.sets.now c.loop-line.line-index (record { tick = record { 0 = 0 }; arc = record { 0 = 0 }; value = On }) _ _ _ c.from_residual.result c.loop-line-test.true c.from_residual.ensures.0 c.loop-line.invariant.taken c.in_err-put_set.ensures.octets
