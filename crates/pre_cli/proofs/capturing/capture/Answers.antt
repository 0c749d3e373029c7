use Rattle.std.proofs.Common.{subst}
use Rattle.pre_history.specs.Scenario.{Scenario}
use Rattle.pre_cli.specs.Capturing.{CaptureLeaves}
use Rattle.pre_cli.proofs.CaptureRuns.{flushed_whole, flushed_before}
use Rattle.pre_cli.proofs.capturing.capture.Goals as goal

pub returns-in-Ok-Ended-clause-ends : goal.returns-in-Ok-Ended-clause-ends
returns-in-Ok-Ended-clause-ends g c =
    let w : Scenario = record { net = c.args.net.now; streams = c.args.streams.now; script = c.args.script.now } in
    let before = g.S.Sink.tells c.args.sink.now in
    let told = g.S.Sink.tells c.run.new.sink in
    let is = c.in-Ok-Ended.field-0-is in
    flushed_whole w c.args.arc.0 c.flushed.result before told (g.S.Sink.tells c.flushed.new.sink) _ _
    (subst (λ s. CaptureLeaves w c.args.arc.0 s before told) is c.in-Ok-Ended.ensures.octets) c.flushed.ensures.ends

pub returns-in-Ok-Alias-clause-ends : goal.returns-in-Ok-Alias-clause-ends
returns-in-Ok-Alias-clause-ends g c =
    let w : Scenario = record { net = c.args.net.now; streams = c.args.streams.now; script = c.args.script.now } in
    let before = g.S.Sink.tells c.args.sink.now in
    let told = g.S.Sink.tells c.run.new.sink in
    let is = c.in-Ok-Alias.field-0-is in
    flushed_before w c.args.arc.0 c.in-Ok-Alias.arc c.in-Ok-Alias.ordinal c.flushed-in-Ok-Alias.result before told (g.S.Sink.tells c.flushed-in-Ok-Alias.new.sink) _ _
    (subst (λ s. CaptureLeaves w c.args.arc.0 s before told) is c.in-Ok-Alias.ensures.octets) c.flushed-in-Ok-Alias.ensures.ends
