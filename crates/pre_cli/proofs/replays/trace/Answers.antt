use Rattle.std.proofs.Common.{subst}
use Rattle.pre_history.specs.Scenario.{Scenario}
use Rattle.pre_cli.specs.Runs.{RunLeaves}
use Rattle.pre_cli.proofs.Runs.{flushed_before}
use Rattle.pre_cli.proofs.replays.trace.Goals as goal

pub returns-in-Ok-Alias-clause-ends : goal.returns-in-Ok-Alias-clause-ends
returns-in-Ok-Alias-clause-ends g c =
    let w : Scenario = record { net = c.args.net.now; streams = c.args.streams.now; script = c.args.script.now } in
    let before = g.S.Sink.tells c.args.sink.now in
    let told = g.S.Sink.tells c.run.new.sink in
    let is = c.in-Ok-Alias.field-0-is in
    flushed_before w c.in-Ok-Alias.arc c.in-Ok-Alias.ordinal c.flushed-in-Ok-Alias.result before told (g.S.Sink.tells c.flushed-in-Ok-Alias.new.sink) _ _
    (subst (λ s. RunLeaves w s before told) is c.in-Ok-Alias.ensures.octets) c.flushed-in-Ok-Alias.ensures.ends
