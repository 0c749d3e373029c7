use Rattle.std.proofs.Common.{rules}
use Rattle.pre_base.specs.Told.{WhereTold}
use Rattle.pre_base.specs.Sinks.{TakesWhole, TakesFront}
use Rattle.pre_certify.specs.Text.{certificate_text}
use Rattle.pre_cli.specs.Outcomes.{held_lines}
use Rattle.pre_cli.proofs.Two.{two_breaks, two_ends}
use Rattle.pre_cli.proofs.admitting.put_held.Goals as goal

pub returns-in_err-put_outcomes-clause-octets : goal.returns-in_err-put_outcomes-clause-octets
returns-in_err-put_outcomes-clause-octets g c =
    let before = g.S.Sink.tells c.args.sink.now in
    let after = g.S.Sink.tells c.put_outcomes.new.sink in
    let took : WhereTold before after (TakesFront (held_lines c.args.plan.now.streams.rows c.args.outcomes.now)) = search rules in
    two_breaks before after (held_lines c.args.plan.now.streams.rows c.args.outcomes.now) (certificate_text c.args.plan.now.net.now c.args.plan.now.streams.rows c.args.plan.now.certificate) c.from_residual.result c.from_residual.ensures.0 took

pub returns-clause-octets : goal.returns-clause-octets
returns-clause-octets g c =
    let before = g.S.Sink.tells c.args.sink.now in
    let after = g.S.Sink.tells c.put_outcomes.new.sink in
    let took : WhereTold before after (TakesWhole (held_lines c.args.plan.now.streams.rows c.args.outcomes.now)) = search rules in
    two_ends before after (g.S.Sink.tells c.put_certificate.new.sink) (held_lines c.args.plan.now.streams.rows c.args.outcomes.now) (certificate_text c.args.plan.now.net.now c.args.plan.now.streams.rows c.args.plan.now.certificate) c.put_certificate.result took c.put_certificate.ensures.octets
