use Rattle.pre_cli.proofs.CertifyLemmas.{flushed_cause, flushed_leaves}
use Rattle.pre_cli.proofs.certifying.put_least.Goals as goal

pub returns-in-Ok-clause-cause : goal.returns-in-Ok-clause-cause
returns-in-Ok-clause-cause g c =
    flushed_cause c.flushed.result c.args.net.now c.args.streams.now (g.S.Sink.faults c.args.sink.now) (g.S.Sink.faults c.put_certificate.new.sink) (g.S.Sink.faults c.flushed.new.sink)
    (g.S.Sink.tells c.put_certificate.new.sink) (g.S.Sink.tells c.flushed.new.sink) c.requires.has c.put_certificate.ensures.cause.later c.flushed.ensures.ends

pub returns-in-Ok-clause-leaves : goal.returns-in-Ok-clause-leaves
returns-in-Ok-clause-leaves g c =
    flushed_leaves c.flushed.result c.args.net.now c.args.streams.now c.args.certificate.now (g.S.Sink.tells c.args.sink.now) (g.S.Sink.tells c.put_certificate.new.sink) (g.S.Sink.tells c.flushed.new.sink) _ _
    c.requires.least c.in-Ok.ensures.octets c.flushed.ensures.ends
