use Rattle.std.proofs.Common.{◌⊎◌, inl, inr, List, subst, sym}
use Rattle.pre_streams.specs.declared.rows.Row as stream_row
use Rattle.pre_rounds.specs.Causes as of_rounds
use Rattle.pre_cli.specs.Certifying.{IsAnswerTo}
use Rattle.pre_cli.proofs.CertifyLemmas.{fault_cause}
use Rattle.pre_cli.proofs.certifying.certify_rounds.Goals as goal

pub put_least-requires-clause-least : goal.put_least-requires-clause-least
put_least-requires-clause-least g c = inr (c.requires.cycle, record { least = c.in-Ok.ensures.least; unranked = c.in-Ok.ensures.unranked; settled = c.in-Ok.ensures.numbers })

pub put_least-requires-clause-has : goal.put_least-requires-clause-has
put_least-requires-clause-has g c =
    inr (record { cycle = c.requires.cycle; certificate = c.in-Ok.certificate; least = record { least = c.in-Ok.ensures.least; unranked = c.in-Ok.ensures.unranked; settled = c.in-Ok.ensures.numbers }; none = c.in-Ok.ensures.none })

pub rounds_status-requires : goal.rounds_status-requires
rounds_status-requires g c = (c.args.net.now, subst (λ (l : List stream_row.Row). of_rounds.Cause c.args.net.now l c.in-Err.fault) (sym c.as_slice.ensures) c.in-Err.ensures.cause)

pub returns-in-Err-clause-cause : goal.returns-in-Err-clause-cause
returns-in-Err-clause-cause g c =
    fault_cause c.in-Err.fault c.rounds_status.result c.args.net.now c.args.streams.now (g.S.Sink.faults c.args.sink.now) (g.S.Sink.faults c.args.sink.now) c.requires.cycle c.in-Err.ensures.cause c.in-Err.ensures.alone
    (subst (λ (l : List stream_row.Row). IsAnswerTo c.in-Err.fault l c.rounds_status.result) c.as_slice.ensures c.rounds_status.ensures)
