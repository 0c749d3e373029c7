use Rattle.std.proofs.Common.{List, ◌++◌, subst}
use Rattle.pre_base.specs.Told.{WhereTold}
use Rattle.pre_base.specs.Sinks.{TakesWhole, TakesFront}
use Rattle.pre_admit.specs.declared.admissions.Outcome.{Outcome}
use Rattle.pre_certify.specs.Text.{certificate_text}
use Rattle.pre_cli.specs.Outcomes.{held_lines}
use Rattle.pre_cli.proofs.AdmitLemmas.{flushed_to, torn_to}
use Rattle.pre_cli.proofs.admitting.admit_to.Goals as goal

pub returns-in-Ok-put_held-clause-ends : goal.returns-in-Ok-put_held-clause-ends
returns-in-Ok-put_held-clause-ends g c =
    let plan = c.args.plan.now in
    let after = c.admit_all.new.plan in
    let old = g.S.Sink.tells c.args.sink.now in
    let middle = g.S.Sink.tells c.put_held.new.sink in
    flushed_to plan.net.now after.net.now plan.streams c.args.more after.streams after.certificate c.in-Ok.outcomes c.requires.more c.requires.streams c.in-Ok.ensures.net c.in-Ok.ensures.plan
    c.in-Ok.ensures.outcomes c.in-Ok.ensures.held c.flushed.result (g.S.Sink.faults c.args.sink.now) (g.S.Sink.faults c.put_held.new.sink) (g.S.Sink.faults c.flushed.new.sink)
    old middle (g.S.Sink.tells c.flushed.new.sink) c.put_held.ensures.cause.later
    (subst (λ (l : List Outcome). WhereTold old middle (TakesWhole (held_lines after.streams.rows l ++ certificate_text after.net.now after.streams.rows after.certificate))) c.as_slice.ensures c.in-Ok-put_held.ensures.octets)
    c.flushed.ensures.ends

pub returns-in-Ok-clause-ends : goal.returns-in-Ok-clause-ends
returns-in-Ok-clause-ends g c =
    let plan = c.args.plan.now in
    let after = c.admit_all.new.plan in
    let old = g.S.Sink.tells c.args.sink.now in
    let new = g.S.Sink.tells c.put_held.new.sink in
    torn_to plan.net.now after.net.now plan.streams c.args.more after.streams after.certificate c.in-Ok.outcomes c.requires.more c.requires.streams c.in-Ok.ensures.net c.in-Ok.ensures.plan
    c.in-Ok.ensures.outcomes c.in-Ok.ensures.held (g.S.Sink.faults c.args.sink.now) (g.S.Sink.faults c.put_held.new.sink) old new c.in-Err-put_held.ensures.cause.failed c.put_held.ensures.cause.later
    (subst (λ (l : List Outcome). WhereTold old new (TakesFront (held_lines after.streams.rows l ++ certificate_text after.net.now after.streams.rows after.certificate))) c.as_slice.ensures c.in-Err-put_held.ensures.octets)
