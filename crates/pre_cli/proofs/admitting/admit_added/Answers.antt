use Rattle.std.proofs.Common.{subst, sym}
use Rattle.pre_cli.specs.declared.statuses.Status.{Status}
use Rattle.pre_cli.specs.Admitting.{AddsTo}
use Rattle.pre_cli.proofs.AdmitLemmas.{opened_to, refused_to}
use Rattle.pre_cli.proofs.admitting.admit_added.Goals as goal

pub returns-in-Ok-clause-ends : goal.returns-in-Ok-clause-ends
returns-in-Ok-clause-ends g c =
    let plan = c.in-Ok.plan in
    opened_to c.args.net.now plan.net.now c.args.added.streams plan.streams c.args.added.more plan.certificate c.admit_to.result (g.S.Sink.faults c.args.sink.now) (g.S.Sink.faults c.admit_to.new.sink)
    (g.S.Sink.tells c.args.sink.now) (g.S.Sink.tells c.admit_to.new.sink) c.in-Ok.ensures.net c.in-Ok.ensures.streams c.in-Ok.ensures.plan c.in-Ok.ensures.none c.admit_to.ensures.ends

pub returns-in-Err-clause-ends : goal.returns-in-Err-clause-ends
returns-in-Err-clause-ends g c =
    let net = c.args.net.now in
    let added = c.args.added in
    let count = g.S.Sink.faults c.args.sink.now in
    let a = g.S.Sink.tells c.args.sink.now in
    subst (λ (s : Status). AddsTo (net, (added.streams, added.more)) s count count a a) (sym c.unfit_status.ensures)
    (refused_to c.in-Err.cause net added.streams added.more count a c.in-Err.ensures.cause c.in-Err.ensures.alone)
