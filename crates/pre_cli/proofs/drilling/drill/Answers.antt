use Rattle.std.proofs.Common.{◌≡◌, sym, subst}
use Rattle.pre_cli.specs.declared.statuses.Status.{Status}
use Rattle.pre_cli.specs.Drilling.{Drill, DrillingCause}
use Rattle.pre_cli.proofs.DrillLemmas.{refused_cause}
use Rattle.pre_cli.proofs.drilling.drill.Goals as goal

pub returns-clause-cause : goal.returns-clause-cause
returns-clause-cause g c =
    let x : Drill c.args.number = record { net = c.in-Ok.net; streams = c.in-Ok.streams; script = c.in-Ok.script; is_plant = c.in-Ok.ensures.plant } in
    let before = g.S.Sink.faults c.args.sink.now in
    subst (λ (s : Status). DrillingCause c.args.number s before before) (sym c.unfit_status.ensures) (refused_cause c.args.number x c.in-Err.cause before before c.in-Err.ensures.cause c.in-Err.ensures.alone)
