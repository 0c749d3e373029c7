use Rattle.std.proofs.Common.{◌≡◌}
use Rattle.pre_history.specs.Scenario.{Scenario}
use Rattle.pre_cli.specs.declared.statuses.Status.{Status}
use Rattle.pre_cli.specs.Replaying.{RunsTo}
use Rattle.pre_cli.proofs.DueAnswers.{runs_to_one}
use Rattle.pre_cli.proofs.DueDrills.{drill_runs, drill_refuses}
use Rattle.pre_cli.proofs.drilling_laws.due_drills.Goals as goal

pub returns : goal.returns
returns c =
    let leads : (w : Scenario) → (s : Status) × RunsTo w s × ((t : Status) → RunsTo w t → t ≡ s) = λ w. runs_to_one w c.one_history.ensures.some c.one_history.ensures.legal c.one_history.ensures.never_both c.one_history.ensures.one_alias in
    record {
      runs = λ number x s t before now good to cause. drill_runs c.plants_are_one.ensures leads number x s t before now good to cause;
      refuses = λ number x s before now e not why cause. drill_refuses c.plants_are_one.ensures leads number x e not why s before now cause;
    }
