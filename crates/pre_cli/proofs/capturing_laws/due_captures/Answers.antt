use Rattle.pre_cli.specs.Capturing.{capturing, scenario_in}
use Rattle.pre_cli.specs.Replaying.{RunsTo}
use Rattle.pre_cli.proofs.DueCaptures.{capturing_decided}
use Rattle.pre_cli.proofs.DueReadings.{one_outcome, ends_are_due}
use Rattle.pre_cli.proofs.capturing_laws.due_captures.Goals as goal

pub returns : goal.returns
returns c = record {
  alone = λ words. one_outcome (capturing words) (capturing_decided words);
  due = λ words. ends_are_due (capturing words) (λ x s. RunsTo (scenario_in x) s) (capturing_decided words);
}
