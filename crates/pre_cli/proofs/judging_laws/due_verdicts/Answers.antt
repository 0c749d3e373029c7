use Rattle.std.proofs.Common.{◌≡◌}
use Rattle.pre_cli.specs.declared.statuses.Status.TheVariants as status
use Rattle.pre_cli.specs.Judging.{judging}
use Rattle.pre_cli.proofs.DueAnswers.{not_done}
use Rattle.pre_cli.proofs.DueReadings.{one_outcome, ends_are_due}
use Rattle.pre_cli.proofs.DueVerdicts.{judging_decided}
use Rattle.pre_cli.proofs.JudgeLemmas.{judging_refusing}
use Rattle.pre_cli.proofs.ReadingLemmas.{no_words}
use Rattle.pre_cli.proofs.judging_laws.due_verdicts.Goals as goal

pub returns : goal.returns
returns c = record {
  alone = λ words. one_outcome (judging words) (judging_decided words);
  due = λ words. ends_are_due (judging words) (λ x s. s ≡ status.Done) (judging_decided words);
  words = λ words o. no_words (judging words) (λ x s. s ≡ status.Done) o (judging_refusing words) (λ x e. not_done e);
}
