use Rattle.pre_cli.specs.Replaying.{RunsTo, replaying, scenario_in}
use Rattle.pre_cli.proofs.DueAnswers.{wrong_words, known_words, runs_to_one}
use Rattle.pre_cli.proofs.DueReadings.{one_outcome, ends_are_due}
use Rattle.pre_cli.proofs.DueReplaying.{replaying_decided}
use Rattle.pre_cli.proofs.laws.due_answers.Goals as goal

pub returns : goal.returns
returns c = record {
  words = wrong_words;
  known = known_words;
  alone = λ words. one_outcome (replaying words) (replaying_decided words);
  runs = λ w. runs_to_one w c.one_history.ensures.some c.one_history.ensures.legal c.one_history.ensures.never_both c.one_history.ensures.one_alias;
  replay = λ words. ends_are_due (replaying words) (λ x s. RunsTo (scenario_in x) s) (replaying_decided words);
}
