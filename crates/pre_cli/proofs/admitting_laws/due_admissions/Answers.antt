use Rattle.std.proofs.Common.{◌≡◌}
use Rattle.pre_cli.specs.declared.statuses.Status.TheVariants as status
use Rattle.pre_cli.specs.Admitting.{adding, admitting}
use Rattle.pre_cli.proofs.AdmitLemmas.{admitting_refusing}
use Rattle.pre_cli.proofs.DueAdmissions.{adding_decided, admission_due, good_takes_more, cause_refuses}
use Rattle.pre_cli.proofs.DueAnswers.{not_done}
use Rattle.pre_cli.proofs.DueReadings.{one_outcome}
use Rattle.pre_cli.proofs.ReadingLemmas.{no_words}
use Rattle.pre_cli.proofs.admitting_laws.due_admissions.Goals as goal

pub returns : goal.returns
returns c = record {
  alone = λ words. one_outcome (adding words) (adding_decided words);
  due = λ words s read o told tells came cause. admission_due words s o told tells read came cause;
  complete = λ words s x o told tells given good cause. good_takes_more words s o told tells x given cause good;
  refusal = λ words s x e o told tells given not why cause. cause_refuses words s o told tells x given cause e not why;
  words = λ words o. no_words (admitting words) (λ x s. s ≡ status.Done) o (admitting_refusing words) (λ x e. not_done e);
}
