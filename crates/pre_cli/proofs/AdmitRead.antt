-- What was written of admissions is read back, where shelf and sink tell.
use Rattle.std.proofs.Common.{◌≡◌, ℕ, List, ◌++◌, Some, Ok, refl, sym, ◌∙◌, ap}
use Rattle.std.proofs.lemmas.List.{append_cancel_left}
use Rattle.pre_base.specs.Shelves.{Told}
use Rattle.pre_base.specs.Sinks.{Taken}
use Rattle.pre_certify.specs.Text.{certificate_text}
use Rattle.pre_check.specs.Reading.{certificate_of}
use Rattle.pre_check.specs.Seen.{rows_in}
use Rattle.pre_read_back.specs.ReadBack.{CommentsAreSkipped, GoodAreReadBack}
use Rattle.pre_cli.specs.declared.statuses.Status.TheVariants as status
use Rattle.pre_cli.specs.Answers.{Outside}
use Rattle.pre_cli.specs.Files.{OfFiles}
use Rattle.pre_cli.specs.Due.{TellsFiles}
use Rattle.pre_cli.specs.Readings.{AnswerLeaves}
use Rattle.pre_cli.specs.Words.{AdmitWords}
use Rattle.pre_cli.specs.Admitting.{Additions, admitting, Admissions, admission_text, AdmitsAll, AdmitsFront, ReadsAsHeld}
use Rattle.pre_cli.proofs.DueReadings.{told_as}
use Rattle.pre_cli.proofs.OutcomeLines.{comments_of, lines_are_comments, they_are_comments}
use Rattle.pre_cli.proofs.Replayeds.{told_both}

module _ (good : GoodAreReadBack) (skipped : CommentsAreSkipped) where
  spelled : (x : Additions) (a : Admissions x) → certificate_of x.0 a.held (admission_text x a) ≡ Ok (rows_in a.certificate)
  spelled x a =
      let text = certificate_text x.0 a.held.rows a.certificate in
      let comments = comments_of x.1.1.rows a.outcomes in
      let alone = (good x.0 a.held a.certificate a.certificate a.is_theirs.fits a.is_theirs.certified.least.good).0.spells in
      ap (λ (l : List ℕ). certificate_of x.0 a.held (l ++ text)) (lines_are_comments x.1.1.rows a.outcomes)
      ∙ skipped x.0 a.held comments text (rows_in a.certificate) (they_are_comments x.0 x.1.1.rows a.outcomes a.fit.each) alone

  pub read_as_held : (words : AdmitWords) (o : Outside) (told : Told) (old new : Taken) (octets : List ℕ) → TellsFiles o told → o.taken_before ≡ Some old → o.taken_after ≡ Some new
      → new.octets ≡ old.octets ++ octets → AnswerLeaves (admitting words) AdmitsAll AdmitsFront status.Done o → ReadsAsHeld words told.files octets
  read_as_held words o told old new octets tells before after took leaves =
      let t = leaves.done refl in
      let x = t.0 in
      let wrote = (told_both o.taken_before o.taken_after old new _ before after t.2) in
      let a = wrote.0 in
      let its : octets ≡ admission_text x a = append_cancel_left old.octets octets (admission_text x a) (sym took ∙ wrote.1.0) in
      record {
        read = x;
        files_spell_it = (told_as o told (OfFiles ((admitting words).gives x)) tells t.1).1.0.0;
        admissions = a;
        octets_are_theirs = its;
        octets_spell_the_certificate = ap (certificate_of x.0 a.held) its ∙ spelled x a;
      }
