-- The headline, where shelf and sink tell.
use Rattle.std.proofs.Common.{◌≡◌, Option, Some, refl, subst}
use Rattle.pre_base.specs.Told.{WhereTold}
use Rattle.pre_base.specs.Shelves.{Told}
use Rattle.pre_base.specs.Sinks.{Taken}
use Rattle.pre_cli.specs.declared.statuses.Status.TheVariants as status
use Rattle.pre_cli.specs.Answers.{Outside}
use Rattle.pre_cli.specs.Files.{OfFiles}
use Rattle.pre_cli.specs.Due.{TellsFiles}
use Rattle.pre_cli.specs.Headline.{Headline}
use Rattle.pre_cli.specs.Replaying.{scenario_in, certificate_in, replaying, ReplayingLeaves, Replayed}
use Rattle.pre_cli.specs.Words.{ReplayWords}
use Rattle.pre_cli.proofs.DueReadings.{told_as}

pub told_both : (a b : Option Taken) (old new : Taken) (P : Taken → Taken → Type 0) → a ≡ Some old → b ≡ Some new → WhereTold a b P → P old new
told_both a b old new P before after took = subst (λ y. WhereTold (Some old) y P) after (subst (λ x. WhereTold x b P) before took)

pub replayed : (words : ReplayWords) (o : Outside) (told : Told) (old new : Taken) → TellsFiles o told → o.taken_before ≡ Some old → o.taken_after ≡ Some new
    → ReplayingLeaves words status.Done o → Replayed words told.files old new
replayed words o told old new tells before after leaves =
    let took = leaves.done refl in
    let x = took.0 in
    record {
      read = x;
      files_spell_it = (told_as o told (OfFiles ((replaying words).gives x)) tells took.1).1.0;
      headline = told_both o.taken_before o.taken_after old new (Headline (scenario_in x) (certificate_in x)) before after took.2;
    }
