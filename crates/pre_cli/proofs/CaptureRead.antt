-- A capture that was taken is read back, where shelf and sink tell.
use Rattle.std.proofs.Common.{◌≡◌, ℕ, ◌<◌, List, ◌++◌, length, map, Some, refl, sym, ◌∙◌, ap, subst, All}
use Rattle.std.proofs.lemmas.List.{append_cancel_left}
use Rattle.pre_base.specs.Shelves.{Told}
use Rattle.pre_base.specs.Sinks.{Taken}
use Rattle.pre_base.specs.declared.numbers.ArcId.{ArcId}
use Rattle.pre_pcap.specs.Captures.{IsCapture}
use Rattle.pre_pcap.specs.Written.{Stamped, CanBeWritten, stamped_record, capture_octets}
use Rattle.pre_history.specs.Scenario.{Scenario}
use Rattle.pre_history.specs.History.{History}
use Rattle.pre_history.specs.Legal.{Legal, FirstAliasAt}
use Rattle.pre_dissect.specs.Captured.{Recorded, CaptureOf}
use Rattle.pre_dissect.specs.Dissections.{DissectText}
use Rattle.pre_dissect.specs.Fronts.{FilesFit}
use Rattle.pre_dissect.specs.Results.{TextTells}
use Rattle.pre_cli.specs.declared.statuses.Status.TheVariants as status
use Rattle.pre_cli.specs.Answers.{Outside}
use Rattle.pre_cli.specs.Capturing.{Capture, capturing, scenario_in, watched_arc, CapturingLeaves, ReadsAsTold}
use Rattle.pre_cli.specs.Files.{OfFiles}
use Rattle.pre_cli.specs.Due.{TellsFiles}
use Rattle.pre_cli.specs.Readings.{Gave}
use Rattle.pre_cli.specs.Words.{CaptureWords}
use Rattle.pre_cli.specs.Written.{IsBeforeAlias}
use Rattle.pre_cli.proofs.DueReadings.{told_as}
use Rattle.pre_cli.proofs.Replayeds.{told_both}

-- what is known of the captures of histories
pub record CapturesAreRead : Type 0 where
  pub fits : (w : Scenario) (h : History) (a : ℕ) → a < length w.net.arcs → FilesFit w → Legal w h → All CanBeWritten (Recorded w h a)
  pub whole : (w : Scenario) (h : History) (a : ℕ) → a < length w.net.arcs → FilesFit w → Legal w h → (text : List ℕ) → DissectText (CaptureOf w h a) text → TextTells w h a text
  pub fits_before : (w : Scenario) (h : History) (a t b i : ℕ) → a < length w.net.arcs → FilesFit w → FirstAliasAt w h t b i → All CanBeWritten (Recorded w h a)
  pub before : (w : Scenario) (h : History) (a t b i : ℕ) → a < length w.net.arcs → FilesFit w → FirstAliasAt w h t b i → (text : List ℕ) → DissectText (CaptureOf w h a) text → TextTells w h a text
  pub read : (all : List Stamped) → All CanBeWritten all → IsCapture (map stamped_record all) (capture_octets all)

module _ (known : CapturesAreRead) (words : CaptureWords) (o : Outside) (told : Told) (old new : Taken) (octets : List ℕ) (tells : TellsFiles o told) (before : o.taken_before ≡ Some old)
    (after : o.taken_after ≡ Some new) (took : new.octets ≡ old.octets ++ octets) where
  module _ (IsSo : Scenario → History → Type 0) (x : Capture) (given : Gave (capturing words) o x) (h : History) (so : IsSo (scenario_in x) h)
      (is : new.octets ≡ old.octets ++ CaptureOf (scenario_in x) h (watched_arc x)) (fits : All CanBeWritten (Recorded (scenario_in x) h (watched_arc x)))
      (told_text : (text : List ℕ) → DissectText (CaptureOf (scenario_in x) h (watched_arc x)) text → TextTells (scenario_in x) h (watched_arc x) text) where
    its : octets ≡ CaptureOf (scenario_in x) h (watched_arc x)
    its = append_cancel_left old.octets octets (CaptureOf (scenario_in x) h (watched_arc x)) (sym took ∙ is)

    read_as : ReadsAsTold words told.files IsSo octets
    read_as = record {
      read = x;
      files_spell_it = (told_as o told (OfFiles ((capturing words).gives x)) tells given).1.0;
      history = h;
      history_is_so = so;
      octets_are_its = its;
      octets_are_a_file = subst (λ l. IsCapture (map stamped_record (Recorded (scenario_in x) h (watched_arc x))) l) (sym its) (known.read (Recorded (scenario_in x) h (watched_arc x)) fits);
      text_tells = λ text dissected. told_text text (subst (λ l. DissectText l text) its dissected);
    }

  pub whole_read : CapturingLeaves words status.Done o → ReadsAsTold words told.files Legal octets
  whole_read leaves =
      let t = leaves.done refl in
      let x = t.0 in
      let c = (told_both o.taken_before o.taken_after old new _ before after t.2).0 in
      read_as Legal x t.1 c.history c.history_is_legal c.capture_is_its
      (known.fits (scenario_in x) c.history (watched_arc x) c.arc_is_known c.files_fit c.history_is_legal)
      (known.whole (scenario_in x) c.history (watched_arc x) c.arc_is_known c.files_fit c.history_is_legal)

  pub front_read : (arc : ArcId) (ordinal : ℕ) → CapturingLeaves words (status.Alias arc ordinal) o → ReadsAsTold words told.files (λ w h. IsBeforeAlias w arc.0 ordinal h) octets
  front_read arc ordinal leaves =
      let t = leaves.alias arc ordinal refl in
      let x = t.0 in
      let c = (told_both o.taken_before o.taken_after old new _ before after t.2).0 in
      let first = c.history_is_before in
      read_as (λ w h. IsBeforeAlias w arc.0 ordinal h) x t.1 c.history first c.capture_is_its
      (known.fits_before (scenario_in x) c.history (watched_arc x) first.0 arc.0 ordinal c.arc_is_known c.files_fit first.1)
      (known.before (scenario_in x) c.history (watched_arc x) first.0 arc.0 ordinal c.arc_is_known c.files_fit first.1)
