-- The cause of an answer to a capture file leaves no other.
use Rattle.std.proofs.Common.{◌≡◌, ◌⊎◌, inl, inr, ℕ, ◌<◌, ◌≤◌, List, length, Option, Some, None, refl, sym, ◌∙◌, ap, subst, arith}
use Rattle.std.specs.FinMap.{get}
use Rattle.std.proofs.lemmas.Option.{none-some}
use Rattle.pre_base.specs.Faults.{Rose}
use Rattle.pre_base.specs.Told.{WhereTold}
use Rattle.pre_base.specs.Shelves.{Told, IsMissing}
use Rattle.pre_pcap.specs.declared.faults.PcapFault.{PcapFault}
use Rattle.pre_pcap.specs.Records.{PacketRecord}
use Rattle.pre_pcap.specs.Captures.{IsCapture, IsFirstFault}
use Rattle.pre_cli.specs.declared.statuses.FileWord.TheVariants as file
use Rattle.pre_cli.specs.declared.statuses.Status.{Status}
use Rattle.pre_cli.specs.declared.statuses.Status.TheVariants as status
use Rattle.pre_cli.specs.Answers.{Outside}
use Rattle.pre_cli.specs.Due.{TellsFiles, GivesUp}
use Rattle.pre_cli.specs.Scripts.{max_file}
use Rattle.pre_cli.specs.Files.{OfFiles, IsFileIn, IsLongFile}
use Rattle.pre_cli.specs.Dissecting.{fault_status, DissectedCause, DissectingCause, IsDueDissection, MissingCapture, LongCapture, WholeCapture, FaultyCapture}
use Rattle.pre_cli.proofs.DueReadings.{told_as}
use Rattle.pre_cli.proofs.Texts.{some_same}

-- the file that an answer names is the one that is told
module _ (name : List ℕ) (o : Outside) (told : Told) (tells : TellsFiles o told) where
  -- there is none of that name
  module _ (missing : get told.files name ≡ None) where
    not_there : (P : List ℕ → Type 0) → WhereTold o.told_before o.told_after (OfFiles (λ files. (octets : List ℕ) × IsFileIn name octets files × P octets)) → ⊥
    not_there P cause = let found = (told_as o told _ tells cause).1.0 in none-some found.0 (sym missing ∙ found.1.0)

    nor_there : WhereTold o.told_before o.told_after (OfFiles (λ files. (octets : List ℕ) × IsFileIn name octets files)) → ⊥
    nor_there cause = let found = (told_as o told _ tells cause).1.0 in none-some found.0 (sym missing ∙ found.1.0)

    no_form : (s : Status) (P : List ℕ → Type 0) → WhereTold o.told_before o.told_after (OfFiles (λ files. IsLongFile file.Pcap name s files ⊎ ((octets : List ℕ) × IsFileIn name octets files × P octets))) → ⊥
    no_form s P cause =
        elim ((told_as o told _ tells cause).1.0) [
          | inl long ↦ none-some long.0 (sym missing ∙ long.1)
          | inr found ↦ none-some found.0 (sym missing ∙ found.1.0)
        ]

    pub missing_capture : (s : Status) → DissectingCause s name o → (s ≡ status.ReadFault) ⊎ (s ≡ status.Memory)
    missing_capture status.ReadFault cause = inl refl
    missing_capture status.Memory cause = inr refl
    missing_capture status.Done cause = absurd (not_there (λ octets. DissectedCause status.Done octets o.sink_before o.sink_after) cause)
    missing_capture status.WriteFault cause = absurd (nor_there cause.1)
    missing_capture (status.Form kind line rule) cause = absurd (no_form (status.Form kind line rule) (λ octets. DissectedCause (status.Form kind line rule) octets o.sink_before o.sink_after) cause)
    missing_capture status.Words cause = absurd cause
    missing_capture (status.Rules kind row rule) cause = absurd cause
    missing_capture (status.Unfit u) cause = absurd cause
    missing_capture (status.Rejected clause row) cause = absurd cause
    missing_capture (status.Unruly line) cause = absurd cause
    missing_capture (status.Unsettled arc prio) cause = absurd cause
    missing_capture status.NoArc cause = absurd cause
    missing_capture (status.Alias arc ordinal) cause = absurd cause

  -- these are its octets
  module _ (octets : List ℕ) (at : get told.files name ≡ Some octets) where
    gave_up : IsMissing o.told_before name ⊎ Rose o.shelf_before o.shelf_after → GivesUp o status.ReadFault
    gave_up (inl missing) = absurd (none-some octets (sym (subst (λ (a : Option Told). IsMissing a name) tells.0 missing) ∙ at))
    gave_up (inr rose) = inr (refl, rose)

    same : (other : List ℕ) → get told.files name ≡ Some other → other ≡ octets
    same other was = some_same other octets (sym was ∙ at)

    found_short : (P : List ℕ → Type 0) → WhereTold o.told_before o.told_after (OfFiles (λ files. (x : List ℕ) × IsFileIn name x files × P x)) → P octets
    found_short P cause = let found = (told_as o told _ tells cause).1.0 in subst P (same found.0 found.1.0) found.2

    found_form : (s : Status) (P : List ℕ → Type 0) → WhereTold o.told_before o.told_after (OfFiles (λ files. IsLongFile file.Pcap name s files ⊎ ((x : List ℕ) × IsFileIn name x files × P x)))
        → ((max_file < length octets) × (s ≡ status.Form file.Pcap 0 0)) ⊎ ((length octets ≤ max_file) × P octets)
    found_form s P cause =
        elim ((told_as o told _ tells cause).1.0) [
          | inl long ↦ inl (subst (λ (x : List ℕ). max_file < length x) (same long.0 long.1) long.2, long.3)
          | inr found ↦ inr (subst (λ (x : List ℕ). length x ≤ max_file) (same found.0 found.1.0) found.1.1, subst P (same found.0 found.1.0) found.2)
        ]

    -- more of them than a file may have
    module _ (long : max_file < length octets) where
      too_long : WhereTold o.told_before o.told_after (OfFiles (λ files. (x : List ℕ) × IsFileIn name x files)) → ⊥
      too_long cause =
          let found = (told_as o told _ tells cause).1.0 in
          let few : length octets ≤ max_file = subst (λ (x : List ℕ). length x ≤ max_file) (same found.0 found.1.0) found.1.1 in
          omega (arith, few, long)

      and_too_long : (P : List ℕ → Type 0) → WhereTold o.told_before o.told_after (OfFiles (λ files. (x : List ℕ) × IsFileIn name x files × P x)) → ⊥
      and_too_long P cause =
          let found = (told_as o told _ tells cause).1.0 in
          let few : length octets ≤ max_file = subst (λ (x : List ℕ). length x ≤ max_file) (same found.0 found.1.0) found.1.1 in
          omega (arith, few, long)

      pub long_capture : (s : Status) → DissectingCause s name o → (s ≡ status.Form file.Pcap 0 0) ⊎ GivesUp o s
      long_capture status.ReadFault cause = inr (gave_up cause)
      long_capture status.Memory cause = inr (inl refl)
      long_capture status.Done cause = absurd (and_too_long (λ x. DissectedCause status.Done x o.sink_before o.sink_after) cause)
      long_capture status.WriteFault cause = absurd (too_long cause.1)
      long_capture (status.Form kind line rule) cause =
          elim (found_form (status.Form kind line rule) (λ x. DissectedCause (status.Form kind line rule) x o.sink_before o.sink_after) cause) [
            | inl is ↦ inl is.1
            | inr short ↦ absurd (omega (arith, short.0, long))
          ]
      long_capture status.Words cause = absurd cause
      long_capture (status.Rules kind row rule) cause = absurd cause
      long_capture (status.Unfit u) cause = absurd cause
      long_capture (status.Rejected clause row) cause = absurd cause
      long_capture (status.Unruly line) cause = absurd cause
      long_capture (status.Unsettled arc prio) cause = absurd cause
      long_capture status.NoArc cause = absurd cause
      long_capture (status.Alias arc ordinal) cause = absurd cause

    module _ (apart : (octets : List ℕ) (records : List PacketRecord) (e : PcapFault) → IsCapture records octets → IsFirstFault e octets → ⊥) (short : length octets ≤ max_file) where
      -- they are a capture
      module _ (records : List PacketRecord) (is : IsCapture records octets) where
        pub whole_capture : (s : Status) → DissectingCause s name o → IsDueDissection o status.Done s
        whole_capture status.Done cause = inl refl
        whole_capture status.WriteFault cause = inr (inl (refl, cause.0))
        whole_capture status.ReadFault cause = inr (inr (gave_up cause))
        whole_capture status.Memory cause = inr (inr (inl refl))
        whole_capture (status.Form kind line rule) cause =
            elim (found_form (status.Form kind line rule) (λ x. DissectedCause (status.Form kind line rule) x o.sink_before o.sink_after) cause) [
              | inl long ↦ absurd (omega (arith, short, long.0))
              | inr found ↦ absurd (apart octets records found.1.0 is found.1.1)
            ]
        whole_capture status.Words cause = absurd cause
        whole_capture (status.Rules kind row rule) cause = absurd cause
        whole_capture (status.Unfit u) cause = absurd cause
        whole_capture (status.Rejected clause row) cause = absurd cause
        whole_capture (status.Unruly line) cause = absurd cause
        whole_capture (status.Unsettled arc prio) cause = absurd cause
        whole_capture status.NoArc cause = absurd cause
        whole_capture (status.Alias arc ordinal) cause = absurd cause

      -- they have this first fault
      module _ (one : (octets : List ℕ) (e f : PcapFault) → IsFirstFault e octets → IsFirstFault f octets → e ≡ f) (e : PcapFault) (is : IsFirstFault e octets) where
        pub faulty_capture : (s : Status) → DissectingCause s name o → IsDueDissection o (fault_status e) s
        faulty_capture status.Done cause =
            let found = found_short (λ x. DissectedCause status.Done x o.sink_before o.sink_after) cause in
            absurd (apart octets found.0 e found.1 is)
        faulty_capture status.WriteFault cause = inr (inl (refl, cause.0))
        faulty_capture status.ReadFault cause = inr (inr (gave_up cause))
        faulty_capture status.Memory cause = inr (inr (inl refl))
        faulty_capture (status.Form kind line rule) cause =
            elim (found_form (status.Form kind line rule) (λ x. DissectedCause (status.Form kind line rule) x o.sink_before o.sink_after) cause) [
              | inl long ↦ absurd (omega (arith, short, long.0))
              | inr found ↦ inl (found.1.2 ∙ ap (λ (f : PcapFault). fault_status f) (one octets found.1.0 e found.1.1 is))
            ]
        faulty_capture status.Words cause = absurd cause
        faulty_capture (status.Rules kind row rule) cause = absurd cause
        faulty_capture (status.Unfit u) cause = absurd cause
        faulty_capture (status.Rejected clause row) cause = absurd cause
        faulty_capture (status.Unruly line) cause = absurd cause
        faulty_capture (status.Unsettled arc prio) cause = absurd cause
        faulty_capture status.NoArc cause = absurd cause
        faulty_capture (status.Alias arc ordinal) cause = absurd cause
