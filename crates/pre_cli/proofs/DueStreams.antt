-- The cause of an answer leaves no other, where a network is read.
use Rattle.std.proofs.Common.{◌≡◌, ◌≢◌, ◌⊎◌, inl, inr, ℕ, List, Some, None, refl, sym, ◌∙◌, ap, subst, map, false}
use Rattle.std.proofs.lemmas.Option.{none-some}
use Rattle.pre_base.specs.Shelves.{Told, Files}
use Rattle.pre_topo.specs.declared.network.Network.{Network}
use Rattle.pre_topo.specs.NetworkOf.{network_of, parts_of}
use Rattle.pre_streams.specs.declared.rows.Streams.{Streams}
use Rattle.pre_streams.specs.StreamsOf.{streams_of}
use Rattle.pre_streams.specs.Made.{row_parts}
use Rattle.pre_bound.specs.Listed.{HasGood}
use Rattle.pre_certify.specs.Causes as causes
use Rattle.pre_certify.specs.declared.unfit.Unfit.{Unfit}
use Rattle.pre_certify.specs.declared.unfit.Unfit.TheVariants as unfit
use Rattle.pre_cli.specs.declared.statuses.Status.{Status}
use Rattle.pre_cli.specs.declared.statuses.FileWord.TheVariants as file
use Rattle.pre_cli.specs.declared.statuses.Status.TheVariants as status
use Rattle.pre_cli.specs.Answers.{Outside}
use Rattle.pre_cli.specs.Due.{GivesUp, TellsFiles}
use Rattle.pre_base.specs.declared.numbers.ArcId.{ArcId}
use Rattle.pre_certify.specs.Refusals.{names_cycle}
use Rattle.pre_rounds.specs.declared.faults.RoundsFault.{RoundsFault}
use Rattle.pre_rounds.specs.declared.faults.RoundsFault.TheVariants as rounds
use Rattle.pre_rounds.specs.Causes as of_rounds
use Rattle.pre_rounds.specs.Answers.{NoneCaused}
use Rattle.pre_cli.specs.Files.{text_named, stream_status, OfFiles, IsNetIn, AreStreamsIn, StreamsRefused, pair_network, pair_streams}
use Rattle.pre_cli.specs.Certifying.{HasCertificate, UnfitCause, HaveCycle, HasNone, IsAnswerTo, AreBothIn, RefusedIn, GoneIn, HasBoth, CertifyingCause}
use Rattle.pre_cli.specs.DueCertificates.{IsCertified, IsDueForBoth, RefusesAs}
use Rattle.pre_cli.proofs.DueReadings.{told_as}
use Rattle.pre_cli.proofs.CertifyLemmas.{true_false}
use Rattle.pre_cli.proofs.DueCertificate.{same_text, too_long, net_not, none_net}
use Rattle.pre_cli.proofs.OneReading.{one_network, one_streams}
use Rattle.pre_cli.proofs.Texts.{err_same, ok_err, ok_same}

-- a word is one network, and one list of streams for it
cycle_memory : (arcs : List ArcId) → unfit.Cycle arcs ≡ unfit.Memory → ⊥
cycle_memory arcs e = cc

same_network : (word : List ℕ) (net other : Network) (files : Files) → IsNetIn word net files → IsNetIn word other files → net ≡ other
same_network word net other files (x, p, read) (y, q, read_too) =
    let same : x ≡ y = same_text pair_network word x y files p.is q.is in
    one_network net other (ok_same (network_of x) (parts_of net) (parts_of other) read (ap network_of same ∙ read_too))

same_streams : (word : List ℕ) (net : Network) (streams other : Streams) (files : Files) → AreStreamsIn word net streams files → AreStreamsIn word net other files → streams ≡ other
same_streams word net streams other files (x, p, read) (y, q, read_too) =
    let same : x ≡ y = same_text pair_streams word x y files p.is q.is in
    one_streams streams other (ok_same (streams_of net x) (map row_parts streams.rows) (map row_parts other.rows) read (ap (streams_of net) same ∙ read_too))

-- streams that are refused are refused so alone
streams_one : (word : List ℕ) (net : Network) (s t : Status) (files : Files) → StreamsRefused word net s files → StreamsRefused word net t files → s ≡ t
streams_one word net s t files (inl p) (inl q) = p.3 ∙ sym q.3
streams_one word net s t files (inl p) (inr (y, q, (fault, read, is))) = absurd (too_long p.0 y (same_text pair_streams word p.0 y files p.1 q.is) p.2 q.short)
streams_one word net s t files (inr (x, p, (fault, read, is))) (inl q) = absurd (too_long q.0 x (same_text pair_streams word q.0 x files q.1 p.is) q.2 p.short)
streams_one word net s t files (inr (x, p, (fault, read, is))) (inr (y, q, (other, read_too, is_too))) =
    let same : x ≡ y = same_text pair_streams word x y files p.is q.is in
    is ∙ ap (stream_status file.Streams) (err_same (streams_of net x) fault other read (ap (streams_of net) same ∙ read_too)) ∙ sym is_too

-- and are none
streams_not : (word : List ℕ) (net : Network) (s : Status) (streams : Streams) (files : Files) → StreamsRefused word net s files → AreStreamsIn word net streams files → ⊥
streams_not word net s streams files (inl p) (y, q, read) = too_long p.0 y (same_text pair_streams word p.0 y files p.1 q.is) p.2 q.short
streams_not word net s streams files (inr (x, p, (fault, read, is))) (y, q, read_too) =
    let same : x ≡ y = same_text pair_streams word x y files p.is q.is in
    ok_err (streams_of net x) (map row_parts streams.rows) fault (ap (streams_of net) same ∙ read_too) read

streams_there : (word : List ℕ) (net : Network) (s : Status) (files : Files) → StreamsRefused word net s files → text_named pair_streams word files ≡ None → ⊥
streams_there word net s files (inl p) none = none-some p.0 (sym none ∙ p.1)
streams_there word net s files (inr (x, p, rest)) none = none-some x (sym none ∙ p.is)

none_streams : (word : List ℕ) (net : Network) (streams : Streams) (files : Files) → text_named pair_streams word files ≡ None → AreStreamsIn word net streams files → ⊥
none_streams word net streams files none (x, p, read) = none-some x (sym none ∙ p.is)

module _ (net_word streams_word : List ℕ) (o : Outside) (told : Told) (tells : TellsFiles o told) (net : Network) (read : IsNetIn net_word net told.files) where
  -- a fact of the network that is read holds of this one
  here : (P : Network → Type 0) (other : Network) → IsNetIn net_word other told.files → P other → P net
  here P other is p = subst P (same_network net_word other net told.files is read) p

  gone : GoneIn net_word streams_word (Some told) → text_named pair_streams streams_word told.files ≡ None
  gone (inl none) = absurd (none_net net_word net told.files none read)
  gone (inr (other, is, none)) = none

  gone_told : GoneIn net_word streams_word o.told_before → text_named pair_streams streams_word told.files ≡ None
  gone_told lost = gone (subst (λ a. GoneIn net_word streams_word a) tells.0 lost)

  -- which streams are read, and which are refused
  both_streams : HasBoth net_word streams_word o → (streams : Streams) × AreStreamsIn streams_word net streams told.files × HasCertificate net streams
  both_streams (other, streams, are, least) =
      let found = (told_as o told (OfFiles (AreBothIn net_word streams_word other streams)) tells are).1.0 in
      here (λ n. (rows : Streams) × AreStreamsIn streams_word n rows told.files × HasCertificate n rows) other found.0 (streams, found.1, least)

  refused_streams : (s : Status) → RefusedIn net_word streams_word s told.files
      → StreamsRefused streams_word net s told.files ⊎ ((streams : Streams) × AreStreamsIn streams_word net streams told.files × HasNone s net streams)
  refused_streams s (inl p) = absurd (net_not net_word s net told.files p read)
  refused_streams s (inr (inl (other, is, p))) = inl (here (λ n. StreamsRefused streams_word n s told.files) other is p)
  refused_streams s (inr (inr (other, streams, are, cause))) =
      inr (here (λ n. (rows : Streams) × AreStreamsIn streams_word n rows told.files × HasNone s n rows) other are.0 (streams, are.1, cause))

  -- ---- streams whose text isn't there

  module _ (none : text_named pair_streams streams_word told.files ≡ None) where
    none_refused : (s : Status) → RefusedIn net_word streams_word s told.files → ⊥
    none_refused s p =
        elim (refused_streams s p) [
          | inl q ↦ streams_there streams_word net s told.files q none
          | inr (streams, are, cause) ↦ none_streams streams_word net streams told.files none are
        ]

    none_both : HasBoth net_word streams_word o → ⊥
    none_both both = let found = both_streams both in none_streams streams_word net found.0 told.files none found.1

    pub missing_streams : (s : Status) → CertifyingCause s net_word streams_word o → (s ≡ status.ReadFault) ⊎ (s ≡ status.Memory)
    missing_streams status.ReadFault cause = inl refl
    missing_streams status.Memory cause = inr refl
    missing_streams status.Done cause = absurd (none_both cause)
    missing_streams status.WriteFault cause = absurd (none_both cause.1)
    missing_streams (status.Form kind line rule) cause = absurd (none_refused (status.Form kind line rule) (told_as o told (OfFiles (RefusedIn net_word streams_word (status.Form kind line rule))) tells cause).1.0)
    missing_streams (status.Rules kind row rule) cause = absurd (none_refused (status.Rules kind row rule) (told_as o told (OfFiles (RefusedIn net_word streams_word (status.Rules kind row rule))) tells cause).1.0)
    missing_streams (status.Unfit u) cause = absurd (none_refused (status.Unfit u) (told_as o told (OfFiles (RefusedIn net_word streams_word (status.Unfit u))) tells cause).1.0)
    missing_streams (status.Unsettled arc prio) cause = absurd (none_refused (status.Unsettled arc prio) (told_as o told (OfFiles (RefusedIn net_word streams_word (status.Unsettled arc prio))) tells cause).1.0)
    missing_streams status.Words cause = absurd cause
    missing_streams (status.Rejected clause row) cause = absurd cause
    missing_streams (status.Unruly line) cause = absurd cause
    missing_streams status.NoArc cause = absurd cause
    missing_streams (status.Alias arc ordinal) cause = absurd cause

  -- ---- streams that are refused

  module _ (t : Status) (refused : StreamsRefused streams_word net t told.files) where
    refused_one : (s : Status) → RefusedIn net_word streams_word s told.files → s ≡ t
    refused_one s p =
        elim (refused_streams s p) [
          | inl q ↦ streams_one streams_word net s t told.files q refused
          | inr (streams, are, cause) ↦ absurd (streams_not streams_word net t streams told.files refused are)
        ]

    not_both : HasBoth net_word streams_word o → ⊥
    not_both both = let found = both_streams both in streams_not streams_word net t found.0 told.files refused found.1

    pub refused_as_due : (s : Status) → CertifyingCause s net_word streams_word o → (s ≡ t) ⊎ GivesUp o s
    refused_as_due status.Done cause = absurd (not_both cause)
    refused_as_due status.WriteFault cause = absurd (not_both cause.1)
    refused_as_due status.ReadFault (inl lost) = absurd (streams_there streams_word net t told.files refused (gone_told lost))
    refused_as_due status.ReadFault (inr rose) = inr (inr (refl, rose))
    refused_as_due (status.Form kind line rule) cause = inl (refused_one (status.Form kind line rule) (told_as o told (OfFiles (RefusedIn net_word streams_word (status.Form kind line rule))) tells cause).1.0)
    refused_as_due (status.Rules kind row rule) cause = inl (refused_one (status.Rules kind row rule) (told_as o told (OfFiles (RefusedIn net_word streams_word (status.Rules kind row rule))) tells cause).1.0)
    refused_as_due (status.Unfit u) cause = inl (refused_one (status.Unfit u) (told_as o told (OfFiles (RefusedIn net_word streams_word (status.Unfit u))) tells cause).1.0)
    refused_as_due (status.Unsettled arc prio) cause = inl (refused_one (status.Unsettled arc prio) (told_as o told (OfFiles (RefusedIn net_word streams_word (status.Unsettled arc prio))) tells cause).1.0)
    refused_as_due status.Memory cause = inr (inl refl)
    refused_as_due status.Words cause = absurd cause
    refused_as_due (status.Rejected clause row) cause = absurd cause
    refused_as_due (status.Unruly line) cause = absurd cause
    refused_as_due status.NoArc cause = absurd cause
    refused_as_due (status.Alias arc ordinal) cause = absurd cause

  -- ---- both are read

  module _ (streams : Streams) (are : AreStreamsIn streams_word net streams told.files) where
    moved : (P : Streams → Type 0) (other : Streams) → AreStreamsIn streams_word net other told.files → P other → P streams
    moved P other is p = subst P (same_streams streams_word net other streams told.files is are) p

    least_of : HasBoth net_word streams_word o → HasCertificate net streams
    least_of both = let found = both_streams both in moved (HasCertificate net) found.0 found.1 found.2

    none_of : (s : Status) → RefusedIn net_word streams_word s told.files → HasNone s net streams
    none_of s p =
        elim (refused_streams s p) [
          | inl q ↦ absurd (streams_not streams_word net s streams told.files q are)
          | inr (other, is, none) ↦ moved (HasNone s net) other is none
        ]

    refused_in : (s : Status) → RefusedIn net_word streams_word s told.files → IsDueForBoth o net streams s
    refused_in s p = inr (inl (none_of s p))

    pub due_for_both : (s : Status) → CertifyingCause s net_word streams_word o → IsDueForBoth o net streams s
    due_for_both status.Done cause = inl (inl refl, least_of cause)
    due_for_both status.WriteFault cause = inl (inr (refl, cause.0), least_of cause.1)
    due_for_both status.ReadFault (inl lost) = absurd (none_streams streams_word net streams told.files (gone_told lost) are)
    due_for_both status.ReadFault (inr rose) = inr (inr (inr (refl, rose)))
    due_for_both (status.Form kind line rule) cause = refused_in (status.Form kind line rule) (told_as o told (OfFiles (RefusedIn net_word streams_word (status.Form kind line rule))) tells cause).1.0
    due_for_both (status.Rules kind row rule) cause = refused_in (status.Rules kind row rule) (told_as o told (OfFiles (RefusedIn net_word streams_word (status.Rules kind row rule))) tells cause).1.0
    due_for_both (status.Unfit u) cause = refused_in (status.Unfit u) (told_as o told (OfFiles (RefusedIn net_word streams_word (status.Unfit u))) tells cause).1.0
    due_for_both (status.Unsettled arc prio) cause = refused_in (status.Unsettled arc prio) (told_as o told (OfFiles (RefusedIn net_word streams_word (status.Unsettled arc prio))) tells cause).1.0
    due_for_both status.Memory cause = inr (inr (inl refl))
    due_for_both status.Words cause = absurd cause
    due_for_both (status.Rejected clause row) cause = absurd cause
    due_for_both (status.Unruly line) cause = absurd cause
    due_for_both status.NoArc cause = absurd cause
    due_for_both (status.Alias arc ordinal) cause = absurd cause

    pub good_is_certified : HasGood net streams → (s : Status) → CertifyingCause s net_word streams_word o → IsCertified o s ⊎ GivesUp o s
    good_is_certified good s cause =
        elim (due_for_both s cause) [
          | inl done ↦ inl done.0
          | inr (inl (inl (u, plain, refused, is))) ↦ absurd (refused.alone.none good)
          | inr (inl (inr fault)) ↦ absurd (fault.cycle.cycle.alone.none good)
          | inr (inr stops) ↦ inr stops
        ]

    -- a cycle leaves no cause to any other refusal, and no certificate with ranks
    no_other : (e : Unfit) → e ≢ unfit.Memory → names_cycle e ≡ false → causes.Cause net streams.rows e → HaveCycle net streams → ⊥
    no_other e not plain why cycle =
        elim (cycle.cycle.alone.others e why) [
          | inl memory ↦ not memory
          | inr (inl same) ↦ true_false (ap names_cycle same ∙ plain)
          | inr (inr (named, also)) ↦ true_false (sym also ∙ plain)
        ]

    not_plain : (arcs : List ArcId) (u : Unfit) → causes.Cause net streams.rows (unfit.Cycle arcs) → names_cycle u ≡ false → UnfitCause u net streams → ⊥
    not_plain arcs u why plain refused =
        elim (refused.alone.others (unfit.Cycle arcs) why) [
          | inl memory ↦ cycle_memory arcs memory
          | inr (inl same) ↦ true_false (sym (ap names_cycle same) ∙ plain)
          | inr (inr (named, also)) ↦ true_false (sym named ∙ plain)
        ]

    pub refusal_is_due : (e : Unfit) → e ≢ unfit.Memory → names_cycle e ≡ false → causes.Cause net streams.rows e → (s : Status) → CertifyingCause s net_word streams_word o → RefusesAs e s ⊎ GivesUp o s
    refusal_is_due e not plain why s cause =
        elim (due_for_both s cause) [
          | inl (done, inl least) ↦ absurd (not (least.none e why))
          | inl (done, inr least) ↦ absurd (no_other e not plain why least.cycle)
          | inr (inl (inl (u, also, refused, is))) ↦
              elim (refused.alone.others e why) [
                | inl memory ↦ absurd (not memory)
                | inr same ↦ inl (u, same, is)
              ]
          | inr (inl (inr fault)) ↦ absurd (no_other e not plain why fault.cycle)
          | inr (inr stops) ↦ inr stops
        ]

    pub settled_is_certified : (arcs : List ArcId) → causes.Cause net streams.rows (unfit.Cycle arcs) → NoneCaused net streams.rows → (s : Status) → CertifyingCause s net_word streams_word o → IsCertified o s ⊎ GivesUp o s
    settled_is_certified arcs why none s cause =
        elim (due_for_both s cause) [
          | inl done ↦ inl done.0
          | inr (inl (inl (u, plain, refused, is))) ↦ absurd (not_plain arcs u why plain refused)
          | inr (inl (inr fault)) ↦ absurd (fault.refusal (none fault.fault fault.here))
          | inr (inr stops) ↦ inr stops
        ]

    pub fault_is_due : (arcs : List ArcId) (e : RoundsFault) → causes.Cause net streams.rows (unfit.Cycle arcs) → e ≢ rounds.Memory → of_rounds.Cause net streams.rows e → (s : Status) → CertifyingCause s net_word streams_word o
        → IsAnswerTo e streams.rows s ⊎ GivesUp o s
    fault_is_due arcs e why not here s cause =
        elim (due_for_both s cause) [
          | inl (done, inl least) ↦ absurd (cycle_memory arcs (least.none (unfit.Cycle arcs) why))
          | inl (done, inr least) ↦ absurd (not (least.none e here))
          | inr (inl (inl (u, plain, refused, is))) ↦ absurd (not_plain arcs u why plain refused)
          | inr (inl (inr fault)) ↦
              elim (fault.alone e here) [
                | inl memory ↦ absurd (not memory)
                | inr same ↦ inl (subst (λ (f : RoundsFault). IsAnswerTo f streams.rows s) (sym same) fault.answer)
              ]
          | inr (inr stops) ↦ inr stops
        ]
