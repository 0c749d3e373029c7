-- Files come to one outcome of an admission at most, which is answered.
use Rattle.std.proofs.Common.{◌≡◌, ◌≢◌, ◌⊎◌, inl, inr, ℕ, List, map, refl, sym, ◌∙◌, subst}
use Rattle.std.specs.FinMap.{get}
use Rattle.pre_base.specs.Faults.{Rose}
use Rattle.pre_base.specs.Shelves.{Told, Files}
use Rattle.pre_topo.specs.declared.network.Network.{Network}
use Rattle.pre_streams.specs.declared.rows.Streams.{Streams}
use Rattle.pre_streams.specs.StreamsOf.{streams_of}
use Rattle.pre_streams.specs.Made.{row_parts}
use Rattle.pre_bound.specs.Listed.{HasGood}
use Rattle.pre_certify.specs.declared.unfit.Unfit.{Unfit}
use Rattle.pre_certify.specs.declared.unfit.Unfit.TheVariants as unfit
use Rattle.pre_certify.specs.Causes.{Cause}
use Rattle.pre_cli.specs.declared.statuses.FileWord.TheVariants as file
use Rattle.pre_cli.specs.declared.statuses.Status.{Status}
use Rattle.pre_cli.specs.declared.statuses.Status.TheVariants as status
use Rattle.pre_cli.specs.Answers.{Outside}
use Rattle.pre_cli.specs.Files.{stream_status, OfFiles, GoneFrom}
use Rattle.pre_cli.specs.Due.{TellsFiles, GivesUp}
use Rattle.pre_cli.specs.DueCertificates.{IsCertified, RefusesAs}
use Rattle.pre_cli.specs.Judging.{network_in, streams_in}
use Rattle.pre_cli.specs.Readings as readings
use Rattle.pre_cli.specs.Readings.{missing, refuses, reads, ComeTo, AnswerCause}
use Rattle.pre_cli.specs.Words.{AdmitWords}
use Rattle.pre_cli.specs.Admitting.{AreMoreIn, MoreRefused, rows_in, HasNoFlow, FlowRefused, more_in, Additions, both_in, adding, admitting, AdmissionIsDue}
use Rattle.pre_cli.proofs.CertifyLemmas.{true_false}
use Rattle.pre_cli.proofs.OneReading.{one_streams}
use Rattle.pre_cli.proofs.Texts.{Refuses, Reads, refused_once, refused_not_read, read_once, refused_there, read_there}
use Rattle.pre_cli.proofs.DueReadings.{Decided, then_decided, tested_decided, one_outcome, told_as}
use Rattle.pre_cli.proofs.DueTexts.{network_decided, streams_decided}

-- ---- a file of more streams

module _ (word : List ℕ) (net : Network) where
  more_refuses : (files : Files) (s : Status) → MoreRefused word net s files → Refuses file.More (streams_of net) (stream_status file.More) (get files word) s
  more_refuses files s (inl long) = inl long
  more_refuses files s (inr (x, p, rest)) = inr (x, p.0, p.1, rest)

  more_reads : (files : Files) (more : Streams) → AreMoreIn word net more files → Reads file.More (streams_of net) (stream_status file.More) (get files word) (map row_parts more.rows)
  more_reads files more (x, p, well) = (x, p.0, p.1, well)

  rows_decided : Decided (rows_in word net)
  rows_decided = record {
    given_once = λ files more other p q.
        one_streams more other
        (read_once file.More (streams_of net) (stream_status file.More) (get files word) (map row_parts more.rows) (map row_parts other.rows) (more_reads files more p) (more_reads files other q));
    refused_once = λ files s t p q. refused_once file.More (streams_of net) (stream_status file.More) (get files word) s t (more_refuses files s p) (more_refuses files t q);
    not_refused = λ files more s p q.
        refused_not_read file.More (streams_of net) (stream_status file.More) (get files word) s (map row_parts more.rows) (more_refuses files s q) (more_reads files more p);
    not_gone = λ files more p none. read_there file.More (streams_of net) (stream_status file.More) (get files word) (map row_parts more.rows) (more_reads files more p) none;
    refused_there = λ files s p none. refused_there file.More (streams_of net) (stream_status file.More) (get files word) s (more_refuses files s p) none;
  }

  flow_or_not : (more : Streams) (s : Status) → HasNoFlow more → FlowRefused more s → ⊥
  flow_or_not more s none some = true_false (sym some.0 ∙ none)

  more_decided : Decided (more_in word net)
  more_decided = tested_decided (rows_in word net) HasNoFlow FlowRefused rows_decided flow_or_not (λ more s t p q. p.1 ∙ sym q.1)

pub adding_decided : (words : AdmitWords) → Decided (adding words)
adding_decided words =
    then_decided (network_in words.net) (both_in words.streams words.more) (network_decided words.net)
    (λ net. then_decided (streams_in words.streams net) (λ streams. more_in words.more net) (streams_decided words.streams net) (λ streams. more_decided words.more net))

-- ---- what is due

module _ (words : AdmitWords) (s : Status) (o : Outside) (told : Told) (tells : TellsFiles o told) where
  -- what is due of one outcome is due of the only one
  answered : (read is : readings.Outcome Additions) → ComeTo (adding words) read told.files → ComeTo (adding words) is told.files → AdmissionIsDue o is s → AdmissionIsDue o read s
  answered read is came comes due = subst (λ k. AdmissionIsDue o k s) (one_outcome (adding words) (adding_decided words) told.files is read comes came) due

  memory_due : (read : readings.Outcome Additions) → s ≡ status.Memory → AdmissionIsDue o read s
  memory_due missing is = inr is
  memory_due (refuses t) is = inr (inl is)
  memory_due (reads x) is = inr (inr (inl is))

  fault_due : (read : readings.Outcome Additions) → s ≡ status.ReadFault → Rose o.shelf_before o.shelf_after → AdmissionIsDue o read s
  fault_due missing is rose = inl is
  fault_due (refuses t) is rose = inr (inr (is, rose))
  fault_due (reads x) is rose = inr (inr (inr (is, rose)))

  refused_due : (read : readings.Outcome Additions) → ComeTo (adding words) read told.files → (admitting words).refused s told.files → AdmissionIsDue o read s
  refused_due read came (inl bad) = answered read (refuses s) came bad (inl refl)
  refused_due read came (inr (x, given, refused)) = answered read (reads x) came given (inr (inl refused))

  pub admission_due : (read : readings.Outcome Additions) → ComeTo (adding words) read told.files → AnswerCause (admitting words) s o → AdmissionIsDue o read s
  admission_due read came (inl (x, given, written)) =
      let there = (told_as o told (OfFiles ((admitting words).gives x)) tells given).1.0 in
      answered read (reads x) came there.0 (inl (written, there.1))
  admission_due read came (inr (inl (is, inl lacks))) = answered read missing came (subst (λ a. GoneFrom (admitting words).gone a) tells.0 lacks) (inl is)
  admission_due read came (inr (inl (is, inr rose))) = fault_due read is rose
  admission_due read came (inr (inr (inl (can, bad)))) = refused_due read came (told_as o told (OfFiles ((admitting words).refused s)) tells bad).1.0
  admission_due read came (inr (inr (inr is))) = memory_due read is

  module _ (x : Additions) (given : (adding words).gives x told.files) (cause : AnswerCause (admitting words) s o) where
    pub good_takes_more : HasGood x.0 x.1.0 → IsCertified o s ⊎ GivesUp o s
    good_takes_more good =
        elim (admission_due (reads x) given cause) [
          | inl done ↦ inl done.0
          | inr rest ↦
              elim rest [
                | inl refused ↦ absurd (refused.1.alone.none good)
                | inr gives ↦ inr gives
              ]
        ]

    pub cause_refuses : (e : Unfit) → e ≢ unfit.Memory → Cause x.0 x.1.0.rows e → RefusesAs e s ⊎ GivesUp o s
    cause_refuses e not why =
        elim (admission_due (reads x) given cause) [
          | inl done ↦ absurd (not (done.1.none e why))
          | inr rest ↦
              elim rest [
                | inl refused ↦
                    elim (refused.1.alone.others e why) [
                      | inl memory ↦ absurd (not memory)
                      | inr same ↦ inl (refused.0, same, refused.2)
                    ]
                | inr gives ↦ inr gives
              ]
        ]
