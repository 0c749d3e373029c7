-- What the command that admits streams reads, answers and leaves.
use Rattle.std.specs.Prelude.{◌≡◌, ◌≢◌, ◌⊎◌, ℕ, List, ◌++◌, map, Option, None, Ok, Err, Bool, false, IsTrue, is_none}
use Rattle.std.specs.FinMap.{get}
use Rattle.std.specs.List.{list_any}
use Rattle.pre_base.specs.Shelves.{Told, Files}
use Rattle.pre_base.specs.Sinks.{Taken, TakesFront}
use Rattle.pre_base.specs.declared.numbers.FileRow.TheVariants.{Top}
use Rattle.pre_topo.specs.declared.network.Network.{Network}
use Rattle.pre_streams.specs.declared.rows.Row.{Row}
use Rattle.pre_streams.specs.declared.rows.Streams.{Streams}
use Rattle.pre_streams.specs.declared.faults.StreamFault.{StreamFault}
use Rattle.pre_streams.specs.Fits.{Fits}
use Rattle.pre_streams.specs.StreamsOf.{streams_of}
use Rattle.pre_streams.specs.Made.{row_parts}
use Rattle.pre_bound.specs.declared.certificate.Certificate.{Certificate}
use Rattle.pre_bound.specs.Listed.{HasGood}
use Rattle.pre_check.specs.Seen.{rows_in as certificate_rows}
use Rattle.pre_check.specs.Reading.{certificate_of}
use Rattle.pre_certify.specs.declared.unfit.Unfit.{Unfit}
use Rattle.pre_certify.specs.declared.unfit.Unfit.TheVariants as unfit
use Rattle.pre_certify.specs.Causes.{Cause}
use Rattle.pre_certify.specs.Text.{certificate_text}
use Rattle.pre_admit.specs.declared.admissions.Outcome.{Outcome}
use Rattle.pre_admit.specs.Admissions.{Admits, admitted, with_streams}
use Rattle.pre_admit.specs.Certified.{IsPlan}
use Rattle.pre_cli.specs.declared.statuses.FileWord.TheVariants as file
use Rattle.pre_cli.specs.declared.statuses.Status.{Status}
use Rattle.pre_cli.specs.declared.statuses.Status.TheVariants as status
use Rattle.pre_cli.specs.Answers.{Outside}
use Rattle.pre_cli.specs.Files.{IsFileIn, IsLongFile, stream_status}
use Rattle.pre_cli.specs.Certifying.{HasLeast, UnfitCause, TakesFlushed}
use Rattle.pre_cli.specs.Due.{TellsFiles, GivesUp}
use Rattle.pre_cli.specs.DueCertificates.{IsFaultOrMemory, IsCertified, RefusesAs}
use Rattle.pre_cli.specs.Judging.{network_in, streams_in}
use Rattle.pre_cli.specs.Outcomes.{outcome_lines}
use Rattle.pre_cli.specs.Putting.{PutEnds, PutCause}
use Rattle.pre_cli.specs.Readings.{Reading, then_read, tested, IsTextAnswer, AnswerCause, Outcome as Read, missing, refuses, reads, ComeTo}
use Rattle.pre_cli.specs.Words.{AdmitWords}

-- ---- a file of more streams

-- the file of this name is these streams and flows, for the network
abbrev pub AreMoreIn : List ℕ → Network → Streams → Files → Type 0
AreMoreIn word net more files = (text : List ℕ) × IsFileIn word text files × (streams_of net text ≡ Ok (map row_parts more.rows))

-- it is too long or has a fault, and this is the answer
abbrev pub MoreRefused : List ℕ → Network → Status → Files → Type 0
MoreRefused word net s files =
    IsLongFile file.More word s files
    ⊎ ((text : List ℕ) × IsFileIn word text files × ((fault : StreamFault) × (streams_of net text ≡ Err fault) × (s ≡ stream_status file.More fault)))

abbrev pub rows_in : List ℕ → Network → Reading Streams
rows_in word net = record {
  gone = λ files. get files word ≡ None;
  refused = MoreRefused word net;
  gives = AreMoreIn word net;
  may = IsTextAnswer;
}

-- a row is a flow
abbrev pub has_flow : List Row → Bool
has_flow rows = list_any (λ r. is_none r.curve) rows

-- the same file, which has no flow; one is a fault of the rule on counts
abbrev pub HasNoFlow : Streams → Type 0
HasNoFlow more = has_flow more.rows ≡ false

abbrev pub FlowRefused : Streams → Status → Type 0
FlowRefused more s = IsTrue (has_flow more.rows) × (s ≡ status.Rules file.More Top 8)

abbrev pub more_in : List ℕ → Network → Reading Streams
more_in word net = tested (rows_in word net) HasNoFlow FlowRefused

-- ---- the command

-- a network, streams for it and more streams
abbrev pub Additions : Type 0
Additions = Network × (Streams × Streams)

abbrev pub both_in : List ℕ → List ℕ → Network → Reading (Streams × Streams)
both_in streams_word more_word net = then_read (streams_in streams_word net) (λ streams. more_in more_word net)

abbrev pub adding : AdmitWords → Reading Additions
adding words = then_read (network_in words.net) (both_in words.streams words.more)

-- the streams have a least certificate with ranks; or why there is none, a cycle too
abbrev pub HasPlan : Additions → Type 0
HasPlan x = HasLeast x.0 x.1.0

abbrev pub PlanRefused : Additions → Status → Type 0
PlanRefused x s = (cause : Unfit) × UnfitCause cause x.0 x.1.0 × (s ≡ status.Unfit cause)

abbrev pub admitting : AdmitWords → Reading Additions
admitting words = tested (adding words) HasPlan PlanRefused

-- ---- what the sink took

-- The rows of a file were admitted one after the other to streams that a network carries:
pub record Admissions (x : Additions) : Type 0 where
  -- The rows meet the rules of a stream file for the network.
  pub fit : Fits x.0 x.1.1
  -- What came of each, and the streams that are held then: those at opening with the admitted ones in order, before the flows.
  pub outcomes : List Outcome
  pub held : Streams
  pub each : Admits x.0 x.1.0.rows x.1.1.rows outcomes held.rows
  pub in_order : held.rows ≡ with_streams x.1.0.rows (admitted x.1.1.rows outcomes)
  -- They fit the network, and this is their least certificate with ranks.
  pub certificate : Certificate
  pub is_theirs : IsPlan x.0 held certificate

-- a line for each row, and the certificate behind them
abbrev pub admission_text : (x : Additions) → Admissions x → List ℕ
admission_text x a = outcome_lines x.1.1.rows a.outcomes ++ certificate_text x.0 a.held.rows a.certificate

abbrev pub AdmitsAll : Additions → Taken → Taken → Type 0
AdmitsAll x old new = (a : Admissions x) × TakesFlushed (admission_text x a) old new

abbrev pub AdmitsFront : Additions → Taken → Taken → Type 0
AdmitsFront x old new = (a : Admissions x) × TakesFront (admission_text x a) old new

-- The rows were admitted, and all of that was written and passed on, or the sink failed; or memory ran out, and nothing was written.
abbrev pub AdmitsTo : Additions → Status → ℕ → ℕ → Option Taken → Option Taken → Type 0
AdmitsTo x s before now old new =
    ((a : Admissions x) × PutEnds s (admission_text x a) old new × PutCause s before now) ⊎ ((s ≡ status.Memory) × (new ≡ old))

-- The same where there is a plan; and else the streams are refused, and nothing was written.
abbrev pub AddsTo : Additions → Status → ℕ → ℕ → Option Taken → Option Taken → Type 0
AddsTo x s before now old new = (HasPlan x × AdmitsTo x s before now old new) ⊎ (PlanRefused x s × (new ≡ old)) ⊎ ((s ≡ status.Memory) × (new ≡ old))

-- ---- what is written is read back

-- These octets are the text of what the files spell, and a certificate file as they stand: they spell the certificate of the
-- streams held.
pub record ReadsAsHeld (words : AdmitWords) (files : Files) (octets : List ℕ) : Type 0 where
  pub read : Additions
  pub files_spell_it : (adding words).gives read files
  pub admissions : Admissions read
  pub octets_are_theirs : octets ≡ admission_text read admissions
  pub octets_spell_the_certificate : certificate_of read.0 admissions.held octets ≡ Ok (certificate_rows admissions.certificate)

-- ---- what is due

-- What is answered to what files come to: where all are read, there is a plan and all is written, or the streams are refused.
abbrev pub AdmissionIsDue : Outside → Read Additions → Status → Type 0
AdmissionIsDue o missing s = IsFaultOrMemory s
AdmissionIsDue o (refuses t) s = (s ≡ t) ⊎ GivesUp o s
AdmissionIsDue o (reads x) s = (IsCertified o s × HasPlan x) ⊎ PlanRefused x s ⊎ GivesUp o s

abbrev pub AdmissionsAreDue : AdmitWords → Type 0
AdmissionsAreDue words = (s : Status) (read : Read Additions) (o : Outside) (told : Told) → TellsFiles o told → ComeTo (adding words) read told.files
    → AnswerCause (admitting words) s o → AdmissionIsDue o read s

-- where the streams have a good certificate with ranks, all is done
abbrev pub GoodTakeMore : AdmitWords → Type 0
GoodTakeMore words = (s : Status) (x : Additions) (o : Outside) (told : Told) → TellsFiles o told → (adding words).gives x told.files
    → HasGood x.0 x.1.0 → AnswerCause (admitting words) s o → IsCertified o s ⊎ GivesUp o s

-- and where they have a cause to be refused, a cycle too, they are refused so
abbrev pub CauseRefusesPlan : AdmitWords → Type 0
CauseRefusesPlan words = (s : Status) (x : Additions) (e : Unfit) (o : Outside) (told : Told) → TellsFiles o told → (adding words).gives x told.files
    → e ≢ unfit.Memory → Cause x.0 x.1.0.rows e → AnswerCause (admitting words) s o → RefusesAs e s ⊎ GivesUp o s
