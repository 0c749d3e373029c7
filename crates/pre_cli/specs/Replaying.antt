-- What the command that runs a script under a certificate reads, answers and leaves.
use Rattle.std.specs.Prelude.{◌≡◌, ◌≢◌, ◌⊎◌, ℕ, List, None, Ok, Err}
use Rattle.std.specs.FinMap.{get}
use Rattle.pre_base.specs.Shelves.{Files}
use Rattle.pre_base.specs.declared.numbers.ArcId.{ArcId}
use Rattle.pre_base.specs.Sinks.{Taken}
use Rattle.pre_topo.specs.declared.network.Network.{Network}
use Rattle.pre_streams.specs.declared.rows.Streams.{Streams}
use Rattle.pre_bound.specs.declared.certificate.Certificate.{Certificate}
use Rattle.pre_script.specs.declared.scripts.Script.{Script}
use Rattle.pre_script.specs.declared.scripts.ScriptFault.{ScriptFault}
use Rattle.pre_script.specs.declared.scripts.ScriptFault.TheVariants.{Fault, Memory}
use Rattle.pre_script.specs.Reading.{script_of}
use Rattle.pre_history.specs.Scenario.{Scenario}
use Rattle.pre_cli.specs.declared.statuses.FileWord.TheVariants as file
use Rattle.pre_cli.specs.declared.statuses.Status.{Status}
use Rattle.pre_cli.specs.declared.statuses.Status.TheVariants as status
use Rattle.pre_cli.specs.Answers.{Outside}
use Rattle.pre_cli.specs.Files.{IsFileIn, IsLongFile}
use Rattle.pre_cli.specs.Curves.{CurvesHold, IsUnruly}
use Rattle.pre_cli.specs.Headline.{Headline}
use Rattle.pre_cli.specs.Judging.{judging}
use Rattle.pre_cli.specs.Readings.{Reading, then_read, tested, IsTextAnswer, EndsCause, Took}
use Rattle.pre_cli.specs.Words.{ReplayWords}
use Rattle.pre_cli.specs.Written.{HasHistory, IsFirstAlias, TakesTraceBefore, TakesTextFront}

-- ---- a script

abbrev pub script_status : ScriptFault → Status
script_status (Fault line rule) = status.Form file.Script line rule
script_status Memory = status.Memory

-- the file of this name spells this script, for the network and the streams
abbrev pub IsScriptIn : List ℕ → Network → Streams → Script → Files → Type 0
IsScriptIn word net streams script files = (text : List ℕ) × IsFileIn word text files × (script_of net streams text ≡ Ok script)

-- it is too long or has a fault, and this is the answer
abbrev pub ScriptRefused : List ℕ → Network → Streams → Status → Files → Type 0
ScriptRefused word net streams s files =
    IsLongFile file.Script word s files
    ⊎ ((text : List ℕ) × IsFileIn word text files × ((place : ℕ × ℕ) × (script_of net streams text ≡ Err place) × (s ≡ status.Form file.Script place.0 place.1)))

abbrev pub script_in : List ℕ → Network → Streams → Reading Script
script_in word net streams = record {
  gone = λ files. get files word ≡ None;
  refused = ScriptRefused word net streams;
  gives = IsScriptIn word net streams;
  may = IsTextAnswer;
}

-- ---- all of it

-- a network, streams, a certificate for them, and a script
abbrev pub Replay : Type 0
Replay = (Network × (Streams × Certificate)) × Script

abbrev pub scenario_in : Replay → Scenario
scenario_in x = record { net = x.0.0; streams = x.0.1.0; script = x.1 }

abbrev pub certificate_in : Replay → Certificate
certificate_in x = x.0.1.1

-- a network, streams and a good certificate for them, and then a script
abbrev pub scripted_in : ReplayWords → Reading Replay
scripted_in words = then_read (judging words.plan) (λ x. script_in words.script x.0 x.1.0)

-- sends break a curve, and this is the answer
abbrev pub IsUnrulyAt : Replay → Status → Type 0
IsUnrulyAt x s = (line : ℕ) × IsUnruly x.0.1.0.rows x.1.sends line × (s ≡ status.Unruly line)

-- whose sends keep to the curves
abbrev pub replaying : ReplayWords → Reading Replay
replaying words = tested (scripted_in words) (λ x. CurvesHold x.0.1.0.rows x.1.sends) IsUnrulyAt

-- ---- where a run leads

-- A run is done where it has a legal history, and stops before the first alias where it has one.
abbrev pub RunsTo : Scenario → Status → Type 0
RunsTo w s = ((s ≡ status.Done) × HasHistory w) ⊎ ((arc : ArcId) × (ordinal : ℕ) × (s ≡ status.Alias arc ordinal) × IsFirstAlias w arc.0 ordinal)

-- the cause of each answer
abbrev pub ReplayingCause : ReplayWords → Status → Outside → Type 0
ReplayingCause words s o = EndsCause (replaying words) (λ x t. RunsTo (scenario_in x) t) s o

-- ---- what the sink took

-- What the sink took, by the answer: on Done the trace of the run, of which the headline holds; on Alias the trace before that
-- arrival; a front of a trace where writing failed; and else nothing.
pub record ReplayingLeaves (words : ReplayWords) (s : Status) (o : Outside) : Type 0 where
  pub done : s ≡ status.Done → Took (replaying words) o (λ x. Headline (scenario_in x) (certificate_in x))
  pub alias : (arc : ArcId) (ordinal : ℕ) → s ≡ status.Alias arc ordinal → Took (replaying words) o (λ x. TakesTraceBefore (scenario_in x) arc.0 ordinal)
  pub torn : s ≡ status.WriteFault → Took (replaying words) o (λ x. TakesTextFront (scenario_in x))
  pub nothing : s ≢ status.Done → s ≢ status.WriteFault → ((arc : ArcId) (ordinal : ℕ) → s ≢ status.Alias arc ordinal) → o.taken_after ≡ o.taken_before

-- What that means where the shelf tells these files, and the sink what it had and what it has: on Done the files spell a network,
-- streams, a certificate and a script, of which the headline holds.
pub record Replayed (words : ReplayWords) (files : Files) (old new : Taken) : Type 0 where
  pub read : Replay
  pub files_spell_it : (replaying words).gives read files
  pub headline : Headline (scenario_in read) (certificate_in read) old new
