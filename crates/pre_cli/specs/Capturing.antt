-- What the command that captures an arc of a run reads, answers and leaves.
use Rattle.std.specs.Prelude.{◌≡◌, ◌≢◌, ◌⊎◌, ℕ, ◌<◌, ◌≤◌, List, ◌++◌, length, map, Option, Some, None, true}
use Rattle.pre_base.specs.Faults.{Rose}
use Rattle.pre_base.specs.Told.{WhereTold}
use Rattle.pre_base.specs.Shelves.{Files}
use Rattle.pre_base.specs.Sinks.{Taken, TakesBut}
use Rattle.pre_base.specs.declared.numbers.ArcId.{ArcId}
use Rattle.pre_topo.specs.declared.network.Network.{Network}
use Rattle.pre_topo.specs.Named.{arc_named}
use Rattle.pre_streams.specs.declared.rows.Streams.{Streams}
use Rattle.pre_script.specs.declared.scripts.Script.{Script}
use Rattle.pre_pcap.specs.Captures.{IsCapture}
use Rattle.pre_pcap.specs.Written.{stamped_record}
use Rattle.pre_history.specs.Scenario.{Scenario}
use Rattle.pre_history.specs.History.{History}
use Rattle.pre_history.specs.Legal.{Legal}
use Rattle.pre_dissect.specs.Captured.{Recorded, CaptureOf}
use Rattle.pre_dissect.specs.Dissections.{DissectText}
use Rattle.pre_dissect.specs.Fronts.{FilesFit, IsFront}
use Rattle.pre_dissect.specs.Results.{TextTells}
use Rattle.pre_sim.specs.declared.runs.Step.{Step}
use Rattle.pre_sim.specs.declared.runs.Step.TheVariants.{More, Ended, Alias, Stopped}
use Rattle.pre_cli.specs.declared.statuses.Status.{Status}
use Rattle.pre_cli.specs.declared.statuses.Status.TheVariants as status
use Rattle.pre_cli.specs.Answers.{Outside}
use Rattle.pre_cli.specs.Judging.{network_in, streams_in}
use Rattle.pre_cli.specs.Readings.{Reading, then_read, EndsCause, Took}
use Rattle.pre_cli.specs.Replaying.{script_in, RunsTo}
use Rattle.pre_cli.specs.Words.{CaptureWords}
use Rattle.pre_cli.specs.Written.{IsBeforeAlias}

-- ---- a network and an arc of it, streams and a script

-- The word names this arc of the network; where it names none, that is answered. No file is read for it.
abbrev pub arc_in : List ℕ → Network → Reading ArcId
arc_in word net = record {
  gone = λ files. ⊥;
  refused = λ s files. (arc_named net word ≡ None) × (s ≡ status.NoArc);
  gives = λ arc files. arc_named net word ≡ Some arc.0;
  may = λ s. s ≡ status.NoArc;
}

-- a network, and then an arc of it
abbrev pub watched_in : List ℕ → List ℕ → Reading (Network × ArcId)
watched_in net_word arc_word = then_read (network_in net_word) (arc_in arc_word)

-- streams for the network, and then a script
abbrev pub sent_in : List ℕ → List ℕ → Network → Reading (Streams × Script)
sent_in streams_word script_word net = then_read (streams_in streams_word net) (script_in script_word net)

-- all of it, in this order
abbrev pub Capture : Type 0
Capture = (Network × ArcId) × (Streams × Script)

abbrev pub capturing : CaptureWords → Reading Capture
capturing words = then_read (watched_in words.net words.arc) (λ x. sent_in words.streams words.script x.0)

abbrev pub scenario_in : Capture → Scenario
scenario_in x = record { net = x.0.0; streams = x.1.0; script = x.1.1 }

-- the number of the arc
abbrev pub watched_arc : Capture → ℕ
watched_arc x = x.0.1.0

-- ---- answers

-- the cause of each answer: the run leads to it as where it is replayed
abbrev pub CapturingCause : CaptureWords → Status → Outside → Type 0
CapturingCause words s o = EndsCause (capturing words) (λ x t. RunsTo (scenario_in x) t) s o

-- ---- what the sink took

-- A script was run, and the mPackets of an arc were written. The octets that the sink had, and those that it has:
pub record Captured (w : Scenario) (arc : ℕ) (old new : Taken) : Type 0 where
  -- The streams fit the network, the script fits both, and the arc is one of the network.
  pub files_fit : FilesFit w
  pub arc_is_known : arc < length w.net.arcs
  -- The history is legal for the network, the streams and the script.
  pub history : History
  pub history_is_legal : Legal w history
  -- What the sink took in this call is the capture of the arc in that history and nothing else.
  pub capture_is_its : new.octets ≡ old.octets ++ CaptureOf w history arc

-- The same of the history before this arrival, which is the first alias.
pub record CapturedBefore (w : Scenario) (arc : ℕ) (alias_arc ordinal : ℕ) (old new : Taken) : Type 0 where
  pub files_fit : FilesFit w
  pub arc_is_known : arc < length w.net.arcs
  pub history : History
  pub history_is_before : IsBeforeAlias w alias_arc ordinal history
  pub capture_is_its : new.octets ≡ old.octets ++ CaptureOf w history arc

-- A front of the capture in a history that is a front of a legal one, or of one that is legal before some moment.
pub record CapturedFront (w : Scenario) (arc : ℕ) (old new : Taken) : Type 0 where
  pub history : History
  pub history_is_front : IsFront w history
  pub rest : List ℕ
  pub capture_but_the_rest : TakesBut rest (CaptureOf w history arc) old new

-- What a run left in the sink, by its last step.
abbrev pub CaptureLeaves : Scenario → ℕ → Step → Option Taken → Option Taken → Type 0
CaptureLeaves w arc More old new = ⊥
CaptureLeaves w arc Ended old new = WhereTold old new (Captured w arc)
CaptureLeaves w arc (Alias alias_arc ordinal) old new = WhereTold old new (CapturedBefore w arc alias_arc.0 ordinal)
CaptureLeaves w arc Stopped old new = WhereTold old new (CapturedFront w arc)

-- What it left by the status that it gives, flushed where all was done, or all before the first alias. Where memory ran out
-- nothing was run.
abbrev pub CaptureEnds : Scenario → ℕ → Status → Option Taken → Option Taken → Type 0
CaptureEnds w arc status.Done old new = WhereTold old new (λ a b. Captured w arc a b × (b.flushed ≡ true))
CaptureEnds w arc (status.Alias alias_arc ordinal) old new = WhereTold old new (λ a b. CapturedBefore w arc alias_arc.0 ordinal a b × (b.flushed ≡ true))
CaptureEnds w arc status.WriteFault old new = WhereTold old new (CapturedFront w arc)
CaptureEnds w arc status.Memory old new = new ≡ old
CaptureEnds w arc _ old new = ⊥

-- What the sink took, by the answer: on Done the capture, flushed; on Alias that of the history before that arrival, flushed; a
-- front of a capture where writing failed; and else nothing.
pub record CapturingLeaves (words : CaptureWords) (s : Status) (o : Outside) : Type 0 where
  pub done : s ≡ status.Done → Took (capturing words) o (λ x a b. Captured (scenario_in x) (watched_arc x) a b × (b.flushed ≡ true))
  pub alias : (arc : ArcId) (ordinal : ℕ) → s ≡ status.Alias arc ordinal
      → Took (capturing words) o (λ x a b. CapturedBefore (scenario_in x) (watched_arc x) arc.0 ordinal a b × (b.flushed ≡ true))
  pub torn : s ≡ status.WriteFault → Took (capturing words) o (λ x. CapturedFront (scenario_in x) (watched_arc x))
  pub nothing : s ≢ status.Done → s ≢ status.WriteFault → ((arc : ArcId) (ordinal : ℕ) → s ≢ status.Alias arc ordinal) → o.taken_after ≡ o.taken_before

-- ---- what its dissection tells

-- A capture that was taken, of these files: they spell what was run, and the octets are the capture of the arc in a history of
-- it, which is so. The octets are a capture file, and the text of its dissection tells the results of the history.
pub record ReadsAsTold (words : CaptureWords) (files : Files) (IsSo : Scenario → History → Type 0) (octets : List ℕ) : Type 0 where
  pub read : Capture
  pub files_spell_it : (capturing words).gives read files
  pub history : History
  pub history_is_so : IsSo (scenario_in read) history
  pub octets_are_its : octets ≡ CaptureOf (scenario_in read) history (watched_arc read)
  pub octets_are_a_file : IsCapture (map stamped_record (Recorded (scenario_in read) history (watched_arc read))) octets
  pub text_tells : (text : List ℕ) → DissectText octets text → TextTells (scenario_in read) history (watched_arc read) text
