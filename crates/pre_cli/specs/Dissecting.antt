-- What the command that dissects a capture file answers and leaves.
use Rattle.std.specs.Prelude.{◌≡◌, ◌⊎◌, ℕ, ◌<◌, List, [], length, Option, Some, None, true}
use Rattle.std.specs.FinMap.{get}
use Rattle.pre_base.specs.Faults.{Rose}
use Rattle.pre_base.specs.Told.{WhereTold}
use Rattle.pre_base.specs.Shelves.{Told, IsMissing}
use Rattle.pre_base.specs.Sinks.{Taken}
use Rattle.pre_base.specs.Sinks.{TakesWhole, TakesFront}
use Rattle.pre_pcap.specs.declared.faults.PcapFault.{PcapFault}
use Rattle.pre_pcap.specs.Rules.{rule_number}
use Rattle.pre_pcap.specs.Records.{PacketRecord}
use Rattle.pre_pcap.specs.Captures.{IsCapture, IsFirstFault, IsHeaderFault}
use Rattle.pre_dissect.specs.Dissections.{IsDissected, DissectText, FaultText, BeginsWith}
use Rattle.pre_cli.specs.declared.statuses.FileWord.TheVariants as file
use Rattle.pre_cli.specs.declared.statuses.Status.{Status}
use Rattle.pre_cli.specs.declared.statuses.Status.TheVariants as status
use Rattle.pre_cli.specs.Answers.{Outside}
use Rattle.pre_cli.specs.Due.{TellsFiles, GivesUp}
use Rattle.pre_cli.specs.Scripts.{max_file}
use Rattle.pre_cli.specs.Files.{OfFiles, IsFileIn, IsLongFile}

-- ---- the octets of a file

-- the answer to a first fault: its place and its rule
abbrev pub fault_status : PcapFault → Status
fault_status e = status.Form file.Pcap e.place (rule_number e.rule)

-- They are a capture; or have this first fault; or the sink failed; want of memory is free.
abbrev pub DissectedCause : Status → List ℕ → ℕ → ℕ → Type 0
DissectedCause status.Done octets before now = (records : List PacketRecord) × IsCapture records octets
DissectedCause status.WriteFault octets before now = Rose before now
DissectedCause (status.Form kind line rule) octets before now = (e : PcapFault) × IsFirstFault e octets × (status.Form kind line rule ≡ fault_status e)
DissectedCause status.Memory octets before now = Unit {0}
DissectedCause _ octets before now = ⊥

-- the lines of the first records, and none where the header has a fault
abbrev pub FirstLines : List ℕ → List ℕ → Type 0
FirstLines octets text =
    ((records : List PacketRecord) × BeginsWith records octets × IsDissected records text)
    ⊎ ((e : PcapFault) × IsHeaderFault e octets × (text ≡ []))

-- What the sink took: the lines of all records, flushed; those of the records before the first fault, flushed; where it failed a
-- front of the lines of the first records; or nothing.
abbrev pub DissectedLeaves : Status → List ℕ → Option Taken → Option Taken → Type 0
DissectedLeaves status.Done octets old new = WhereTold old new (λ a b. ((text : List ℕ) × DissectText octets text × TakesWhole text a b) × (b.flushed ≡ true))
DissectedLeaves status.WriteFault octets old new = WhereTold old new (λ a b. (text : List ℕ) × FirstLines octets text × TakesFront text a b)
DissectedLeaves (status.Form kind line rule) octets old new = WhereTold old new (λ a b.
    ((e : PcapFault) × (text : List ℕ) × (status.Form kind line rule ≡ fault_status e) × FaultText e octets text × TakesWhole text a b) × (b.flushed ≡ true))
DissectedLeaves _ octets old new = new ≡ old

-- ---- a file

-- why the file of this name wasn't read: it isn't there, or is too long, or neither memory nor the shelf serves
abbrev pub IsUnread : Status → List ℕ → ℕ → ℕ → Option Told → Option Told → Type 0
IsUnread status.ReadFault name before now old new = IsMissing old name ⊎ Rose before now
IsUnread (status.Form kind line rule) name before now old new = WhereTold old new (OfFiles (IsLongFile file.Pcap name (status.Form kind line rule)))
IsUnread status.Memory name before now old new = Unit {0}
IsUnread _ name before now old new = ⊥

-- the cause of each answer; want of memory is free
abbrev pub DissectingCause : Status → List ℕ → Outside → Type 0
DissectingCause status.Done name o =
    WhereTold o.told_before o.told_after (OfFiles (λ files. (octets : List ℕ) × IsFileIn name octets files × DissectedCause status.Done octets o.sink_before o.sink_after))
DissectingCause status.WriteFault name o = Rose o.sink_before o.sink_after × WhereTold o.told_before o.told_after (OfFiles (λ files. (octets : List ℕ) × IsFileIn name octets files))
DissectingCause status.ReadFault name o = IsMissing o.told_before name ⊎ Rose o.shelf_before o.shelf_after
DissectingCause (status.Form kind line rule) name o = WhereTold o.told_before o.told_after (OfFiles (λ files.
    IsLongFile file.Pcap name (status.Form kind line rule) files
    ⊎ ((octets : List ℕ) × IsFileIn name octets files × DissectedCause (status.Form kind line rule) octets o.sink_before o.sink_after)))
DissectingCause status.Memory name o = Unit {0}
DissectingCause _ name o = ⊥

-- what the sink took, by the answer; of a file that is too long nothing
abbrev pub DissectingLeaves : Status → List ℕ → Outside → Type 0
DissectingLeaves status.Done name o =
    (octets : List ℕ) × WhereTold o.told_before o.told_after (OfFiles (IsFileIn name octets)) × DissectedLeaves status.Done octets o.taken_before o.taken_after
DissectingLeaves status.WriteFault name o =
    (octets : List ℕ) × WhereTold o.told_before o.told_after (OfFiles (IsFileIn name octets)) × DissectedLeaves status.WriteFault octets o.taken_before o.taken_after
DissectingLeaves (status.Form kind line rule) name o =
    (WhereTold o.told_before o.told_after (OfFiles (IsLongFile file.Pcap name (status.Form kind line rule))) × (o.taken_after ≡ o.taken_before))
    ⊎ ((octets : List ℕ) × WhereTold o.told_before o.told_after (OfFiles (IsFileIn name octets)) × DissectedLeaves (status.Form kind line rule) octets o.taken_before o.taken_after)
DissectingLeaves _ name o = o.taken_after ≡ o.taken_before

-- ---- what is due

-- it is this, or the sink failed, or neither memory nor the shelf serves
abbrev pub IsDueDissection : Outside → Status → Status → Type 0
IsDueDissection o due s = (s ≡ due) ⊎ ((s ≡ status.WriteFault) × Rose o.sink_before o.sink_after) ⊎ GivesUp o s

-- where the shelf tells its files, the answer to a file that isn't there
abbrev pub MissingCapture : Type 0
MissingCapture = (s : Status) (name : List ℕ) (o : Outside) (told : Told) → TellsFiles o told → get told.files name ≡ None → DissectingCause s name o → (s ≡ status.ReadFault) ⊎ (s ≡ status.Memory)

-- to one that is too long
abbrev pub LongCapture : Type 0
LongCapture = (s : Status) (name octets : List ℕ) (o : Outside) (told : Told) → TellsFiles o told → get told.files name ≡ Some octets → max_file < length octets
    → DissectingCause s name o → (s ≡ status.Form file.Pcap 0 0) ⊎ GivesUp o s

-- to one that is a capture
abbrev pub WholeCapture : Type 0
WholeCapture = (s : Status) (name octets : List ℕ) (records : List PacketRecord) (o : Outside) (told : Told) → TellsFiles o told → IsFileIn name octets told.files → IsCapture records octets
    → DissectingCause s name o → IsDueDissection o status.Done s

-- and to one with this first fault
abbrev pub FaultyCapture : Type 0
FaultyCapture = (s : Status) (name octets : List ℕ) (e : PcapFault) (o : Outside) (told : Told) → TellsFiles o told → IsFileIn name octets told.files → IsFirstFault e octets
    → DissectingCause s name o → IsDueDissection o (fault_status e) s
