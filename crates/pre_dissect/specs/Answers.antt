-- What the dissection of a capture file answers, and what its sink took.
use Rattle.std.specs.Prelude.{◌≡◌, ℕ, List, [], ◌∷◌, ◌++◌, length, Option, Some, Result, Ok, Err}
use Rattle.pre_base.specs.Faults.{Rose}
use Rattle.pre_base.specs.Told.{WhereTold}
use Rattle.pre_base.specs.Sinks.{Taken, TakesAll}
use Rattle.pre_base.specs.Sinks.{TakesWhole, TakesFront}
use Rattle.pre_pcap.specs.declared.faults.PcapFault.{PcapFault}
use Rattle.pre_pcap.specs.Records.{PacketRecord}
use Rattle.pre_pcap.specs.Captures.{IsCapture, IsFirstFault}
use Rattle.pre_receive.specs.declared.receivers.Receiver.{Receiver}
use Rattle.pre_receive.specs.Receivers.{Stands}
use Rattle.pre_receive.specs.Takings.{Taking, IsTaken}
use Rattle.pre_dissect.specs.declared.faults.DissectFault.{DissectFault}
use Rattle.pre_dissect.specs.declared.faults.DissectFault.TheVariants as fault
use Rattle.pre_dissect.specs.Dissections.{record_line, IsDissected, DissectText, FaultText, BeginsWith}

-- the cause of each answer; want of memory is free
abbrev pub HasCause : {T : Type 0} → Result T DissectFault → List ℕ → ℕ → ℕ → Type 0
HasCause (Ok x) octets before now = (records : List PacketRecord) × IsCapture records octets
HasCause (Err (fault.Pcap e)) octets before now = IsFirstFault e octets
HasCause (Err fault.Failed) octets before now = Rose before now
HasCause (Err fault.Memory) octets before now = Unit {0}

-- where a file has this first fault, nothing else is answered but that the sink failed or memory is wanting
abbrev pub IsDue : {T : Type 0} → Result T DissectFault → PcapFault → Type 0
IsDue (Ok x) first = ⊥
IsDue (Err (fault.Pcap e)) first = e ≡ first
IsDue (Err fault.Failed) first = Unit {0}
IsDue (Err fault.Memory) first = Unit {0}

-- What the sink took: the text of the file; that of the records before the fault; a front of the text of the first records, where
-- it failed; or nothing.
abbrev pub Leaves : {T : Type 0} → Result T DissectFault → List ℕ → Option Taken → Option Taken → Type 0
Leaves (Ok x) octets old new = WhereTold old new (λ a b. (text : List ℕ) × DissectText octets text × TakesWhole text a b)
Leaves (Err (fault.Pcap e)) octets old new = WhereTold old new (λ a b. (text : List ℕ) × FaultText e octets text × TakesWhole text a b)
Leaves (Err fault.Failed) octets old new = WhereTold old new (λ a b.
    (records : List PacketRecord) × (text : List ℕ) × BeginsWith records octets × IsDissected records text × TakesFront text a b)
Leaves (Err fault.Memory) octets old new = new ≡ old

-- The receiver takes the octets of a record, and the sink its line.
abbrev pub TakesRecord : {T E : Type 0} → Result T E → Receiver → Receiver → ℕ → PacketRecord → Option Taken → Option Taken → Type 0
TakesRecord result old new place r before after =
    ((A : List (Option (List ℕ))) → Stands old A → Stands new (A ++ Some r.octets ∷ []))
    × ((taking : Taking) × ((A : List (Option (List ℕ))) → Stands old A → IsTaken (A ++ Some r.octets ∷ []) (length A) taking)
    × WhereTold before after (TakesAll result (record_line place r taking)))
