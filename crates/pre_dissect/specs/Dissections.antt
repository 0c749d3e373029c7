-- What the records of a capture give to one receiver, as text.
use Rattle.std.specs.Prelude.{◌≡◌, ◌⊎◌, ℕ, suc, drop, List, [], ◌∷◌, ◌++◌, length, map, slice_get, Option, Some}
use Rattle.std.specs.Fmt.{decimal}
use Rattle.pre_text.specs.Writing.{line_of}
use Rattle.pre_mpacket.specs.Spelling.{mpacket_of}
use Rattle.pre_pcap.specs.declared.headers.OctetOrder.{OctetOrder}
use Rattle.pre_pcap.specs.declared.faults.PcapFault.{PcapFault}
use Rattle.pre_pcap.specs.Headers.{IsHeader}
use Rattle.pre_pcap.specs.Records.{PacketRecord, AreRecords}
use Rattle.pre_pcap.specs.Captures.{IsCapture, IsCutBehind, IsHeaderFault}
use Rattle.pre_receive.specs.Takings.{Taking, IsTaken}
use Rattle.pre_dissect.specs.PacketWords.{packet_words, result_word, detail_words}

-- the arrivals that records store: each came
abbrev pub arrivals_in : List PacketRecord → List (Option (List ℕ))
arrivals_in records = map (λ r. Some r.octets) records

-- the line of a record: its seconds and its fraction as stored, its place from 0 on, its mPacket's kind and size, and what it gave
abbrev pub record_line : ℕ → PacketRecord → Taking → List ℕ
record_line place r taking = line_of (decimal r.seconds) (decimal r.fraction ∷ decimal place ∷ (packet_words (mpacket_of r.octets) ++ result_word taking ∷ detail_words taking))

-- the lines of records from a place on, by what each gave
abbrev pub lines_from : ℕ → List PacketRecord → List Taking → List ℕ
lines_from place [] takings = []
lines_from place (r ∷ records) [] = []
lines_from place (r ∷ records) (taking ∷ takings) = record_line place r taking ++ lines_from (suc place) records takings

-- These are what the arrivals give, one after another, to one receiver.
pub record AreTaken (arrivals : List (Option (List ℕ))) (takings : List Taking) : Type 0 where
  pub count : length takings ≡ length arrivals
  pub each : (i : ℕ) (taking : Taking) → slice_get takings i ≡ Some taking → IsTaken arrivals i taking

-- The text has a line for each of these records, with what it gives after those before it.
abbrev pub IsDissected : List PacketRecord → List ℕ → Type 0
IsDissected records text = (takings : List Taking) × AreTaken (arrivals_in records) takings × (text ≡ lines_from 0 records takings)

-- The text is that of the records of a capture file.
abbrev pub DissectText : List ℕ → List ℕ → Type 0
DissectText octets text = (records : List PacketRecord) × IsCapture records octets × IsDissected records text

-- The text is that of the records before this first fault of a file; a fault of the header has none before it.
abbrev pub FaultText : PcapFault → List ℕ → List ℕ → Type 0
FaultText fault octets text =
    (IsHeaderFault fault octets × (text ≡ []))
    ⊎ ((records : List PacketRecord) × IsCutBehind records fault octets × IsDissected records text)

-- The file begins with a header and these records.
pub record BeginsWith (records : List PacketRecord) (octets : List ℕ) : Type 0 where
  pub order : OctetOrder
  pub header : IsHeader order octets
  pub rest : List ℕ
  pub in_order : AreRecords order records (drop 24 octets) rest
