-- The results of a history in the dissection of its capture.
use Rattle.std.specs.Prelude.{ℕ, ◌≡◌, ◌≢◌, List, length, filter, map, take, Option, Some, slice_get, codes}
use Rattle.std.specs.Option.{is_some}
use Rattle.pre_pcap.specs.Written.{stamped_record}
use Rattle.pre_pcap.specs.Records.{PacketRecord}
use Rattle.pre_receive.specs.Takings.{Taking, gave, gave_nothing}
use Rattle.pre_history.specs.declared.events.Outcome.{Outcome}
use Rattle.pre_history.specs.declared.events.Outcome.TheVariants as outcome
use Rattle.pre_history.specs.ArrivalResults.{result_of}
use Rattle.pre_history.specs.Scenario.{Scenario}
use Rattle.pre_history.specs.History.{Arrive, History}
use Rattle.pre_history.specs.Queries.{Arrivals}
use Rattle.pre_history.specs.Octets.{Air}
use Rattle.pre_dissect.specs.Captured.{Recorded}
use Rattle.pre_dissect.specs.Dissections.{lines_from}
use Rattle.pre_dissect.specs.PacketWords.{result_word}

-- those arrivals of a list that came
abbrev pub kept : List (Option (List ℕ)) → List (Option (List ℕ))
kept A = filter (λ x. is_some x) A

-- how many came before arrival i
abbrev pub came_before : List (Option (List ℕ)) → ℕ → ℕ
came_before A i = length (kept (take i A))

-- the result that an answer tells
abbrev pub told_result : Taking → Outcome
told_result (gave g) = result_of g
told_result (gave_nothing c) = outcome.Nothing

-- the word of a dissection for a result: frames of both sorts have one
abbrev pub shown : Outcome → List ℕ
shown outcome.Lldp = codes "frame"
shown outcome.Lost = codes "lost"
shown outcome.Frame = codes "frame"
shown outcome.Part = codes "part"
shown outcome.Verify = codes "verify"
shown outcome.Respond = codes "respond"
shown outcome.Nothing = codes "nothing"

-- The records store what was recorded on the arc.
abbrev pub StoreCapture : Scenario → History → ℕ → List PacketRecord → Type 0
StoreCapture w h a records = map (λ r. r.octets) records ≡ map (λ s. s.octets) (Recorded w h a)

-- What the receiver answers to the record of each mPacket that arrived, and wasn't lost, is the result of its `arrive` event, and
-- its line has the word for it.
abbrev pub TellResults : Scenario → History → ℕ → List Taking → Type 0
TellResults w h a takings =
    (i : ℕ) (x : Arrive) → slice_get (Arrivals h a) i ≡ Some x → x.result ≢ outcome.Lost
    → (taking : Taking) × (slice_get takings (came_before (Air w h a) i) ≡ Some taking) × (told_result taking ≡ x.result) × (result_word taking ≡ shown x.result)

-- The text has a line for each record of the arc, and the lines tell the results.
abbrev pub TextTells : Scenario → History → ℕ → List ℕ → Type 0
TextTells w h a text = (takings : List Taking) × TellResults w h a takings × (text ≡ lines_from 0 (map stamped_record (Recorded w h a)) takings)
