-- What a command reads of a trace file.
use Rattle.std.specs.Prelude.{◌≡◌, ◌⊎◌, ℕ, List, None, Ok, Err}
use Rattle.std.specs.FinMap.{get}
use Rattle.pre_base.specs.Shelves.{Files}
use Rattle.pre_topo.specs.declared.network.Network.{Network}
use Rattle.pre_streams.specs.declared.rows.Streams.{Streams}
use Rattle.pre_bound.specs.declared.certificate.Certificate.{Certificate}
use Rattle.pre_picture.specs.declared.traces.Seen.{Seen}
use Rattle.pre_picture.specs.declared.traces.TraceFault.{TraceFault}
use Rattle.pre_picture.specs.declared.traces.TraceFault.TheVariants.{Line, Memory}
use Rattle.pre_picture.specs.Traces.{trace_of}
use Rattle.pre_cli.specs.declared.statuses.FileWord.TheVariants as file
use Rattle.pre_cli.specs.declared.statuses.Status.{Status}
use Rattle.pre_cli.specs.declared.statuses.Status.TheVariants as status
use Rattle.pre_cli.specs.Files.{IsFileIn, IsLongFile}
use Rattle.pre_cli.specs.Readings.{Reading, then_read, IsTextAnswer}
use Rattle.pre_cli.specs.Judging.{network_in, judging}
use Rattle.pre_cli.specs.Words.{JudgeWords}

abbrev pub trace_status : TraceFault → Status
trace_status (Line line rule) = status.Form file.Trace line rule
trace_status Memory = status.Memory

-- the file of this name tells these events over the network
abbrev pub IsTraceIn : List ℕ → Network → List Seen → Files → Type 0
IsTraceIn word net events files = (text : List ℕ) × IsFileIn word text files × (trace_of net text ≡ Ok events)

-- it is too long or has a line that is no event, and this is the answer
abbrev pub TraceRefused : List ℕ → Network → Status → Files → Type 0
TraceRefused word net s files =
    IsLongFile file.Trace word s files
    ⊎ ((text : List ℕ) × IsFileIn word text files × ((place : ℕ × ℕ) × (trace_of net text ≡ Err place) × (s ≡ status.Form file.Trace place.0 place.1)))

abbrev pub trace_in : List ℕ → Network → Reading (List Seen)
trace_in word net = record {
  gone = λ files. get files word ≡ None;
  refused = TraceRefused word net;
  gives = IsTraceIn word net;
  may = IsTextAnswer;
}

-- a network, and the events of a trace over it
abbrev pub told_in : List ℕ → List ℕ → Reading (Network × List Seen)
told_in net_word trace_word = then_read (network_in net_word) (trace_in trace_word)

-- a network, streams and a good certificate, and the events of a trace over the network
abbrev pub judged_told_in : JudgeWords → List ℕ → Reading ((Network × (Streams × Certificate)) × List Seen)
judged_told_in words trace_word = then_read (judging words) (λ x. trace_in trace_word x.0)
