-- The picture of the queue of a port that a certificate speaks of.
use Rattle.std.specs.Prelude.{◌≡◌, ◌≢◌, ℕ, List, None, unwrap_or}
use Rattle.pre_topo.specs.declared.network.Network.{Network}
use Rattle.pre_topo.specs.Named.{arc_named}
use Rattle.pre_streams.specs.declared.rows.Streams.{Streams}
use Rattle.pre_bound.specs.declared.certificate.Certificate.{Certificate}
use Rattle.pre_picture.specs.declared.queues.Port.{Port}
use Rattle.pre_picture.specs.declared.traces.Seen.{Seen}
use Rattle.pre_picture.specs.Queues.{queue_text}
use Rattle.pre_cli.specs.declared.statuses.Status.{Status}
use Rattle.pre_cli.specs.declared.statuses.Status.TheVariants as status
use Rattle.pre_cli.specs.Headline.{printed_size}
use Rattle.pre_cli.specs.Readings.{Reading, tested}
use Rattle.pre_cli.specs.Words.{JudgeWords}
use Rattle.pre_draw.specs.Traces.{judged_told_in}

abbrev pub Files : Type 0
Files = (Network × (Streams × Certificate)) × List Seen

-- the word names an arc of the network, or none and this is the answer
abbrev pub HasArc : List ℕ → Files → Type 0
HasArc word x = arc_named x.0.0 word ≢ None

abbrev pub LacksArc : List ℕ → Files → Status → Type 0
LacksArc word x s = (arc_named x.0.0 word ≡ None) × (s ≡ status.NoArc)

-- a network, streams, a good certificate, the events of a trace, and the name of an arc
abbrev pub queued_in : JudgeWords → List ℕ → List ℕ → Reading Files
queued_in words trace_word arc_word = tested (judged_told_in words trace_word) (HasArc arc_word) (LacksArc arc_word)

abbrev pub port_of : (arc prio : ℕ) → Port
port_of arc prio = record { arc = arc; prio = prio }

-- the queue of this priority on an arc, with the size that the certificate prints for it, and 0 where it prints none
abbrev pub queue_on : (arc prio : ℕ) → Files → List ℕ
queue_on arc prio x = queue_text (port_of arc prio) (printed_size x.0.1.1 arc prio) x.1

abbrev pub queue_picture : List ℕ → ℕ → Files → List ℕ
queue_picture arc_word prio x = queue_on (unwrap_or (arc_named x.0.0 arc_word) 0) prio x
