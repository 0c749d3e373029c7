-- What is drawn of a trace: its events in plain numbers, one of each line, or its first fault.
use Rattle.std.specs.Prelude.{◌≡◌, ⊤, ℕ, ◌+◌, ◌*◌, List, [], ◌∷◌, ◌++◌, slice_get, max, Result, Ok, Err}
use Rattle.std.specs.Option.{option_map_or}
use Rattle.pre_text.specs.Lines.{numbered_lines}
use Rattle.pre_topo.specs.declared.network.Network.{Network}
use Rattle.pre_history.specs.History.{PlainEvent}
use Rattle.pre_trace.specs.declared.words.EventFault.{EventFault}
use Rattle.pre_trace.specs.declared.words.EventFault.TheVariants as event_fault
use Rattle.pre_trace.specs.Saying.{event_of}
use Rattle.pre_picture.specs.declared.traces.Seen.{Seen}
use Rattle.pre_picture.specs.declared.traces.Seen.TheVariants.{Other, Begin, Ended, Arrive, Deliver, Enter}
use Rattle.pre_picture.specs.declared.traces.TraceFault.{TraceFault}
use Rattle.pre_picture.specs.declared.traces.TraceFault.TheVariants.{Line, Memory}

-- the tick of an event
abbrev pub tick_of : Seen → ℕ
tick_of (Other tick) = tick
tick_of (Begin tick arc ord kind what) = tick
tick_of (Ended tick arc ord size) = tick
tick_of (Arrive tick arc result) = tick
tick_of (Deliver tick frame control) = tick
tick_of (Enter tick arc prio frame) = tick

-- the greatest tick of a trace
abbrev pub last_tick : List Seen → ℕ
last_tick [] = 0
last_tick (e ∷ events) = max (tick_of e) (last_tick events)

abbrev pub octet_at : List ℕ → ℕ → ℕ
octet_at octets place = option_map_or (λ octet. octet) (slice_get octets place) 0

-- the tag control information behind the addresses and the tag's type
abbrev pub control_of : List ℕ → ℕ
control_of octets = octet_at octets 14 * 256 + octet_at octets 15

abbrev pub seen_of : PlainEvent → Seen
seen_of (PlainEvent.begin b) = Begin b.tick b.arc b.ord b.kind b.what
seen_of (PlainEvent.ended e) = Ended e.tick e.arc e.ord e.size
seen_of (PlainEvent.arrive x) = Arrive x.tick x.arc x.result
seen_of (PlainEvent.deliver d) = Deliver d.tick d.frame (control_of d.octets)
seen_of (PlainEvent.enter e) = Enter e.tick e.arc e.prio e.frame
seen_of (PlainEvent.set tick arc value) = Other tick
seen_of (PlainEvent.active tick arc value) = Other tick
seen_of (PlainEvent.dropped e) = Other e.tick
seen_of (PlainEvent.count arc c) = Other 0
seen_of (PlainEvent.end e) = Other e.until

abbrev pub seen_result : Result PlainEvent EventFault → Result Seen EventFault
seen_result (Ok e) = Ok (seen_of e)
seen_result (Err fault) = Err fault

-- of a line
abbrev pub seen_in : Network → List ℕ → Result Seen EventFault
seen_in net line = seen_result (event_of net line)

abbrev pub rule_of : EventFault → ℕ
rule_of event_fault.Word = 1
rule_of event_fault.Number = 2
rule_of event_fault.Name = 3
rule_of event_fault.Hex = 4

-- one line and those behind it, where it has no fault
abbrev pub then_lines : ℕ → Result Seen EventFault → (Seen → Result (List Seen) (ℕ × ℕ)) → Result (List Seen) (ℕ × ℕ)
then_lines number (Ok s) next = next s
then_lines number (Err fault) next = Err (number, rule_of fault)

-- behind what was found, line by line, up to the first fault
abbrev pub after_lines : Network → List Seen → List (ℕ × List ℕ) → Result (List Seen) (ℕ × ℕ)
after_lines net found [] = Ok found
after_lines net found (line ∷ lines) = then_lines line.0 (seen_in net line.1) (λ s. after_lines net (found ++ s ∷ []) lines)

-- of a text: each line's event, or the number and the rule of the first line that is none
abbrev pub trace_of : Network → List ℕ → Result (List Seen) (ℕ × ℕ)
trace_of net text = after_lines net [] (numbered_lines text)

-- want of memory alone may take the place of what is due
abbrev pub ReadsAs : Result (List Seen) TraceFault → Result (List Seen) (ℕ × ℕ) → Type 0
ReadsAs (Ok found) due = due ≡ Ok found
ReadsAs (Err (Line line rule)) due = due ≡ Err (line, rule)
ReadsAs (Err Memory) due = ⊤
