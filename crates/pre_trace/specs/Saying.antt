-- The event that a line tells, or its first fault.
use Rattle.std.specs.Prelude.{ℕ, Bool, true, false, ◌^◌, List, [], ◌∷◌, codes, Option, Some, None, Result, Ok, Err, if◌then◌else◌}
use Rattle.std.specs.Str.{bytes_eq}
use Rattle.pre_base.specs.declared.limits.TheConstants.{GREATEST_FRAME}
use Rattle.pre_text.specs.Lines.{words_of}
use Rattle.pre_text.specs.Words.{number_of}
use Rattle.pre_topo.specs.declared.network.Network.{Network}
use Rattle.pre_topo.specs.Named.{arc_named}
use Rattle.pre_history.specs.History.{Entry, PlainEvent}
use Rattle.pre_trace.specs.declared.words.EventFault.{EventFault}
use Rattle.pre_trace.specs.declared.words.EventFault.TheVariants.{Word, Number, Name, Hex}
use Rattle.pre_script.specs.Saying.{two, three, four, setting_of}
use Rattle.pre_trace.specs.Values.{check_of, five, has_single_spaces, kind_of, lower_case_pairs, node_named, number_below, outcome_of, six, what_of, yes_of}

-- what goes on with a value, and is refused where there is none
abbrev pub given : {A B : Type 0} → Option A → EventFault → (A → Result B EventFault) → Result B EventFault
given None fault next = Err fault
given (Some x) fault next = next x

-- in each kind the faults of words come first, and the others from the left to the right

abbrev pub set_said : Network → List ℕ → List (List ℕ) → Result PlainEvent EventFault
set_said net first words =
    given (two words) Word (λ w.
    given (setting_of w.1) Word (λ value.
    given (number_of first) Number (λ tick.
    given (arc_named net w.0) Name (λ arc.
    Ok (PlainEvent.set tick arc value)))))

abbrev pub begin_said : Network → List ℕ → List (List ℕ) → Result PlainEvent EventFault
begin_said net first words =
    given (five words) Word (λ w.
    given (kind_of w.2) Word (λ kind.
    given (number_of first) Number (λ tick.
    given (arc_named net w.0) Name (λ arc.
    given (number_of w.1) Number (λ ord.
    given (what_of w.3) Number (λ what.
    given (number_below (2 ^ 16) w.4) Number (λ from.
    Ok (PlainEvent.begin (record { tick = tick; arc = arc; ord = ord; kind = kind; what = what; from = from })))))))))

abbrev pub ended_said : Network → List ℕ → List (List ℕ) → Result PlainEvent EventFault
ended_said net first words =
    given (four words) Word (λ w.
    given (number_of first) Number (λ tick.
    given (arc_named net w.0) Name (λ arc.
    given (number_of w.1) Number (λ ord.
    given (number_below (2 ^ 16) w.2) Number (λ size.
    given (check_of w.3) Hex (λ check.
    Ok (PlainEvent.ended (record { tick = tick; arc = arc; ord = ord; size = size; check = check }))))))))

abbrev pub arrive_said : Network → List ℕ → List (List ℕ) → Result PlainEvent EventFault
arrive_said net first words =
    given (three words) Word (λ w.
    given (outcome_of w.2) Word (λ result.
    given (number_of first) Number (λ tick.
    given (arc_named net w.0) Name (λ arc.
    given (number_of w.1) Number (λ ord.
    Ok (PlainEvent.arrive (record { tick = tick; arc = arc; ord = ord; result = result })))))))

abbrev pub deliver_said : Network → List ℕ → List (List ℕ) → Result PlainEvent EventFault
deliver_said net first words =
    given (three words) Word (λ w.
    given (number_of first) Number (λ tick.
    given (node_named net w.0) Name (λ node.
    given (number_below (2 ^ 32) w.1) Number (λ frame.
    given (lower_case_pairs GREATEST_FRAME w.2) Hex (λ octets.
    Ok (PlainEvent.deliver (record { tick = tick; node = node; frame = frame; octets = octets })))))))

abbrev pub active_said : Network → List ℕ → List (List ℕ) → Result PlainEvent EventFault
active_said net first words =
    given (two words) Word (λ w.
    given (yes_of w.1) Word (λ value.
    given (number_of first) Number (λ tick.
    given (arc_named net w.0) Name (λ arc.
    Ok (PlainEvent.active tick arc value)))))

abbrev pub entered : Bool → Entry → PlainEvent
entered true e = PlainEvent.dropped e
entered false e = PlainEvent.enter e

abbrev pub entry_said : Bool → Network → List ℕ → List (List ℕ) → Result PlainEvent EventFault
entry_said lost net first words =
    given (three words) Word (λ w.
    given (number_of first) Number (λ tick.
    given (arc_named net w.0) Name (λ arc.
    given (number_below 8 w.1) Number (λ prio.
    given (number_below (2 ^ 32) w.2) Number (λ frame.
    Ok (entered lost (record { tick = tick; arc = arc; prio = prio; frame = frame })))))))

abbrev pub count_said : Network → List (List ℕ) → Result PlainEvent EventFault
count_said net words =
    given (six words) Word (λ w.
    given (arc_named net w.0) Name (λ arc.
    given (number_of w.1) Number (λ err.
    given (number_of w.2) Number (λ smd.
    given (number_of w.3) Number (λ ok.
    given (number_of w.4) Number (λ rx.
    given (number_of w.5) Number (λ tx.
    Ok (PlainEvent.count arc (record { err = err; smd = smd; ok = ok; rx = rx; tx = tx })))))))))

abbrev pub end_said : List ℕ → List (List ℕ) → Result PlainEvent EventFault
end_said first words =
    given (three words) Word (λ w.
    given (number_of first) Number (λ until.
    given (number_of w.0) Number (λ sent.
    given (number_of w.1) Number (λ delivered.
    given (number_of w.2) Number (λ dropped.
    Ok (PlainEvent.end (record { until = until; sent = sent; delivered = delivered; dropped = dropped })))))))

-- by the kind word
abbrev pub said_by : Network → List ℕ → List ℕ → List (List ℕ) → Result PlainEvent EventFault
said_by net first kind words =
    if bytes_eq kind (codes "set") then set_said net first words
    else if bytes_eq kind (codes "begin") then begin_said net first words
    else if bytes_eq kind (codes "ended") then ended_said net first words
    else if bytes_eq kind (codes "arrive") then arrive_said net first words
    else if bytes_eq kind (codes "deliver") then deliver_said net first words
    else if bytes_eq kind (codes "active") then active_said net first words
    else if bytes_eq kind (codes "enter") then entry_said false net first words
    else if bytes_eq kind (codes "dropped") then entry_said true net first words
    else if bytes_eq kind (codes "end") then end_said first words
    else Err Word

-- the kind word is the second, where the first isn't `count`
abbrev pub said_after : Network → List ℕ → List (List ℕ) → Result PlainEvent EventFault
said_after net first [] = Err Word
said_after net first (kind ∷ words) = said_by net first kind words

abbrev pub said_in : Network → List (List ℕ) → Result PlainEvent EventFault
said_in net [] = Err Word
said_in net (first ∷ words) = if bytes_eq first (codes "count") then count_said net words else said_after net first words

-- the event of a line, or its first fault
abbrev pub event_of : Network → List ℕ → Result PlainEvent EventFault
event_of net line = if has_single_spaces line then said_in net (words_of line) else Err Word
