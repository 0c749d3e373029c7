-- How long the frames of a stream were on their way, as a trace tells it.
use Rattle.std.specs.Prelude.{◌≡◌, ℕ, ◌+◌, ◌-◌, ◌*◌, ◌==◌, ◌&&◌, Bool, false, List, [], ◌∷◌, filter_map, slice_get, max, Option, Some, None, if◌then◌else◌}
use Rattle.std.specs.BTreeMap.{BTreeMap, get}
use Rattle.std.specs.Option.{option_map_or}
use Rattle.std.specs.Ordering.{nat_cmp}
use Rattle.pre_streams.specs.declared.rows.Row.{Row}
use Rattle.pre_picture.specs.declared.traces.Seen.{Seen}
use Rattle.pre_picture.specs.declared.traces.Seen.TheVariants.{Deliver, Enter}
use Rattle.pre_picture.specs.declared.delays.Entry.{Entry}

-- the first `enter` line of a frame among events: where and when the frame was sent
abbrev pub entry_here : ℕ → Seen → Option Entry → Option Entry
entry_here f (Enter tick arc prio frame) later = if frame == f then Some (record { tick = tick; arc = arc; prio = prio }) else later
entry_here f other later = later

abbrev pub first_entry : List Seen → ℕ → Option Entry
first_entry [] f = None
first_entry (e ∷ events) f = entry_here f e (first_entry events f)

-- a map with the first entry of each frame
abbrev pub Knows : BTreeMap ℕ Entry → List Seen → Type 0
Knows first events = (f : ℕ) → get nat_cmp first f ≡ first_entry events f

-- A frame that was sent so, and was delivered with this tag control information, is of the row: it was sent on the first arc of
-- its route, with its priority and VID. Rows that share all of these can't be told apart.
abbrev pub is_of : Row → Entry → ℕ → Bool
is_of row entry control = option_map_or (λ a. a.0 == entry.arc) (slice_get row.arcs 0) false && (control == row.prio * 8192 + row.vid)

-- the ticks from the send of a frame of the row to its delivery
abbrev pub delay_from : Row → (tick control : ℕ) → Option Entry → Option ℕ
delay_from row tick control None = None
delay_from row tick control (Some entry) = if is_of row entry control then Some (tick - entry.tick) else None

abbrev pub delay_at : List Seen → Row → Seen → Option ℕ
delay_at events row (Deliver tick frame control) = delay_from row tick control (first_entry events frame)
delay_at events row other = None

-- those of a row, one for each delivery, in order
abbrev pub delays_of : List Seen → Row → List ℕ
delays_of events row = filter_map (delay_at events row) events

abbrev pub greatest : List ℕ → ℕ
greatest [] = 0
greatest (x ∷ xs) = max x (greatest xs)

abbrev pub greatest_delay : List Seen → Row → ℕ
greatest_delay events row = greatest (delays_of events row)
