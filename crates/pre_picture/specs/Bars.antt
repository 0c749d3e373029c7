-- The mPackets that a trace tells, each from its begin to its end.
use Rattle.std.specs.Prelude.{◌≡◌, ℕ, ◌==◌, List, [], ◌∷◌, ◌++◌, Option, Some, None, if◌then◌else◌}
use Rattle.std.specs.BTreeMap.{BTreeMap, get}
use Rattle.std.specs.Ordering.{nat_cmp}
use Rattle.pre_picture.specs.declared.traces.Seen.{Seen}
use Rattle.pre_picture.specs.declared.traces.Seen.TheVariants.{Begin, Ended}
use Rattle.pre_picture.specs.declared.bars.Stop.{Stop}
use Rattle.pre_picture.specs.declared.bars.Bar.{Bar}

-- the first `ended` line of an arc among events
abbrev pub stop_here : ℕ → Seen → Option Stop → Option Stop
stop_here arc (Ended tick a ord size) later = if a == arc then Some (record { ord = ord; tick = tick; size = size }) else later
stop_here arc other later = later

abbrev pub next_stop : ℕ → List Seen → Option Stop
next_stop arc [] = None
next_stop arc (e ∷ events) = stop_here arc e (next_stop arc events)

-- where it is of the number that began
abbrev pub stop_for : ℕ → Option Stop → Option Stop
stop_for ord None = None
stop_for ord (Some s) = if s.ord == ord then Some s else None

-- the mPacket of a `begin` line before events
abbrev pub bars_at : Seen → List Seen → List Bar
bars_at (Begin tick arc ord kind what) events = record { arc = arc; kind = kind; what = what; begin = tick; stop = stop_for ord (next_stop arc events) } ∷ []
bars_at other events = []

-- one for each `begin` line, the last one first
abbrev pub bars : List Seen → List Bar
bars [] = []
bars (e ∷ events) = bars events ++ bars_at e events

-- a map with the next end of each arc
abbrev pub Follow : BTreeMap ℕ Stop → List Seen → Type 0
Follow stops events = (arc : ℕ) → get nat_cmp stops arc ≡ next_stop arc events
