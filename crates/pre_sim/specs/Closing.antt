-- The counters of an arc at the end of a run.
use Rattle.std.specs.Prelude.{ℕ, ◌≡◌, ◌<◌, ◌^◌, List, [], ◌∷◌, length, Option, Some, None}
use Rattle.pre_history.specs.declared.events.Event.{Event}
use Rattle.pre_history.specs.Plain.{plain}
use Rattle.pre_history.specs.History.{Counts, PlainEvent, History}
use Rattle.pre_history.specs.Queries.{Arrivals}
use Rattle.pre_history.specs.Scenario.{Scenario}
use Rattle.pre_history.specs.Legal.{LegalUpTo, CountsOf, count_line}
use Rattle.pre_bridge.specs.Inside.{Entry}
use Rattle.pre_sim.specs.declared.lanes.Lane.{Lane}
use Rattle.pre_sim.specs.Stages.{Stage}
use Rattle.pre_sim.specs.Stands.{LaneStands}

abbrev pub told_of : Option Event → List PlainEvent
told_of None = []
told_of (Some e) = plain e ∷ []

-- a line tells counters of the arc
abbrev pub IsOfArc : ℕ → Event → Type 0
IsOfArc a e = (c : Counts) × (plain e ≡ PlainEvent.count a c)

-- They are the `count` line of the arc, where it has one.
abbrev pub TellsCounts : ℕ → Lane → History → Type 0
TellsCounts a lane es =
    (w : Scenario) (h : History) (n : ℕ) (stage : Stage) (items : List Entry) → a < length w.net.arcs → LegalUpTo w n h → length (Arrivals h a) < 2 ^ 64 → LaneStands w h a stage lane items
    → (c : Counts) × CountsOf w h a c × (es ≡ count_line a c)

abbrev pub IsCountLine : ℕ → Lane → Option Event → Type 0
IsCountLine a lane line = TellsCounts a lane (told_of line)
