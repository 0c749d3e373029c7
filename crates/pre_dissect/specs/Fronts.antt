-- The histories that a watcher of a run is told.
use Rattle.std.specs.Prelude.{ℕ, ◌≡◌, ◌⊎◌, ◌≤◌, ◌++◌}
use Rattle.std.specs.List.{AllByRecursion as Every}
use Rattle.pre_streams.specs.Fits as rows
use Rattle.pre_script.specs.Fits as lines
use Rattle.pre_history.specs.Scenario.{Scenario}
use Rattle.pre_history.specs.History.{PlainEvent, History}
use Rattle.pre_history.specs.Legal.{Legal, LegalBefore}

-- The streams fit the network, and the script fits both.
pub record FilesFit (w : Scenario) : Type 0 where
  pub rows_fit : rows.Fits w.net w.streams
  pub lines_fit : lines.Fits w.net w.streams w.script

-- The event is at the tick or before it; one of the end of a run is at none.
abbrev pub IsUpTo : ℕ → PlainEvent → Type 0
IsUpTo until (PlainEvent.set tick arc value) = tick ≤ until
IsUpTo until (PlainEvent.begin b) = b.tick ≤ until
IsUpTo until (PlainEvent.ended e) = e.tick ≤ until
IsUpTo until (PlainEvent.arrive x) = x.tick ≤ until
IsUpTo until (PlainEvent.deliver d) = d.tick ≤ until
IsUpTo until (PlainEvent.active tick arc value) = tick ≤ until
IsUpTo until (PlainEvent.enter e) = e.tick ≤ until
IsUpTo until (PlainEvent.dropped e) = e.tick ≤ until
IsUpTo until (PlainEvent.count arc c) = Unit {0}
IsUpTo until (PlainEvent.end e) = Unit {0}

-- It is a front of a history that is legal, or legal before some moment.
pub record IsLegalFront (w : Scenario) (h : History) : Type 0 where
  pub whole : History
  pub rest : History
  pub joined : whole ≡ h ++ rest
  pub legal : Legal w whole ⊎ ((n : ℕ) × LegalBefore w whole n)

-- It is such a front without an event after the last tick.
pub record IsFront (w : Scenario) (h : History) : Type 0 where
  pub legal_front : IsLegalFront w h
  pub within : Every (IsUpTo w.script.until.0) h
