-- Events that no query at a tick reads: those at later moments.
use Rattle.std.specs.Prelude.{ℕ, ◌<◌, ◌≤◌, List}
use Rattle.std.specs.List.{AllByRecursion as Every}
use Rattle.pre_history.specs.History.{PlainEvent}

-- No query at the tick reads the event.
abbrev pub IsLater : ℕ → PlainEvent → Type 0
IsLater t (PlainEvent.begin b) = t ≤ b.tick
IsLater t (PlainEvent.ended e) = t < e.tick
IsLater t (PlainEvent.arrive x) = t < x.tick
IsLater t (PlainEvent.enter e) = t < e.tick
IsLater t (PlainEvent.dropped e) = t < e.tick
IsLater t (PlainEvent.active s a value) = t ≤ s
IsLater t (PlainEvent.set s a value) = Unit {0}
IsLater t (PlainEvent.deliver d) = Unit {0}
IsLater t (PlainEvent.count a c) = Unit {0}
IsLater t (PlainEvent.end e) = Unit {0}

abbrev pub AllLater : ℕ → List PlainEvent → Type 0
AllLater t es = Every (IsLater t) es
