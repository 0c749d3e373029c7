-- At which moments events stand.
use Rattle.std.specs.Prelude.{ℕ, ◌+◌, ◌*◌, ◌<◌, ◌≤◌, ◌≡◌, List, length}
use Rattle.std.specs.List.{AllByRecursion as Every}
use Rattle.pre_history.specs.History.{PlainEvent}
use Rattle.pre_history.specs.Moments.{Phase, moments, place_of}
use Rattle.pre_history.specs.Scenario.{Scenario}

-- the number of the moment at this place of the tick
abbrev pub number : (arcs tick k : ℕ) → ℕ
number arcs tick k = tick * moments arcs + k

-- the number of the phase of the tick among all moments
abbrev pub moment_number : (arcs tick : ℕ) → Phase → ℕ
moment_number arcs tick p = number arcs tick (place_of arcs p)

abbrev pub moment_of : Scenario → (tick : ℕ) → Phase → ℕ
moment_of w tick p = moment_number (length w.net.arcs) tick p

-- With this many arcs the phase is place k of its tick.
abbrev pub HasPlace : ℕ → ℕ → Phase → Type 0
HasPlace arcs k Phase.sets = k ≡ place_of arcs Phase.sets
HasPlace arcs k (Phase.ends a) = (a < arcs) × (k ≡ place_of arcs (Phase.ends a))
HasPlace arcs k (Phase.arrivals a) = (a < arcs) × (k ≡ place_of arcs (Phase.arrivals a))
HasPlace arcs k (Phase.expiries a) = (a < arcs) × (k ≡ place_of arcs (Phase.expiries a))
HasPlace arcs k Phase.entries = k ≡ place_of arcs Phase.entries
HasPlace arcs k (Phase.starts a) = (a < arcs) × (k ≡ place_of arcs (Phase.starts a))

-- An event that stands at moment n. Closing events stand at none.
abbrev pub IsAt : ℕ → ℕ → PlainEvent → Type 0
IsAt arcs n (PlainEvent.set tick a value) = n ≡ moment_number arcs tick Phase.sets
IsAt arcs n (PlainEvent.ended e) = (e.arc < arcs) × (n ≡ moment_number arcs e.tick (Phase.ends e.arc))
IsAt arcs n (PlainEvent.arrive x) = (x.arc < arcs) × (n ≡ moment_number arcs x.tick (Phase.arrivals x.arc))
IsAt arcs n (PlainEvent.deliver d) = (a : ℕ) × (a < arcs) × (n ≡ moment_number arcs d.tick (Phase.arrivals a))
IsAt arcs n (PlainEvent.active tick a value) = (a < arcs) × (n ≡ moment_number arcs tick (Phase.expiries a))
IsAt arcs n (PlainEvent.enter e) = n ≡ moment_number arcs e.tick Phase.entries
IsAt arcs n (PlainEvent.dropped e) = n ≡ moment_number arcs e.tick Phase.entries
IsAt arcs n (PlainEvent.begin b) = (b.arc < arcs) × (n ≡ moment_number arcs b.tick (Phase.starts b.arc))
IsAt arcs n (PlainEvent.count a c) = ⊥
IsAt arcs n (PlainEvent.end e) = ⊥

-- so does each of these
abbrev pub AllAt : ℕ → ℕ → List PlainEvent → Type 0
AllAt arcs n es = Every (IsAt arcs n) es

-- it stands at a moment before moment n
abbrev pub IsBefore : ℕ → ℕ → PlainEvent → Type 0
IsBefore arcs n e = (m : ℕ) × (m < n) × IsAt arcs m e

-- so does each of these
abbrev pub AllBefore : ℕ → ℕ → List PlainEvent → Type 0
AllBefore arcs n es = Every (IsBefore arcs n) es

-- it stands at a moment from m up to n
abbrev pub IsWithin : (arcs m n : ℕ) → PlainEvent → Type 0
IsWithin arcs m n e = (k : ℕ) × (m ≤ k) × (k < n) × IsAt arcs k e

-- so does each of these
abbrev pub AllWithin : (arcs m n : ℕ) → List PlainEvent → Type 0
AllWithin arcs m n es = Every (IsWithin arcs m n) es

-- These events stand at moments from the starts of the tick on: no query at the tick reads them.
abbrev pub AreLater : Scenario → ℕ → List PlainEvent → Type 0
AreLater w t es = (n : ℕ) × AllWithin (length w.net.arcs) (moment_of w t (Phase.starts 0)) n es
