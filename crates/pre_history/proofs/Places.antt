-- Events that stand at later moments are read by no query at a tick.
use Rattle.std.proofs.Common.{ℕ, ◌+◌, ◌*◌, ◌<◌, ◌≤◌, inl, inr, arith, length}
use Rattle.std.proofs.Math.Nat.{mul-le-mul_right}
use Rattle.std.proofs.lemmas.Bool.{cases_lt}
use Rattle.pre_history.specs.History.{PlainEvent, History}
use Rattle.pre_history.specs.Moments.{moments, Phase}
use Rattle.pre_history.specs.Placed.{number, IsAt, AreLater, moment_of}
use Rattle.pre_history.proofs.IsLater.{IsLater, AllLater}
use Rattle.std.specs.List.{AllByRecursion as Every}
use Rattle.pre_history.proofs.Lists.{every_weaker}
use Rattle.pre_history.proofs.Turns.{tick_le}
use Rattle.pre_history.proofs.Unread.{IsUnread}
use Rattle.pre_history.specs.Placed.{IsWithin, AllWithin}
use Rattle.pre_history.specs.Scenario.{Scenario}

-- a moment at an earlier place that isn't earlier is of a later tick
pub later_tick : (size s t j k : ℕ) → j < k → s * size + k ≤ t * size + j → s < t
later_tick size s t j k lt le = elim (cases_lt s t) [
  | inl done ↦ done
  | inr more ↦ let reach : t * size ≤ s * size = mul-le-mul_right size more in absurd (omega (arith, reach, le, lt))
]

module _ (arcs t m k : ℕ) (le : m ≤ k) where
  module _ (from : number arcs t (2 + 3 * arcs) ≤ m) where
    is_later : (e : PlainEvent) → IsAt arcs k e → IsLater t e
    is_later (PlainEvent.begin b) (lt, at) = tick_le (moments arcs) t b.tick (2 + 3 * arcs) (2 + 3 * arcs + b.arc) (omega (arith, lt)) (omega (arith, from, le, at))
    is_later (PlainEvent.ended e) (lt, at) = later_tick (moments arcs) t e.tick (1 + e.arc) (2 + 3 * arcs) (omega (arith, lt)) (omega (arith, from, le, at))
    is_later (PlainEvent.arrive x) (lt, at) = later_tick (moments arcs) t x.tick (1 + arcs + x.arc) (2 + 3 * arcs) (omega (arith, lt)) (omega (arith, from, le, at))
    is_later (PlainEvent.enter e) at = later_tick (moments arcs) t e.tick (1 + 3 * arcs) (2 + 3 * arcs) (omega arith) (omega (arith, from, le, at))
    is_later (PlainEvent.dropped e) at = later_tick (moments arcs) t e.tick (1 + 3 * arcs) (2 + 3 * arcs) (omega arith) (omega (arith, from, le, at))
    is_later (PlainEvent.active s a v) (lt, at) = let less = later_tick (moments arcs) t s (1 + 2 * arcs + a) (2 + 3 * arcs) (omega (arith, lt)) (omega (arith, from, le, at)) in omega (arith, less)
    is_later (PlainEvent.set s a v) at = tt
    is_later (PlainEvent.deliver d) at = tt
    is_later (PlainEvent.count a c) at = tt
    is_later (PlainEvent.end e) at = tt

  module _ (from : number arcs t (1 + 2 * arcs) ≤ m) where
    is_unread : (e : PlainEvent) → IsAt arcs k e → IsUnread t e
    is_unread (PlainEvent.begin b) (lt, at) = tick_le (moments arcs) t b.tick (1 + 2 * arcs) (2 + 3 * arcs + b.arc) (omega (arith, lt)) (omega (arith, from, le, at))
    is_unread (PlainEvent.ended e) (lt, at) = later_tick (moments arcs) t e.tick (1 + e.arc) (1 + 2 * arcs) (omega (arith, lt)) (omega (arith, from, le, at))
    is_unread (PlainEvent.arrive x) (lt, at) = later_tick (moments arcs) t x.tick (1 + arcs + x.arc) (1 + 2 * arcs) (omega (arith, lt)) (omega (arith, from, le, at))
    is_unread (PlainEvent.active s a v) (lt, at) = tick_le (moments arcs) t s (1 + 2 * arcs) (1 + 2 * arcs + a) (omega (arith, lt)) (omega (arith, from, le, at))
    is_unread (PlainEvent.enter e) at = tt
    is_unread (PlainEvent.dropped e) at = tt
    is_unread (PlainEvent.set s a v) at = tt
    is_unread (PlainEvent.deliver d) at = tt
    is_unread (PlainEvent.count a c) at = tt
    is_unread (PlainEvent.end e) at = tt

-- what stands from the starts of a tick on
pub all_later_from : (arcs t m n : ℕ) (es : History) → number arcs t (2 + 3 * arcs) ≤ m → AllWithin arcs m n es → AllLater t es
all_later_from arcs t m n es from within = every_weaker (IsWithin arcs m n) (IsLater t) (λ e here. is_later arcs t m here.0 here.1 from e here.3) es within

-- what stands from the expiries of a tick on
pub all_unread_from : (arcs t m n : ℕ) (es : History) → number arcs t (1 + 2 * arcs) ≤ m → AllWithin arcs m n es → Every (IsUnread t) es
all_unread_from arcs t m n es from within = every_weaker (IsWithin arcs m n) (IsUnread t) (λ e here. is_unread arcs t m here.0 here.1 from e here.3) es within

-- what no query at a tick reads, none at an earlier tick does
later_sooner : (t u : ℕ) → u ≤ t → (e : PlainEvent) → IsLater t e → IsLater u e
later_sooner t u le (PlainEvent.begin b) later = omega (arith, le, later)
later_sooner t u le (PlainEvent.ended e) later = omega (arith, le, later)
later_sooner t u le (PlainEvent.arrive x) later = omega (arith, le, later)
later_sooner t u le (PlainEvent.enter e) later = omega (arith, le, later)
later_sooner t u le (PlainEvent.dropped e) later = omega (arith, le, later)
later_sooner t u le (PlainEvent.active s a v) later = omega (arith, le, later)
later_sooner t u le (PlainEvent.set s a v) later = tt
later_sooner t u le (PlainEvent.deliver d) later = tt
later_sooner t u le (PlainEvent.count a c) later = tt
later_sooner t u le (PlainEvent.end e) later = tt

pub all_later_sooner : (t u : ℕ) (es : History) → u ≤ t → AllLater t es → AllLater u es
all_later_sooner t u es le later = every_weaker (IsLater t) (IsLater u) (later_sooner t u le) es later

pub later_read : (w : Scenario) (t : ℕ) (es : History) → AreLater w t es → AllLater t es
later_read w t es (n, within) = all_later_from (length w.net.arcs) t (moment_of w t (Phase.starts 0)) n es (omega arith) within
