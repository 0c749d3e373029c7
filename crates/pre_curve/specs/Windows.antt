-- Which sends a curve allows: in every window of them so many octets, and no more.
use Rattle.std.specs.Prelude.{ℕ, ◌+◌, ◌-◌, ◌*◌, ◌<◌, ◌≤◌, List, length, map, slice_index, slice_range, sum_by}
use Rattle.pre_base.specs.declared.numbers.Send.{Send}
use Rattle.pre_curve.specs.declared.curves.Curve.{Curve}

-- one send, as the wire carries it
pub record Offer : Type 0 where
  pub tick : ℕ
  pub octets : ℕ

-- a frame is carried with 8 octets of preamble and start delimiter before it, and at least 12 of gap after it
abbrev pub wire_octets : ℕ → ℕ
wire_octets size = size + 20

abbrev pub offer_of : Send → Offer
offer_of s = record { tick = s.tick.0; octets = wire_octets s.size }

abbrev pub offers_of : List Send → List Offer
offers_of sends = map offer_of sends

abbrev pub ticks_of : List Offer → List ℕ
ticks_of offers = map (λ o. o.tick) offers

abbrev pub octets_of : List Offer → ℕ
octets_of offers = sum_by (λ o. o.octets) offers

abbrev pub tick_at : List Offer → ℕ → ℕ
tick_at offers i = slice_index (ticks_of offers) i

-- the octets of the window from place i to place j
abbrev pub window_octets : List Offer → ℕ → ℕ → ℕ
window_octets offers i j = octets_of (slice_range offers i (j + 1))

-- the ticks from its first send to its last
abbrev pub window_ticks : List Offer → ℕ → ℕ → ℕ
window_ticks offers i j = tick_at offers j - tick_at offers i

-- what a curve allows in a window of so many ticks, in millionths of an octet
abbrev pub allowance : Curve → ℕ → ℕ
allowance curve ticks = 1_000_000 * curve.burst + curve.rate * ticks

abbrev pub WindowObeys : List Offer → Curve → ℕ → ℕ → Type 0
WindowObeys offers curve i j = 1_000_000 * window_octets offers i j ≤ allowance curve (window_ticks offers i j)

abbrev pub WindowBreaks : List Offer → Curve → ℕ → ℕ → Type 0
WindowBreaks offers curve i j = allowance curve (window_ticks offers i j) < 1_000_000 * window_octets offers i j

-- every window obeys
abbrev pub Obeys : List Offer → Curve → Type 0
Obeys offers curve = (i j : ℕ) → i ≤ j → j < length offers → WindowObeys offers curve i j

-- every window that ends at place j obeys
abbrev pub ObeysAt : List Offer → Curve → ℕ → Type 0
ObeysAt offers curve j = (i : ℕ) → i ≤ j → WindowObeys offers curve i j

-- some window that ends at place j breaks the curve
abbrev pub BreaksAt : List Offer → Curve → ℕ → Type 0
BreaksAt offers curve j = (i : ℕ) × (i ≤ j) × WindowBreaks offers curve i j

-- the tick of the last of them, and 0 where there is none
abbrev pub last_tick : List Offer → ℕ
last_tick offers = tick_at offers (length offers - 1)

-- no tick is below an earlier one's
abbrev pub InOrder : List Offer → Type 0
InOrder offers = (i j : ℕ) → i ≤ j → j < length offers → tick_at offers i ≤ tick_at offers j
