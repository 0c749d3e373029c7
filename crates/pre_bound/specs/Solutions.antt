-- The inequalities of network calculus that a delay, a grown burst and a queue's size must meet, and their least solutions.
-- Rates are octets in 1,000,000 ticks.
use Rattle.std.specs.Prelude.{ℕ, ◌+◌, ◌-◌, ◌*◌, ◌/◌, ◌<◌, ◌≤◌, max}

-- A delay covers a port's busy period: in one tick more than it, what the higher priorities leave of the arc carries away
-- the block and the work, and a least frame passes within it.
pub record CoversDelay (block work rate cost delay : ℕ) : Type 0 where
  pub busy : 1_000_000 * (block + work) < (delay + 1) * (1_000_000 - cost * rate)
  pub frame : 84 * cost ≤ delay

-- A burst covers another one hop later: frames that waited up to the delay stand together with those that waited
-- for a least frame alone.
abbrev pub CoversGrowth : ℕ → ℕ → ℕ → ℕ → ℕ → Type 0
CoversGrowth burst rate delay cost next = 1_000_000 * burst + rate * (delay - 84 * cost) ≤ 1_000_000 * next

-- A size covers a queue: what the bursts and the rates can bring within the delay is below one octet more than it.
abbrev pub CoversQueue : ℕ → ℕ → ℕ → ℕ → Type 0
CoversQueue bursts rate delay size = 1_000_000 * bursts + rate * delay < 1_000_000 * (size + 1)

-- a number that meets P, and no lower one does
pub record IsLeast (P : ℕ → Type 0) (n : ℕ) : Type 0 where
  pub meets : P n
  pub least : (m : ℕ) → P m → n ≤ m

abbrev pub least_delay : ℕ → ℕ → ℕ → ℕ → ℕ
least_delay block work rate cost = max (84 * cost) (1_000_000 * (block + work) / (1_000_000 - cost * rate))

abbrev pub least_growth : ℕ → ℕ → ℕ → ℕ → ℕ
least_growth burst rate delay cost = (1_000_000 * burst + rate * (delay - 84 * cost) + 999_999) / 1_000_000

abbrev pub least_size : ℕ → ℕ → ℕ → ℕ
least_size bursts rate delay = (1_000_000 * bursts + rate * delay) / 1_000_000
