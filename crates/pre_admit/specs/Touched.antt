-- Which ports a new stream can change.
use Rattle.std.specs.Prelude.{ℕ, zero, suc, ◌<◌, ◌≤◌, List, Contains, IsSome, IsTrue}
use Rattle.pre_streams.specs.declared.rows.Row.{Row}
use Rattle.pre_bound.specs.Uses.{TakesAt, takes}

-- a stream that uses a port of its own priority in the set takes the arc later, and its priority is at least this one
pub record IsReached (rows : List Row) (set : ℕ → ℕ → Type 0) (arc prio : ℕ) : Type 0 where
  pub stream : Row
  pub listed : Contains rows stream
  pub express : IsSome stream.curve
  pub hop : ℕ
  pub before : ℕ
  pub here : TakesAt stream hop before
  pub inside : set before stream.prio
  pub later : ℕ
  pub onward : hop < later
  pub there : TakesAt stream later arc
  pub lower : prio ≤ stream.prio

-- after so many steps of that kind from the ports of the new stream's arcs
abbrev pub TouchedAfter : List Row → Row → ℕ → ℕ → ℕ → Type 0
TouchedAfter rows row zero arc prio = IsTrue (takes arc row)
TouchedAfter rows row (suc n) arc prio = IsReached rows (λ before q. TouchedAfter rows row n before q) arc prio

-- The least set of ports that has all ports of the arcs of the new stream's route, and, for each stream that uses a port of
-- its own priority in it, all ports of at most that priority on the stream's later arcs.
abbrev pub Touched : List Row → Row → ℕ → ℕ → Type 0
Touched rows row arc prio = (n : ℕ) × TouchedAfter rows row n arc prio

-- the stream has no port of its own priority in the set
abbrev pub IsApart : List Row → Row → Row → Type 0
IsApart rows row r = (hop arc : ℕ) → TakesAt r hop arc → ¬ Touched rows row arc r.prio
