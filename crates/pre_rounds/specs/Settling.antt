-- Settled rounds, and the ends of the rounds.
use Rattle.std.specs.Prelude.{◌≡◌, ℕ, ◌+◌, ◌*◌, ◌<◌, ◌≤◌, Bool, true, false, List, length, IsTrue}
use Rattle.pre_topo.specs.declared.network.Network.{Network}
use Rattle.pre_streams.specs.declared.rows.Row.{Row}
use Rattle.pre_bound.specs.Uses.{has_port}
use Rattle.pre_bound.specs.Good.{AtPorts, AtStreams}
use Rattle.pre_rounds.specs.Rounds.{Bursts, round_bursts}
use Rattle.pre_rounds.specs.Passing.{passes_over}

-- the last round that is tried
abbrev pub last_round : ℕ
last_round = 1000

-- each stream has the same bursts at the hops of its route
abbrev pub SameBursts : List Row → Bursts → Bursts → Type 0
SameBursts rows bursts other = AtStreams rows (λ stream r. (hop : ℕ) → hop < length r.arcs → bursts stream hop ≡ other stream hop)

-- the next round has the bursts of this one
abbrev pub IsSettled : Network → List Row → ℕ → Type 0
IsSettled net rows round = SameBursts rows (round_bursts net rows (round + 1)) (round_bursts net rows round)

-- no number of the round passes the limit
abbrev pub NonePasses : Network → List Row → ℕ → Type 0
NonePasses net rows round = AtPorts net rows (λ arc prio. passes_over net rows (round_bursts net rows round) arc prio ≡ false)

-- no number of the round passes the limit, and it isn't settled
pub record GoesOn (net : Network) (rows : List Row) (round : ℕ) : Type 0 where
  pub small : NonePasses net rows round
  pub unsettled : ¬ IsSettled net rows round

-- so it is with each round before this one
abbrev pub GoOnBefore : Network → List Row → ℕ → Type 0
GoOnBefore net rows round = (earlier : ℕ) → earlier < round → GoesOn net rows earlier

-- the first settled round, and no number of it or before it passes the limit
pub record SettlesAt (net : Network) (rows : List Row) (round : ℕ) : Type 0 where
  pub within : round ≤ last_round
  pub before : GoOnBefore net rows round
  pub small : NonePasses net rows round
  pub settled : IsSettled net rows round

-- the first port, by arc and priority, that meets a test
pub record IsFirstPort (net : Network) (rows : List Row) (test : ℕ → ℕ → Bool) (arc prio : ℕ) : Type 0 where
  pub within : (arc < length net.arcs) × (prio < 8)
  pub port : IsTrue (has_port rows arc prio)
  pub here : test arc prio ≡ true
  pub before : AtPorts net rows (λ a p. a * 8 + p < arc * 8 + prio → test a p ≡ false)
