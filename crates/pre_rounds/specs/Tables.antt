-- The bursts of all rows in one list, sixteen for a row, and the delays of all ports.
use Rattle.std.specs.Prelude.{◌≡◌, ℕ, ◌+◌, ◌*◌, ◌<◌, List, length, slice_index, false}
use Rattle.pre_topo.specs.declared.network.Network.{Network}
use Rattle.pre_streams.specs.declared.rows.Row.{Row}
use Rattle.pre_bound.specs.Good.{AtPorts, AtStreams}
use Rattle.pre_certify.specs.Tables.{delays_in, AreWithin}
use Rattle.pre_rounds.specs.Rounds.{Bursts, delay_over, round_bursts}
use Rattle.pre_rounds.specs.Settling.{SameBursts, SettlesAt}
use Rattle.pre_rounds.specs.Passing.{passes_over}

abbrev pub bursts_in : List ℕ → Bursts
bursts_in table stream hop = slice_index table (stream * 16 + hop)

-- the table has the bursts of these rows in this round
pub record IsRound (net : Network) (rows : List Row) (round : ℕ) (table : List ℕ) : Type 0 where
  pub within : AreWithin table
  pub same : SameBursts rows (bursts_in table) (round_bursts net rows round)

-- the table has the delays of the ports over these bursts
pub record AreDelays (net : Network) (rows : List Row) (bursts : Bursts) (table : List ℕ) : Type 0 where
  pub within : AreWithin table
  pub same : AtPorts net rows (λ arc prio. delays_in table arc prio ≡ delay_over net rows bursts arc prio)

-- a port's delay is in the table, and no number there passes the limit
pub record HasDelay (net : Network) (rows : List Row) (bursts : Bursts) (table : List ℕ) (arc prio : ℕ) : Type 0 where
  pub delay : delays_in table arc prio ≡ delay_over net rows bursts arc prio
  pub small : passes_over net rows bursts arc prio ≡ false

-- so it is for each port before this place, where eight places stand for an arc
abbrev pub HaveDelays : Network → List Row → Bursts → List ℕ → ℕ → Type 0
HaveDelays net rows bursts table place = AtPorts net rows (λ arc prio. arc * 8 + prio < place → HasDelay net rows bursts table arc prio)

-- the tables of the first settled round
pub record AreSettled (net : Network) (rows : List Row) (bursts delays : List ℕ) : Type 0 where
  pub round : ℕ
  pub settles : SettlesAt net rows round
  pub has_bursts : IsRound net rows round bursts
  pub has_delays : AreDelays net rows (bursts_in bursts) delays
  pub small : AtPorts net rows (λ arc prio. passes_over net rows (bursts_in bursts) arc prio ≡ false)

-- the table has these bursts at the places before this one
abbrev pub HasBursts : List Row → List ℕ → Bursts → ℕ → Type 0
HasBursts rows table bursts place =
    AtStreams rows (λ stream r. (hop : ℕ) → hop < length r.arcs → hop < 16 → stream * 16 + hop < place → bursts_in table stream hop ≡ bursts stream hop)
