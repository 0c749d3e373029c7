-- Which numbers at a port pass the limit, and which bursts behind it are others in the next round.
use Rattle.std.specs.Prelude.{ℕ, ◌+◌, ◌/◌, ◌==◌, nat_lt, ◌&&◌, ◌||◌, not, Bool, List, [], ◌∷◌, length}
use Rattle.std.specs.List.{list_any, enumerate_from}
use Rattle.pre_topo.specs.declared.network.Network.{Network}
use Rattle.pre_streams.specs.declared.rows.Row.{Row}
use Rattle.pre_bound.specs.Limits.{limit}
use Rattle.pre_bound.specs.Solutions.{least_growth}
use Rattle.pre_bound.specs.Uses.{rate_of, hop_of, is_on, cost_at, ring_at}
use Rattle.pre_bound.specs.Along.{least_block}
use Rattle.pre_rounds.specs.Rounds.{Bursts, work_over, delay_over, size_over}

-- the least block, work, delay or size of the port passes the limit
abbrev pub numbers_pass : Network → List Row → Bursts → ℕ → ℕ → Bool
numbers_pass net rows bursts arc prio =
    list_any (nat_lt limit) (least_block net rows arc prio ∷ work_over net rows bursts arc prio ∷ delay_over net rows bursts arc prio ∷ size_over net rows bursts arc prio ∷ [])

-- the row is a stream of the port and has a hop behind it
abbrev pub goes_on : ℕ → ℕ → Row → Bool
goes_on arc prio r = is_on arc prio (prio + 1) r && nat_lt (hop_of arc r + 1) (length r.arcs)

-- with this delay at the port, the burst with which the row leaves it for its next hop passes the limit
abbrev pub leaving_passes : Network → Bursts → ℕ → ℕ → ℕ → ℕ × Row → Bool
leaving_passes net bursts arc prio delay e =
    goes_on arc prio e.1 && nat_lt limit (least_growth (bursts e.0 (hop_of arc e.1)) (rate_of e.1) delay (cost_at net arc))

-- a number of the port, or a burst that leaves it, passes the limit
abbrev pub passes_over : Network → List Row → Bursts → ℕ → ℕ → Bool
passes_over net rows bursts arc prio =
    numbers_pass net rows bursts arc prio || list_any (leaving_passes net bursts arc prio (delay_over net rows bursts arc prio)) (enumerate_from 0 rows)

-- at the hop behind the port the row has another burst
abbrev pub differs_behind : Bursts → Bursts → ℕ → ℕ → ℕ × Row → Bool
differs_behind bursts other arc prio e =
    goes_on arc prio e.1 && not (bursts e.0 (hop_of arc e.1 + 1) == other e.0 (hop_of arc e.1 + 1))

abbrev pub some_differs : List Row → Bursts → Bursts → ℕ → ℕ → Bool
some_differs rows bursts other arc prio = list_any (differs_behind bursts other arc prio) (enumerate_from 0 rows)

-- the frames that the ring of the port needs room for, and whether it has less
abbrev pub need_over : Network → List Row → Bursts → ℕ → ℕ → ℕ
need_over net rows bursts arc prio = size_over net rows bursts arc prio / 84

abbrev pub is_short : Network → List Row → Bursts → ℕ → ℕ → Bool
is_short net rows bursts arc prio = nat_lt (ring_at net arc prio) (need_over net rows bursts arc prio)
