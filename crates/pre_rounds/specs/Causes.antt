-- Why there are no numbers of a settled round, or why they are none of a certificate.
use Rattle.std.specs.Prelude.{◌≡◌, ℕ, ◌+◌, ◌<◌, ◌≤◌, List, length}
use Rattle.pre_topo.specs.declared.network.Network.{Network}
use Rattle.pre_streams.specs.declared.rows.Row.{Row}
use Rattle.pre_bound.specs.Limits.{limit}
use Rattle.pre_bound.specs.Along.{Delays}
use Rattle.pre_bound.specs.Good.{IsStream, AtStreams}
use Rattle.pre_bound.specs.Passing.{ticks_before}
use Rattle.pre_certify.specs.Loads.{FirstOverload, NoOverload}
use Rattle.pre_rounds.specs.Rounds.{round_bursts, delay_over}
use Rattle.pre_rounds.specs.Passing.{passes_over, some_differs, need_over, is_short}
use Rattle.pre_rounds.specs.Settling.{last_round, GoOnBefore, SettlesAt, IsFirstPort}
use Rattle.pre_rounds.specs.declared.faults.RoundsFault.{RoundsFault}
use Rattle.pre_rounds.specs.declared.faults.RoundsFault.TheVariants.{Overload, Large, Unsettled, Wide, Ring, Memory}

-- in the first round in which a number passes the limit, none being settled before it, the first port at which one does
pub record FirstLarge (net : Network) (rows : List Row) (arc prio : ℕ) : Type 0 where
  pub round : ℕ
  pub within : round ≤ last_round
  pub before : GoOnBefore net rows round
  pub here : IsFirstPort net rows (passes_over net rows (round_bursts net rows round)) arc prio

-- no round is settled, and behind this port first the last one has a burst that the one after it hasn't
pub record FirstUnsettled (net : Network) (rows : List Row) (arc prio : ℕ) : Type 0 where
  pub before : GoOnBefore net rows (last_round + 1)
  pub here : IsFirstPort net rows (some_differs rows (round_bursts net rows last_round) (round_bursts net rows (last_round + 1))) arc prio

-- the delays of a round
abbrev pub round_delays : Network → List Row → ℕ → Delays
round_delays net rows round = delay_over net rows (round_bursts net rows round)

-- the bound of each stream is within the limit
abbrev pub NoneWide : Network → List Row → Delays → Type 0
NoneWide net rows delays = AtStreams rows (λ stream r. ticks_before net delays r (length r.arcs) ≤ limit)

-- the first stream whose bound passes the limit, and the first hop up to which the ticks of its route do
pub record FirstWide (net : Network) (rows : List Row) (delays : Delays) (stream hop : ℕ) : Type 0 where
  pub row : Row
  pub is : IsStream rows stream row
  pub within : hop < length row.arcs
  pub wide : limit < ticks_before net delays row (hop + 1)
  pub first_hop : (earlier : ℕ) → earlier < hop → ticks_before net delays row (earlier + 1) ≤ limit
  pub before : AtStreams rows (λ other r. other < stream → ticks_before net delays r (length r.arcs) ≤ limit)

-- so it is in the first settled round
pub record FirstWideRound (net : Network) (rows : List Row) (stream hop : ℕ) : Type 0 where
  pub round : ℕ
  pub settles : SettlesAt net rows round
  pub here : FirstWide net rows (round_delays net rows round) stream hop

-- where that round has no such stream, the first port whose ring has too little room, and the room that it needs, in frames
pub record FirstShort (net : Network) (rows : List Row) (arc prio need : ℕ) : Type 0 where
  pub round : ℕ
  pub settles : SettlesAt net rows round
  pub narrow : NoneWide net rows (round_delays net rows round)
  pub here : IsFirstPort net rows (is_short net rows (round_bursts net rows round)) arc prio
  pub need_is : need ≡ need_over net rows (round_bursts net rows round) arc prio

-- the cause of each fault
abbrev pub Cause : Network → List Row → RoundsFault → Type 0
Cause net rows (Overload arc) = FirstOverload net rows arc.0
Cause net rows (Large arc prio) = NoOverload net rows × FirstLarge net rows arc.0 prio
Cause net rows (Unsettled arc prio) = NoOverload net rows × FirstUnsettled net rows arc.0 prio
Cause net rows (Wide stream hop) = NoOverload net rows × FirstWideRound net rows stream.0 hop
Cause net rows (Ring arc prio need) = NoOverload net rows × FirstShort net rows arc.0 prio need
Cause net rows Memory = Unit {0}
