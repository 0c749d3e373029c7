-- Which streams use an arc, with which priorities, and what the arc costs them.
use Rattle.std.specs.Prelude.{◌≡◌, ℕ, ◌+◌, ◌*◌, ◌==◌, nat_lt, nat_le, ◌&&◌, Bool, true, false, not, List, Some, slice_get}
use Rattle.std.specs.Prelude.{slice_index, sum_by, filter, is_some, if◌then◌else◌, max, min, fold, Contains, IsSome}
use Rattle.std.specs.Option.{option_map, option_map_or}
use Rattle.std.specs.List.{list_any, position_or_len}
use Rattle.pre_base.specs.declared.limits.TheConstants.{OVERHEAD}
use Rattle.pre_topo.specs.declared.network.Network.{Network}
use Rattle.pre_topo.specs.declared.arcs.Arc.{Arc}
use Rattle.pre_topo.specs.declared.arcs.Mode.{Mode}
use Rattle.pre_topo.specs.declared.arcs.Mode.TheVariants.{Off, On, Negotiate}
use Rattle.pre_topo.specs.declared.arcs.Policy.{Policy}
use Rattle.pre_topo.specs.declared.arcs.Policy.TheVariants.{Pass, Quiet}
use Rattle.pre_streams.specs.declared.rows.Row.{Row}

-- a row with a curve is an express stream
abbrev pub is_stream : Row → Bool
is_stream r = is_some r.curve

-- the rate of a stream, and 0 of a flow
abbrev pub rate_of : Row → ℕ
rate_of r = option_map_or (λ c. c.rate) r.curve 0

-- the declared burst of a stream, and 0 of a flow
abbrev pub burst_of : Row → ℕ
burst_of r = option_map_or (λ c. c.burst) r.curve 0

-- the route's hop takes this arc
abbrev pub TakesAt : Row → ℕ → ℕ → Type 0
TakesAt r hop arc = option_map (λ a. a.0) (slice_get r.arcs hop) ≡ Some arc

-- the hop at which the route takes the arc, and the number of its hops where it doesn't
abbrev pub hop_of : ℕ → Row → ℕ
hop_of arc r = position_or_len (λ a. a.0 == arc) r.arcs

abbrev pub takes : ℕ → Row → Bool
takes arc r = list_any (λ a. a.0 == arc) r.arcs

-- the row is a stream on the arc, with a priority from the low one up to below the high one
abbrev pub is_on : ℕ → ℕ → ℕ → Row → Bool
is_on arc low high r = is_stream r && (nat_le low r.prio && (nat_lt r.prio high && takes arc r))

-- a stream of this priority uses the arc, so the two are a port of the certificate
abbrev pub has_port : List Row → ℕ → ℕ → Bool
has_port rows arc prio = list_any (is_on arc prio (prio + 1)) rows

-- a stream uses the arc
abbrev pub has_arc : List Row → ℕ → Bool
has_arc rows arc = list_any (is_on arc 0 8) rows

-- the sum of the rates of the streams on the arc with priorities from low up to below high
abbrev pub rates_on : ℕ → ℕ → ℕ → List Row → ℕ
rates_on arc low high rows = sum_by rate_of (filter (is_on arc low high) rows)

-- the ticks that an octet takes on the arc
abbrev pub cost_at : Network → ℕ → ℕ
cost_at net arc = option_map_or (λ a. a.cost) (slice_get net.arcs arc) 0

-- the capacity of the arc's ring of a priority, in frames
abbrev pub ring_at : Network → ℕ → ℕ → ℕ
ring_at net arc prio = option_map_or (λ a. slice_index a.rings prio) (slice_get net.arcs arc) 0

-- preemptable frames are cut on the arc, or wait
abbrev pub cuts : Mode → Policy → Bool
cuts On policy = true
cuts Off policy = false
cuts Negotiate Quiet = true
cuts Negotiate Pass = false

-- a fragment that can't be cut yet, with the octets that can't be cut off and a continuation's overhead
abbrev pub fragment_octets : Arc → ℕ
fragment_octets a = 64 * (1 + a.add_frag) + 79

-- The octets for which preemptable frames of up to so many octets can hold the arc: a whole one with its preamble and gap,
-- and where they are cut no more than a fragment that can't be. Where there are no frames it is none.
abbrev pub preemptable_octets : Arc → ℕ → ℕ
preemptable_octets a largest =
    if largest == 0 then 0 else if cuts a.mode a.policy then min (largest + OVERHEAD) (fragment_octets a) else largest + OVERHEAD

-- the same on the arc of this number
abbrev pub preemptable_at : Network → ℕ → ℕ → ℕ
preemptable_at net arc largest = option_map_or (λ a. preemptable_octets a largest) (slice_get net.arcs arc) 0

-- a flow's route takes the arc
abbrev pub has_flow : List Row → ℕ → Bool
has_flow rows arc = list_any (λ r. not (is_stream r) && takes arc r) rows

-- the greatest preemptable frame that the arc of this number carries
abbrev pub largest_at : Network → ℕ → ℕ
largest_at net arc = option_map_or (λ a. a.largest) (slice_get net.arcs arc) 0

-- and where no flow uses it, none
abbrev pub largest_used : Network → List Row → ℕ → ℕ
largest_used net rows arc = if has_flow rows arc then largest_at net arc else 0

-- The octets of the longest one thing that can hold the arc before a priority: a least frame, what preemptable traffic can,
-- or a greatest frame of a stream with a lower priority.
abbrev pub block_octets : Network → List Row → ℕ → ℕ → ℕ
block_octets net rows arc prio = fold (λ most r. max most (r.max + OVERHEAD)) (max 84 (preemptable_at net arc (largest_used net rows arc))) (filter (is_on arc 0 prio) rows)

-- a stream's route takes the one arc and then the other
pub record Follows (rows : List Row) (arc next : ℕ) : Type 0 where
  pub stream : Row
  pub listed : Contains rows stream
  pub express : IsSome stream.curve
  pub hop : ℕ
  pub here : TakesAt stream hop arc
  pub behind : TakesAt stream (hop + 1) next
