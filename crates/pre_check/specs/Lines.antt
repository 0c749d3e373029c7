-- The clauses of a good certificate, line by line of its text.
use Rattle.std.specs.Prelude.{◌≡◌, ℕ, ◌+◌, ◌<◌, List, length, slice_get, Some, IsTrue}
use Rattle.pre_topo.specs.declared.network.Network.{Network}
use Rattle.pre_streams.specs.declared.rows.Row.{Row}
use Rattle.pre_bound.specs.declared.certificate.Certificate.{Certificate}
use Rattle.pre_bound.specs.Uses.{TakesAt}
use Rattle.pre_bound.specs.Values.{Values}
use Rattle.pre_bound.specs.Clauses.{RankOrder, Load, FirstBurst, Block, Work, Delay, Growth, Size, Ring, Bound, Largest}
use Rattle.pre_bound.specs.Places.{arcs_of, ports_of, streams_of, hops_of}
use Rattle.pre_bound.specs.Listed.{Says}
use Rattle.std.specs.Prelude.{◌/◌, ◌%◌}

pub data Clause : Type 0 where
  rank_order : Clause
  load : Clause
  first_burst : Clause
  block : Clause
  work : Clause
  delay : Clause
  growth : Clause
  size : Clause
  ring : Clause
  bound : Clause
  largest : Clause

-- the clauses in their order
abbrev pub number_of : Clause → ℕ
number_of rank_order = 1
number_of load = 2
number_of first_burst = 3
number_of block = 4
number_of work = 5
number_of delay = 6
number_of growth = 7
number_of size = 8
number_of ring = 9
number_of bound = 10
number_of largest = 11

-- The lines of the text, counted from 1: behind the first one stand those of the arcs, then of the ports, of the hops and of
-- the bounds.
abbrev pub arcs_from : ℕ
arcs_from = 2

abbrev pub ports_from : Network → List Row → ℕ
ports_from net rows = arcs_from + length (arcs_of net rows)

abbrev pub hops_from : Network → List Row → ℕ
hops_from net rows = ports_from net rows + length (ports_of net rows)

abbrev pub bounds_from : Network → List Row → ℕ
bounds_from net rows = hops_from net rows + length (hops_of rows)

-- of items whose lines begin here, the one at the line, where it is the line of one
abbrev pub AtLine : {X : Type 0} → ℕ → List X → ℕ → (X → Type 0) → Type 0
AtLine {X} from items line P = (place : ℕ) (x : X) → slice_get items place ≡ Some x → from + place ≡ line → P x

-- rank order, at the later of two hops
abbrev pub RankOrderAt : List Row → Values → ℕ × ℕ → Type 0
RankOrderAt rows v e =
    IsTrue v.ranked → (r : Row) (hop arc next : ℕ) → slice_get rows e.0 ≡ Some r → hop + 1 ≡ e.1 → TakesAt r hop arc → TakesAt r e.1 next → RankOrder v arc next

-- first burst, at hop 0
abbrev pub FirstBurstAt : List Row → Values → ℕ × ℕ → Type 0
FirstBurstAt rows v e = e.1 ≡ 0 → (r : Row) → slice_get rows e.0 ≡ Some r → FirstBurst v e.0 r

-- growth, at the next hop
abbrev pub GrowthAt : Network → List Row → Values → ℕ × ℕ → Type 0
GrowthAt net rows v e =
    (r : Row) (hop arc next : ℕ) → slice_get rows e.0 ≡ Some r → hop + 1 ≡ e.1 → TakesAt r hop arc → TakesAt r e.1 next → Growth net v e.0 r hop arc

-- The clause holds at the line: at a line that isn't a row of the clause, it does.
abbrev pub HoldsAt : Network → List Row → Values → Clause → ℕ → Type 0
HoldsAt net rows v rank_order line = AtLine (hops_from net rows) (hops_of rows) line (RankOrderAt rows v)
HoldsAt net rows v load line = AtLine arcs_from (arcs_of net rows) line (Load net rows)
HoldsAt net rows v first_burst line = AtLine (hops_from net rows) (hops_of rows) line (FirstBurstAt rows v)
HoldsAt net rows v block line = AtLine (ports_from net rows) (ports_of net rows) line (λ k. Block net rows v (k / 8) (k % 8))
HoldsAt net rows v work line = AtLine (ports_from net rows) (ports_of net rows) line (λ k. Work net rows v (k / 8) (k % 8))
HoldsAt net rows v delay line = AtLine (ports_from net rows) (ports_of net rows) line (λ k. Delay net v (k / 8) (k % 8))
HoldsAt net rows v growth line = AtLine (hops_from net rows) (hops_of rows) line (GrowthAt net rows v)
HoldsAt net rows v size line = AtLine (ports_from net rows) (ports_of net rows) line (λ k. Size rows v (k / 8) (k % 8))
HoldsAt net rows v ring line = AtLine (ports_from net rows) (ports_of net rows) line (λ k. Ring net v (k / 8) (k % 8))
HoldsAt net rows v bound line = AtLine (bounds_from net rows) (streams_of rows) line (λ e. Bound net v e.0 e.1)
HoldsAt net rows v largest line = AtLine arcs_from (arcs_of net rows) line (Largest net rows v)

-- the first clause that fails, and its first line
pub record IsFirstBreach (net : Network) (rows : List Row) (v : Values) (number line : ℕ) : Type 0 where
  pub broken : Clause
  pub number_is : number_of broken ≡ number
  pub breaks : ¬ HoldsAt net rows v broken line
  pub lines_before : (other : ℕ) → other < line → HoldsAt net rows v broken other
  pub clauses_before : (other : Clause) → number_of other < number → (any : ℕ) → HoldsAt net rows v other any

-- the certificate has the rows that are due for this network and these streams, and its arcs have ranks or none has one
abbrev pub HasRows : Network → List Row → Certificate → Type 0
HasRows net rows c = (v : Values) × Says net rows c v

-- so, whichever numbers it says
abbrev pub Breaks : Network → List Row → Certificate → ℕ → ℕ → Type 0
Breaks net rows c number line = (v : Values) → Says net rows c v → IsFirstBreach net rows v number line
