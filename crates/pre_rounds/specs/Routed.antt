-- What the rounds use of streams that fit a network.
use Rattle.std.specs.Prelude.{◌≡◌, ℕ, ◌<◌, ◌≤◌, List, length, Contains}
use Rattle.pre_topo.specs.declared.network.Network.{Network}
use Rattle.pre_streams.specs.declared.rows.Row.{Row}
use Rattle.pre_bound.specs.Uses.{TakesAt, hop_of}

-- each route has at most sixteen hops
abbrev pub AreShort : List Row → Type 0
AreShort rows = (r : Row) → Contains rows r → length r.arcs ≤ 16

-- few rows, each by few arcs of the network, none of which it takes twice
pub record AreRouted (net : Network) (rows : List Row) : Type 0 where
  pub few : length rows ≤ 512
  pub short : AreShort rows
  pub prio : (r : Row) → Contains rows r → r.prio < 8
  pub within : (r : Row) → Contains rows r → (hop arc : ℕ) → TakesAt r hop arc → arc < length net.arcs
  pub once : (r : Row) → Contains rows r → (hop arc : ℕ) → TakesAt r hop arc → hop_of arc r ≡ hop
