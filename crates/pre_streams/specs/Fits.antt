-- Streams that fit a network.
use Rattle.std.specs.Prelude.{◌≡◌, ◌≢◌, ◌≤◌, All, AllPairs, IsNone, count_by, is_some, is_none}
use Rattle.pre_topo.specs.declared.network.Network.{Network}
use Rattle.pre_streams.specs.declared.rows.Row.{Row}
use Rattle.pre_streams.specs.declared.rows.Streams.{Streams}
use Rattle.pre_streams.specs.Rows.{IsRow}

-- the rows take one route where they have one VID
abbrev pub SharesRoute : Row → Row → Type 0
SharesRoute q r = q.vid ≡ r.vid → (q.route ≡ r.route) × (q.arcs ≡ r.arcs)

-- the rules of streams for a network: names differ, streams stand before flows, and there are at most 256 of each
pub record Fits (net : Network) (streams : Streams) : Type 0 where
  pub each : All (IsRow net) streams.rows
  pub names : AllPairs (λ q r. q.name ≢ r.name) streams.rows
  pub routes : AllPairs SharesRoute streams.rows
  pub streams_first : AllPairs (λ q r. IsNone q.curve → IsNone r.curve) streams.rows
  pub streams_count : count_by (λ r. is_some r.curve) streams.rows ≤ 256
  pub flows_count : count_by (λ r. is_none r.curve) streams.rows ≤ 256
