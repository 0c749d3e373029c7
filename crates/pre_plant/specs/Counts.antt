-- How much a plant has of everything.
use Rattle.std.specs.Prelude.{◌≡◌, ◌<◌, ◌≤◌, nat_lt, not, length, count_by, is_some, is_none, All}
use Rattle.pre_topo.specs.declared.network.Network.{Network}
use Rattle.pre_topo.specs.Memory.{slots, wires}
use Rattle.pre_streams.specs.declared.rows.Streams.{Streams}
use Rattle.pre_script.specs.declared.scripts.Script.{Script}

pub record HasCounts (net : Network) (streams : Streams) (script : Script) : Type 0 where
  pub nodes : length net.nodes ≡ 52
  pub arcs : length net.arcs ≡ 102
  pub slots : slots net ≡ 49_328
  pub wires : wires net ≡ 205_326
  pub express : count_by (λ r. is_some r.curve) streams.rows ≡ 60
  pub flows : count_by (λ r. is_none r.curve) streams.rows ≡ 30
  -- a stream is a row below 60
  pub stream_sends : count_by (λ s. nat_lt s.send.stream.0 60) script.sends ≤ 1320
  pub flow_sends : count_by (λ s. not (nat_lt s.send.stream.0 60)) script.sends ≡ 11_250
  pub losses : length script.losses ≡ 20
  pub damages : length script.damages ≡ 20
  -- each send comes before the last tick
  pub ends : All (λ s. s.send.tick.0 < script.until.0) script.sends
