-- What a run is given, and how far its counts go.
use Rattle.std.specs.Prelude.{ℕ, ◌+◌, ◌*◌, ◌≤◌}
use Rattle.pre_topo.specs.declared.network.Network.{Network}
use Rattle.pre_streams.specs.declared.rows.Streams.{Streams}
use Rattle.pre_streams.specs.Fits as rows_rules
use Rattle.pre_script.specs.declared.scripts.Script.{Script}
use Rattle.pre_script.specs.Fits as lines_rules
use Rattle.pre_sim.specs.declared.ticks.Progress.{Progress}

-- The streams fit the network, and the script fits both.
pub record AllFit (net : Network) (streams : Streams) (script : Script) : Type 0 where
  pub streams_fit : rows_rules.Fits net streams
  pub script_fits : lines_rules.Fits net streams script

-- Before the tick no more frames were dropped than were sent or could come out of bridges, one a tick on each of 256 arcs.
pub record IsWithin (tick : ℕ) (p : Progress) : Type 0 where
  pub sent : p.sent ≤ 100000
  pub dropped : p.dropped ≤ p.sent + 256 * tick
