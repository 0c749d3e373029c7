-- What a run is given, as it is used to build frames.
use Rattle.std.specs.Prelude.{All}
use Rattle.pre_streams.specs.Fits as rows
use Rattle.pre_script.specs.Fits as lines
use Rattle.pre_history.specs.Scenario.{Scenario}
use Rattle.pre_incoming.specs.declared.frames.Inputs.{Inputs}

abbrev pub scenario_of : Inputs → Scenario
scenario_of inputs = record { net = inputs.net.now; streams = inputs.streams.now; script = inputs.script.now }

-- The streams fit the network, and each send is of a row and of a size that the row allows.
pub record HasFrames (w : Scenario) : Type 0 where
  pub rows_fit : rows.Fits w.net w.streams
  pub sends_fit : All (lines.IsSend w.net w.streams) w.script.sends
