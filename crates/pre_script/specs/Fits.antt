-- A script that fits a network and streams.
use Rattle.std.specs.Prelude.{ℕ, ◌≡◌, ◌<◌, ◌≤◌, ◌^◌, Some, length, slice_get, All, AllPairs, IsTrue}
use Rattle.pre_text.specs.Reading.{AreOctets}
use Rattle.pre_topo.specs.declared.network.Network.{Network}
use Rattle.pre_streams.specs.declared.rows.Row.{Row}
use Rattle.pre_streams.specs.declared.rows.Streams.{Streams}
use Rattle.pre_script.specs.declared.scripts.Script.{Script}
use Rattle.pre_script.specs.declared.scripts.SendLine.{SendLine}
use Rattle.pre_script.specs.declared.scripts.SetLine.{SetLine}
use Rattle.pre_script.specs.declared.scripts.Loss.{Loss}
use Rattle.pre_script.specs.declared.scripts.Damage.{Damage}
use Rattle.pre_script.specs.Rules.{horizon, max_damaged, max_damages, max_losses, max_sends, max_sets}
use Rattle.pre_script.specs.Saying.{negotiates_at}

-- a number that can be read
abbrev pub IsNumber : ℕ → Type 0
IsNumber n = n < 2 ^ 64

-- the send is of a row, and of a size that the row allows
pub record IsSend (net : Network) (streams : Streams) (s : SendLine) : Type 0 where
  pub row : Row
  pub known : slice_get streams.rows s.send.stream.0 ≡ Some row
  pub least : 64 ≤ s.send.size
  pub most : s.send.size ≤ row.max
  pub tick : IsNumber s.send.tick.0

-- the set is of an arc that negotiates
pub record IsSet (net : Network) (s : SetLine) : Type 0 where
  pub negotiates : IsTrue (negotiates_at net s.arc.0)
  pub tick : IsNumber s.tick.0

-- the loss is of an arc of the network
pub record IsLoss (net : Network) (l : Loss) : Type 0 where
  pub known : l.arc.0 < length net.arcs
  pub ordinal : IsNumber l.ordinal

-- the damage is of an arc of the network, and of 1 to 32 octets
pub record IsDamage (net : Network) (d : Damage) : Type 0 where
  pub known : d.arc.0 < length net.arcs
  pub ordinal : IsNumber d.ordinal
  pub offset : IsNumber d.offset
  pub least : 1 ≤ length d.octets
  pub most : length d.octets ≤ max_damaged
  pub octets : AreOctets d.octets

-- ticks never go back
abbrev pub SendsInOrder : SendLine → SendLine → Type 0
SendsInOrder a b = a.send.tick.0 ≤ b.send.tick.0

abbrev pub SetsInOrder : SetLine → SetLine → Type 0
SetsInOrder a b = a.tick.0 ≤ b.tick.0

-- A script meets the rules of its file for this network and these streams.
pub record Fits (net : Network) (streams : Streams) (script : Script) : Type 0 where
  pub sends : All (IsSend net streams) script.sends
  pub sends_order : AllPairs SendsInOrder script.sends
  pub sends_count : length script.sends ≤ max_sends
  pub sets : All (IsSet net) script.sets
  pub sets_order : AllPairs SetsInOrder script.sets
  pub sets_count : length script.sets ≤ max_sets
  pub losses : All (IsLoss net) script.losses
  pub losses_count : length script.losses ≤ max_losses
  pub damages : All (IsDamage net) script.damages
  pub damages_count : length script.damages ≤ max_damages
  pub until : script.until.0 ≤ horizon net
