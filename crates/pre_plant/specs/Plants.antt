-- The plant of a number.
use Rattle.std.specs.Prelude.{◌≡◌, ℕ, map}
use Rattle.pre_topo.specs.declared.network.Network.{Network}
use Rattle.pre_topo.specs.NetworkOf.{parts_of}
use Rattle.pre_streams.specs.declared.rows.Streams.{Streams}
use Rattle.pre_streams.specs.Made.{row_parts}
use Rattle.pre_script.specs.declared.scripts.Script.{Script}
use Rattle.pre_plant.specs.Draws.{draws_of}
use Rattle.pre_plant.specs.Networks.{IsPlantNetwork}
use Rattle.pre_plant.specs.Rows.{plant_rows}
use Rattle.pre_plant.specs.Scripts.{IsPlantScript}

pub record IsPlant (n : ℕ) (net : Network) (streams : Streams) (script : Script) : Type 0 where
  pub network : IsPlantNetwork net
  pub rows : map row_parts streams.rows ≡ plant_rows (draws_of n)
  pub lines : IsPlantScript (draws_of n) script

-- Two plants are one: their networks have the same parts, their streams say the same, and their scripts are equal.
pub record AreSame (net other : Network) (streams others : Streams) (script another : Script) : Type 0 where
  pub parts : parts_of net ≡ parts_of other
  pub rows : map row_parts streams.rows ≡ map row_parts others.rows
  pub scripts : script ≡ another
