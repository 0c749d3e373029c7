-- For which adverts heard so far a neighbour stands.
use Rattle.std.specs.Prelude.{◌≡◌, ℕ, false, Bool, List, Option, Some, None, option_map}
use Rattle.pre_lldp.specs.declared.neighbours.Neighbour.{Neighbour}
use Rattle.pre_lldp.specs.Ages.{Heard, last_heard, expiry}

abbrev pub says_enabled : Option Heard → Bool
says_enabled None = false
says_enabled (Some heard) = heard.says.enabled

pub record Stands (neighbour : Neighbour) (unit : ℕ) (calls : List Heard) : Type 0 where
  pub unit_is : neighbour.unit ≡ unit
  pub expires : option_map (λ tick. tick.0) neighbour.expiry ≡ expiry unit (last_heard calls)
  pub enabled : neighbour.enabled ≡ says_enabled (last_heard calls)
