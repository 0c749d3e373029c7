-- What the lines of a script have said so far.
use Rattle.std.specs.Prelude.{ℕ, Bool, ◌&&◌, List, [], ◌∷◌, ◌++◌, Option, Some, None, nat_le}
use Rattle.std.specs.List.{list_all}
use Rattle.pre_base.specs.declared.numbers.Tick.{Tick}
use Rattle.pre_script.specs.declared.scripts.SendLine.{SendLine}
use Rattle.pre_script.specs.declared.scripts.SetLine.{SetLine}
use Rattle.pre_script.specs.declared.scripts.Loss.{Loss}
use Rattle.pre_script.specs.declared.scripts.Damage.{Damage}
use Rattle.pre_script.specs.declared.saying.Said.{Said}
use Rattle.pre_script.specs.declared.saying.Said.TheVariants as said

pub record Seen : Type 0 where
  pub sends : List SendLine
  pub sets : List SetLine
  pub losses : List Loss
  pub damages : List Damage
  pub until : Option Tick

abbrev pub nothing_seen : Seen
nothing_seen = record { sends = []; sets = []; losses = []; damages = []; until = None }

-- one more line
abbrev pub with_said : Seen → Said → Seen
with_said seen (said.Send line) = record seen { sends = seen.sends ++ line ∷ [] }
with_said seen (said.Set line) = record seen { sets = seen.sets ++ line ∷ [] }
with_said seen (said.Lose line) = record seen { losses = seen.losses ++ line ∷ [] }
with_said seen (said.Damage line) = record seen { damages = seen.damages ++ line ∷ [] }
with_said seen (said.Until tick) = record seen { until = Some tick }

abbrev pub are_before : List SendLine → List SetLine → ℕ → Bool
are_before sends sets tick = list_all (λ s. nat_le s.send.tick.0 tick) sends && list_all (λ s. nat_le s.tick.0 tick) sets

-- no send or set so far is later
abbrev pub comes_last : Seen → ℕ → Bool
comes_last seen tick = are_before seen.sends seen.sets tick
