-- What the lines of a script do to one mPacket of an arc.
use Rattle.std.specs.Prelude.{ℕ, ◌+◌, ◌==◌, ◌&&◌, Bool, List, filter, fold}
use Rattle.std.specs.List.{list_any}
use Rattle.pre_script.specs.declared.scripts.Script.{Script}
use Rattle.pre_script.specs.declared.scripts.Damage.{Damage}
use Rattle.pre_history.specs.Octets.{xored}

-- octets with each of these lines applied that damages the mPacket
unfoldable pub damaged_by : (a ordinal smd : ℕ) → List Damage → List ℕ → List ℕ
damaged_by a ordinal smd lines octets = fold (λ xs d. xored (smd + d.offset) d.octets xs) octets (filter (λ d. (d.arc.0 == a) && (d.ordinal == ordinal)) lines)

module _ (script : Script) (a ordinal : ℕ) where
  -- whether a line loses it
  abbrev pub loses : Bool
  loses = list_any (λ l. (l.arc.0 == a) && (l.ordinal == ordinal)) script.losses

  -- its octets, whose start mPacket delimiter stands at this place, with every line that damages it applied
  abbrev pub damaged : (smd : ℕ) → List ℕ → List ℕ
  damaged smd octets = damaged_by a ordinal smd script.damages octets
