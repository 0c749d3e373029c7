-- The text of a script: sends and sets by their ticks, and behind them losses, damages and the end.
use Rattle.std.specs.Prelude.{ℕ, List, [], ◌∷◌, ◌++◌, codes, nat_lt, slice_get, if◌then◌else◌}
use Rattle.std.specs.Fmt.{decimal}
use Rattle.std.specs.List.{flat_map}
use Rattle.std.specs.Option.{option_map_or}
use Rattle.pre_base.specs.declared.numbers.Tick.{Tick}
use Rattle.pre_text.specs.Writing.{hex, line_of}
use Rattle.pre_topo.specs.declared.network.Network.{Network}
use Rattle.pre_topo.specs.Named.{arc_name}
use Rattle.pre_streams.specs.declared.rows.Streams.{Streams}
use Rattle.pre_script.specs.declared.scripts.Script.{Script}
use Rattle.pre_script.specs.declared.scripts.SendLine.{SendLine}
use Rattle.pre_script.specs.declared.scripts.SetLine.{SetLine}
use Rattle.pre_script.specs.declared.scripts.Setting.{Setting}
use Rattle.pre_script.specs.declared.scripts.Setting.TheVariants.{On, Off, Gone}
use Rattle.pre_script.specs.declared.scripts.Loss.{Loss}
use Rattle.pre_script.specs.declared.scripts.Damage.{Damage}

-- the name of a row, and nothing where there is no such row
abbrev pub row_name : Streams → ℕ → List ℕ
row_name streams stream = option_map_or (λ r. r.name) (slice_get streams.rows stream) []

abbrev pub setting_word : Setting → List ℕ
setting_word On = codes "on"
setting_word Off = codes "off"
setting_word Gone = codes "gone"

abbrev pub send_line : Streams → SendLine → List ℕ
send_line streams s = line_of (codes "send") (decimal s.send.tick.0 ∷ row_name streams s.send.stream.0 ∷ decimal s.send.size ∷ [])

abbrev pub set_line : Network → SetLine → List ℕ
set_line net s = line_of (codes "set") (decimal s.tick.0 ∷ arc_name net s.arc.0 ∷ setting_word s.value ∷ [])

abbrev pub loss_line : Network → Loss → List ℕ
loss_line net l = line_of (codes "lose") (arc_name net l.arc.0 ∷ decimal l.ordinal ∷ [])

abbrev pub damage_line : Network → Damage → List ℕ
damage_line net d = line_of (codes "damage") (arc_name net d.arc.0 ∷ decimal d.ordinal ∷ decimal d.offset ∷ hex d.octets ∷ [])

abbrev pub until_line : Tick → List ℕ
until_line t = line_of (codes "until") (decimal t.0 ∷ [])

abbrev pub set_lines : Network → List SetLine → List ℕ
set_lines net sets = flat_map (set_line net) sets

abbrev pub loss_lines : Network → List Loss → List ℕ
loss_lines net losses = flat_map (loss_line net) losses

abbrev pub damage_lines : Network → List Damage → List ℕ
damage_lines net damages = flat_map (damage_line net) damages

-- the first sets, as far as they are before a tick
abbrev pub sets_before : ℕ → List SetLine → List SetLine
sets_before tick [] = []
sets_before tick (s ∷ sets) = if nat_lt s.tick.0 tick then s ∷ sets_before tick sets else []

-- the others
abbrev pub sets_since : ℕ → List SetLine → List SetLine
sets_since tick [] = []
sets_since tick (s ∷ sets) = if nat_lt s.tick.0 tick then sets_since tick sets else s ∷ sets

-- before each send the sets that are before its tick, and the other sets last
abbrev pub timed_lines : Network → Streams → List SendLine → List SetLine → List ℕ
timed_lines net streams [] sets = set_lines net sets
timed_lines net streams (s ∷ sends) sets =
    set_lines net (sets_before s.send.tick.0 sets) ++ (send_line streams s ++ timed_lines net streams sends (sets_since s.send.tick.0 sets))

-- the whole text
abbrev pub script_text : Network → Streams → Script → List ℕ
script_text net streams s =
    timed_lines net streams s.sends s.sets ++ (loss_lines net s.losses ++ (damage_lines net s.damages ++ until_line s.until))
