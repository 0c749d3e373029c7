-- How far an arc is in a tick: which of its parts of the tick are over.
use Rattle.std.specs.Prelude.{ℕ, ◌+◌, ◌*◌, ◌==◌, nat_le, Bool, true, false, if◌then◌else◌}
use Rattle.pre_script.specs.declared.scripts.Setting.{Setting}
use Rattle.pre_history.specs.Scenario.{Scenario}
use Rattle.pre_history.specs.History.{History}
use Rattle.pre_history.specs.LinkState.{SettingBefore}
use Rattle.pre_history.specs.Queries.{SettingOf}

-- Nothing of the tick has happened; what the script sets at it is set; the arc's expiries are over; and all frames have come to rings.
pub data Stage : Type 0 where
  untouched set_up settled entered : (tick : ℕ) → Stage

-- The stage of an arc at a place of a tick: after its start it is at the next tick.
abbrev pub stage_at : (arcs tick k a : ℕ) → Stage
stage_at arcs tick k a =
    if k == 0 then untouched tick
    else if nat_le k (1 + 2 * arcs + a) then set_up tick
    else if nat_le k (1 + 3 * arcs) then settled tick
    else if nat_le k (2 + 3 * arcs + a) then entered tick
    else untouched (tick + 1)

-- what the script says of an arc at a stage
abbrev pub setting_at : Scenario → History → ℕ → Stage → Setting
setting_at w h a (untouched t) = SettingBefore w h a t
setting_at w h a (set_up t) = SettingOf w a t
setting_at w h a (settled t) = SettingOf w a t
setting_at w h a (entered t) = SettingOf w a t

-- the tick at whose entries what is inside bridges comes out next
abbrev pub turn_at : Stage → ℕ
turn_at (untouched t) = t
turn_at (set_up t) = t
turn_at (settled t) = t
turn_at (entered t) = t + 1

-- Before the entries of the tick nothing has come to a ring at it, and what waits at it is what waited before.
abbrev pub is_calm : Stage → Bool
is_calm (untouched t) = true
is_calm (set_up t) = true
is_calm (settled t) = true
is_calm (entered t) = false

abbrev pub tick_at : Stage → ℕ
tick_at (untouched t) = t
tick_at (set_up t) = t
tick_at (settled t) = t
tick_at (entered t) = t

-- the first tick of which the state of the arc's link isn't settled
abbrev pub link_turn : Stage → ℕ
link_turn (untouched t) = t
link_turn (set_up t) = t
link_turn (settled t) = t + 1
link_turn (entered t) = t + 1
