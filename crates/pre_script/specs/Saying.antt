-- What a line of a script says, given what the lines before it said.
use Rattle.std.specs.Prelude.{◌≡◌, ⊤, ℕ, Bool, ◌&&◌, false, List, [], ◌∷◌, length, codes, Option, Some, None, Result, Ok, Err, nat_le, nat_lt, slice_get, if◌then◌else◌}
use Rattle.std.specs.Option.{option_map_or}
use Rattle.std.specs.Str.{bytes_eq}
use Rattle.pre_text.specs.Words.{number_of, pairs_within}
use Rattle.pre_topo.specs.declared.network.Network.{Network}
use Rattle.pre_topo.specs.Named.{arc_named}
use Rattle.pre_streams.specs.declared.rows.Row.{Row}
use Rattle.pre_streams.specs.declared.rows.Streams.{Streams}
use Rattle.pre_streams.specs.Named.{row_named}
use Rattle.pre_script.specs.declared.scripts.Setting.{Setting}
use Rattle.pre_script.specs.declared.scripts.Setting.TheVariants.{On, Off, Gone}
use Rattle.pre_script.specs.declared.saying.Said.{Said}
use Rattle.pre_script.specs.declared.saying.Said.TheVariants as said
use Rattle.pre_script.specs.declared.saying.Refusal.{Refusal}
use Rattle.pre_script.specs.declared.saying.Refusal.TheVariants.{Rule, Memory}
use Rattle.pre_script.specs.Rules.{given, horizon, horizon_rule, kept, max_damaged, max_damages, max_losses, max_sends, max_sets, mode_rule}
use Rattle.pre_script.specs.Rules.{name_rule, negotiates, number_rule, order_rule, size_rule, word_rule, count_rule}
use Rattle.pre_script.specs.Seen.{Seen, comes_last}

abbrev pub one : List (List ℕ) → Option (List ℕ)
one [] = None
one (a ∷ []) = Some a
one (a ∷ b ∷ rest) = None

abbrev pub two : List (List ℕ) → Option (List ℕ × List ℕ)
two (a ∷ b ∷ []) = Some (a, b)
two _ = None

abbrev pub three : List (List ℕ) → Option (List ℕ × List ℕ × List ℕ)
three (a ∷ b ∷ c ∷ []) = Some (a, b, c)
three _ = None

abbrev pub four : List (List ℕ) → Option (List ℕ × List ℕ × List ℕ × List ℕ)
four (a ∷ b ∷ c ∷ d ∷ []) = Some (a, b, c, d)
four _ = None

abbrev pub send_of_size : Seen → Row → ℕ → ℕ → ℕ → ℕ → Result Said ℕ
send_of_size seen row line tick stream size =
    kept (comes_last seen tick) order_rule
    (kept (nat_le 64 size && nat_le size row.max) size_rule
    (kept (nat_lt (length seen.sends) max_sends) count_rule
    (Ok (said.Send (record { send = record { tick = record { 0 = tick }; stream = record { 0 = stream }; size = size }; line = line })))))

abbrev pub send_of : Streams → Seen → ℕ → ℕ → List ℕ → ℕ → Result Said ℕ
send_of streams seen line tick name size =
    given (row_named streams name) name_rule (λ stream.
    given (slice_get streams.rows stream) name_rule (λ row.
    send_of_size seen row line tick stream size))

-- tick, stream and size
abbrev pub send_said : Streams → Seen → ℕ → List (List ℕ) → Result Said ℕ
send_said streams seen line words =
    given (three words) word_rule (λ w.
    given (number_of w.0) number_rule (λ tick.
    given (number_of w.2) number_rule (λ size.
    send_of streams seen line tick w.1 size)))

abbrev pub setting_of : List ℕ → Option Setting
setting_of word = if bytes_eq word (codes "on") then Some On else if bytes_eq word (codes "off") then Some Off else if bytes_eq word (codes "gone") then Some Gone else None

abbrev pub negotiates_at : Network → ℕ → Bool
negotiates_at net arc = option_map_or negotiates (slice_get net.arcs arc) false

-- the value, where the arc can be set to it
abbrev pub setting_at : Network → ℕ → List ℕ → Option Setting
setting_at net arc word = if negotiates_at net arc then setting_of word else None

abbrev pub set_of : Network → Seen → ℕ → ℕ → List ℕ → Result Said ℕ
set_of net seen tick arc word =
    kept (comes_last seen tick) order_rule
    (given (setting_at net arc word) mode_rule (λ value.
    kept (nat_lt (length seen.sets) max_sets) count_rule
    (Ok (said.Set (record { tick = record { 0 = tick }; arc = record { 0 = arc }; value = value })))))

-- tick, arc and value
abbrev pub set_said : Network → Seen → List (List ℕ) → Result Said ℕ
set_said net seen words =
    given (three words) word_rule (λ w.
    given (number_of w.0) number_rule (λ tick.
    given (arc_named net w.1) name_rule (λ arc.
    set_of net seen tick arc w.2)))

-- arc and ordinal
abbrev pub lose_said : Network → Seen → List (List ℕ) → Result Said ℕ
lose_said net seen words =
    given (two words) word_rule (λ w.
    given (number_of w.1) number_rule (λ ordinal.
    given (arc_named net w.0) name_rule (λ arc.
    kept (nat_lt (length seen.losses) max_losses) count_rule
    (Ok (said.Lose (record { arc = record { 0 = arc }; ordinal = ordinal }))))))

abbrev pub damage_of : Network → Seen → List ℕ → ℕ → ℕ → List ℕ → Result Said ℕ
damage_of net seen name ordinal offset octets =
    given (arc_named net name) name_rule (λ arc.
    kept (nat_lt (length seen.damages) max_damages) count_rule
    (Ok (said.Damage (record { arc = record { 0 = arc }; ordinal = ordinal; offset = offset; octets = octets }))))

-- arc, ordinal, offset and octets
abbrev pub damage_said : Network → Seen → List (List ℕ) → Result Said ℕ
damage_said net seen words =
    given (four words) word_rule (λ w.
    given (number_of w.1) number_rule (λ ordinal.
    given (number_of w.2) number_rule (λ offset.
    given (pairs_within max_damaged w.3) number_rule (λ octets.
    damage_of net seen w.0 ordinal offset octets))))

-- the last tick
abbrev pub until_said : Network → List (List ℕ) → Result Said ℕ
until_said net words =
    given (one words) word_rule (λ w.
    given (number_of w) number_rule (λ tick.
    kept (nat_le tick (horizon net)) horizon_rule (Ok (said.Until (record { 0 = tick })))))

-- the first word says what kind of line it is
abbrev pub said_by : Network → Streams → Seen → ℕ → List ℕ → List (List ℕ) → Result Said ℕ
said_by net streams seen line first words =
    if bytes_eq first (codes "send") then send_said streams seen line words
    else if bytes_eq first (codes "set") then set_said net seen words
    else if bytes_eq first (codes "lose") then lose_said net seen words
    else if bytes_eq first (codes "damage") then damage_said net seen words
    else if bytes_eq first (codes "until") then until_said net words
    else Err word_rule

-- want of memory alone may take the place of what is due
abbrev pub SaysAs : Result Said Refusal → Result Said ℕ → Type 0
SaysAs (Ok s) (Ok due) = s ≡ due
SaysAs (Ok s) (Err rule) = ⊥
SaysAs (Err (Rule rule)) (Ok due) = ⊥
SaysAs (Err (Rule rule)) (Err due) = rule ≡ due
SaysAs (Err Memory) due = ⊤
