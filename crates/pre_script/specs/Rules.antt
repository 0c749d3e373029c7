-- The rules of a script, by number, and its limits.
use Rattle.std.specs.Prelude.{ℕ, ◌*◌, ◌^◌, Bool, true, false, min, if◌then◌else◌, Option, Some, None, Result, Err}
use Rattle.std.specs.List.{list_any}
use Rattle.pre_topo.specs.declared.network.Network.{Network}
use Rattle.pre_topo.specs.declared.arcs.Arc.{Arc}
use Rattle.pre_topo.specs.declared.arcs.Mode.{Mode}
use Rattle.pre_topo.specs.declared.arcs.Mode.TheVariants as mode

-- the first word is none of the kinds of line, or the count of words is another
abbrev pub word_rule : ℕ
word_rule = 1

-- a number isn't a plain number, or HEX isn't pairs of digits that spell 1 to 32 octets
abbrev pub number_rule : ℕ
number_rule = 2

-- a stream or arc is unknown
abbrev pub name_rule : ℕ
name_rule = 3

-- the tick is below that of an earlier send or set
abbrev pub order_rule : ℕ
order_rule = 4

-- the size is below 64 or above the row's greatest
abbrev pub size_rule : ℕ
size_rule = 5

-- the value is none of the three, or the arc doesn't negotiate
abbrev pub mode_rule : ℕ
mode_rule = 6

-- no `until` stands in the script
abbrev pub end_rule : ℕ
end_rule = 7

-- the line stands after `until`
abbrev pub after_rule : ℕ
after_rule = 8

-- there are too many lines of this kind
abbrev pub count_rule : ℕ
count_rule = 9

-- the last tick is too late
abbrev pub horizon_rule : ℕ
horizon_rule = 10

-- what goes on with a value, and is refused where there is none
abbrev pub given : {A B : Type 0} → Option A → ℕ → (A → Result B ℕ) → Result B ℕ
given None rule next = Err rule
given (Some x) rule next = next x

-- what goes on where the test passes, and is refused else
abbrev pub kept : {B : Type 0} → Bool → ℕ → Result B ℕ → Result B ℕ
kept true rule next = next
kept false rule next = Err rule

abbrev pub is_negotiate : Mode → Bool
is_negotiate mode.Off = false
is_negotiate mode.On = false
is_negotiate mode.Negotiate = true

abbrev pub negotiates : Arc → Bool
negotiates a = is_negotiate a.mode

abbrev pub max_sends : ℕ
max_sends = 100000

abbrev pub max_sets : ℕ
max_sets = 10000

abbrev pub max_losses : ℕ
max_losses = 10000

abbrev pub max_damages : ℕ
max_damages = 10000

-- the octets of a damage
abbrev pub max_damaged : ℕ
max_damaged = 32

-- the last tick that a script may go to: earlier where links negotiate, since these send a frame each interval
abbrev pub horizon : Network → ℕ
horizon net = if list_any negotiates net.arcs then min (4 * 10 ^ 12) (10000 * net.timing.interval) else 4 * 10 ^ 12
