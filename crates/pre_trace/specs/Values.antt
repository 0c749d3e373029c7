-- What a word of a trace is read as.
use Rattle.std.specs.Prelude.{ℕ, Bool, true, false, ◌==◌, ◌&&◌, ◌||◌, ◌-◌, ◌^◌, List, [], ◌∷◌, length, codes, Option}
use Rattle.std.specs.Prelude.{Some, None, nat_le, nat_lt, position, option_and_then, option_map, if◌then◌else◌}
use Rattle.std.specs.List.{list_all}
use Rattle.std.specs.Char.{is_ascii_digit}
use Rattle.std.specs.Str.{bytes_eq}
use Rattle.pre_text.specs.Lines.{cut_at, is_nonempty}
use Rattle.pre_text.specs.Words.{number_of, pairs_within}
use Rattle.pre_topo.specs.declared.network.Network.{Network}
use Rattle.pre_mpacket.specs.declared.packets.Kind.{Kind}
use Rattle.pre_mpacket.specs.declared.packets.Kind.TheVariants as kind
use Rattle.pre_history.specs.declared.events.What.{What}
use Rattle.pre_history.specs.declared.events.What.TheVariants as what
use Rattle.pre_history.specs.declared.events.Outcome.{Outcome}
use Rattle.pre_history.specs.declared.events.Outcome.TheVariants as outcome

-- words with one space between: none of the parts between spaces is empty
abbrev pub has_single_spaces : List ℕ → Bool
has_single_spaces line = list_all is_nonempty (cut_at 32 line)

-- exactly five words, and exactly six
abbrev pub five : List (List ℕ) → Option (List ℕ × List ℕ × List ℕ × List ℕ × List ℕ)
five (a ∷ b ∷ c ∷ d ∷ e ∷ []) = Some (a, b, c, d, e)
five _ = None

abbrev pub six : List (List ℕ) → Option (List ℕ × List ℕ × List ℕ × List ℕ × List ℕ × List ℕ)
six (a ∷ b ∷ c ∷ d ∷ e ∷ f ∷ []) = Some (a, b, c, d, e, f)
six _ = None

-- the number that a word spells, where it is below the limit
abbrev pub number_below : ℕ → List ℕ → Option ℕ
number_below limit word = option_and_then (λ n. if nat_lt n limit then Some n else None) (number_of word)

abbrev pub yes_of : List ℕ → Option Bool
yes_of word = if bytes_eq word (codes "yes") then Some true else if bytes_eq word (codes "no") then Some false else None

abbrev pub outcome_of : List ℕ → Option Outcome
outcome_of word =
    if bytes_eq word (codes "lost") then Some outcome.Lost
    else if bytes_eq word (codes "frame") then Some outcome.Frame
    else if bytes_eq word (codes "lldp") then Some outcome.Lldp
    else if bytes_eq word (codes "part") then Some outcome.Part
    else if bytes_eq word (codes "verify") then Some outcome.Verify
    else if bytes_eq word (codes "respond") then Some outcome.Respond
    else if bytes_eq word (codes "nothing") then Some outcome.Nothing
    else None

-- a digit from 0 to 3
abbrev pub count_of : ℕ → Option ℕ
count_of c = if nat_le 48 c && nat_le c 51 then Some (c - 48) else None

-- E, V or R; S and the frame count; C, the frame count, a point and the fragment count
abbrev pub kind_of : List ℕ → Option Kind
kind_of (k ∷ []) = if k == 69 then Some kind.Express else if k == 86 then Some kind.Verify else if k == 82 then Some kind.Respond else None
kind_of (k ∷ c ∷ []) = if k == 83 then option_map kind.Start (count_of c) else None
kind_of (k ∷ c ∷ p ∷ f ∷ []) = if (k == 67) && (p == 46) then option_and_then (λ count. option_map (kind.Continue count) (count_of f)) (count_of c) else None
kind_of _ = None

abbrev pub what_of : List ℕ → Option What
what_of word =
    if bytes_eq word (codes "lldp") then Some what.Lldp
    else if bytes_eq word (codes "-") then Some what.Nothing
    else option_map (λ n. what.Frame (record { 0 = n })) (number_below (2 ^ 32) word)

-- the place of the node with this name, where the network has one
abbrev pub node_named : Network → List ℕ → Option ℕ
node_named net word = position (λ n. bytes_eq n.name word) net.nodes

-- a hexadecimal digit, in lower case alone
abbrev pub is_lower_case_digit : ℕ → Bool
is_lower_case_digit c = is_ascii_digit c || (nat_le 97 c && nat_le c 102)

-- the octets that a word of lower-case pairs spells, where there are at most this many
abbrev pub lower_case_pairs : ℕ → List ℕ → Option (List ℕ)
lower_case_pairs room word = if list_all is_lower_case_digit word then pairs_within room word else None

-- four octets
abbrev pub check_of : List ℕ → Option (List ℕ)
check_of word = if length word == 8 then lower_case_pairs 4 word else None
