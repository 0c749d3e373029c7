-- What a line of a certificate says, by the version read and the line that is due.
use Rattle.std.specs.Prelude.{ℕ, Bool, ◌==◌, ◌&&◌, true, false, List, [], ◌∷◌, codes, Option, Some, None, Result, Ok, Err, nat_le, if◌then◌else◌, unwrap_or}
use Rattle.std.specs.Str.{bytes_eq}
use Rattle.pre_text.specs.Words.{number_of}
use Rattle.pre_topo.specs.declared.network.Network.{Network}
use Rattle.pre_streams.specs.declared.rows.Row.{Row}
use Rattle.pre_streams.specs.declared.rows.Streams.{Streams}
use Rattle.pre_bound.specs.Limits.{limit}
use Rattle.pre_bound.specs.Uses.{has_flow}
use Rattle.pre_check.specs.declared.due.Due.{Due}
use Rattle.pre_check.specs.declared.saying.Said.{Said}
use Rattle.pre_check.specs.declared.saying.Said.TheVariants as said
use Rattle.pre_check.specs.Due.{is_first, is_end, arc_due, port_due, hop_due, bound_due}

-- the first word is none of the kinds of line, or the count of words isn't that of its line in the version read, or the
-- version is none of 1, 2 and 3
abbrev pub word_rule : ℕ
word_rule = 1

-- a number isn't a plain number
abbrev pub number_rule : ℕ
number_rule = 2

-- the line isn't the one that is due
abbrev pub row_rule : ℕ
row_rule = 3

-- no `end` stands in the text
abbrev pub end_rule : ℕ
end_rule = 4

-- the line stands after `end`
abbrev pub after_rule : ℕ
after_rule = 5

-- a number passes the limit
abbrev pub large_rule : ℕ
large_rule = 6

-- what goes on with a value, and is refused where there is none
abbrev pub given : {A B : Type 0} → Option A → ℕ → (A → Result B ℕ) → Result B ℕ
given None rule next = Err rule
given (Some x) rule next = next x

-- what goes on where the test passes, and is refused else
abbrev pub kept : {B : Type 0} → Bool → ℕ → Result B ℕ → Result B ℕ
kept true rule next = next
kept false rule next = Err rule

abbrev pub no_words : List (List ℕ) → Bool
no_words [] = true
no_words (a ∷ rest) = false

abbrev pub one : List (List ℕ) → Option (List ℕ)
one [] = None
one (a ∷ []) = Some a
one (a ∷ b ∷ rest) = None

abbrev pub two : List (List ℕ) → Option (List ℕ × List ℕ)
two (a ∷ b ∷ []) = Some (a, b)
two _ = None

abbrev pub three : List (List ℕ) → Option (List ℕ × List ℕ × List ℕ)
three (a ∷ b ∷ c ∷ []) = Some (a, b, c)
three _ = None

-- a name, and the words behind it
abbrev pub split : List (List ℕ) → Option (List ℕ × List (List ℕ))
split [] = None
split (a ∷ rest) = Some (a, rest)

abbrev pub six : List (List ℕ) → Option (List ℕ × List ℕ × List ℕ × List ℕ × List ℕ × List ℕ)
six (a ∷ b ∷ c ∷ d ∷ e ∷ f ∷ []) = Some (a, b, c, d, e, f)
six _ = None

abbrev pub version_of : List ℕ → Option ℕ
version_of word = if bytes_eq word (codes "1") then Some 1 else if bytes_eq word (codes "2") then Some 2 else if bytes_eq word (codes "3") then Some 3 else None

abbrev pub first_said : Due → List (List ℕ) → Result Said ℕ
first_said due words =
    given (one words) word_rule (λ w.
    given (version_of w) word_rule (λ version.
    kept (is_first due) row_rule (Ok (said.First version))))

abbrev pub is_small : ℕ → Bool
is_small n = nat_le n limit

-- an arc's row, with its name, its rank and the greatest preemptable frame
abbrev pub arc_of : Network → Due → List ℕ → Option ℕ → ℕ → Result Said ℕ
arc_of net due name rank largest =
    given (arc_due net due name) row_rule (λ arc.
    kept (is_small (unwrap_or rank 0) && is_small largest) large_rule
    (Ok (said.Arc (record { arc = record { 0 = arc }; rank = rank; largest = largest }))))

-- in version 1 the greatest preemptable frame isn't said: it is 1522 where a flow uses the arc, and 0 elsewhere
abbrev pub old_largest : List Row → ℕ → ℕ
old_largest rows arc = if has_flow rows arc then 1522 else 0

abbrev pub old_arc_of : Network → List Row → Due → List ℕ → ℕ → Result Said ℕ
old_arc_of net rows due name rank =
    given (arc_due net due name) row_rule (λ arc.
    kept (is_small rank) large_rule (Ok (said.Arc (record { arc = record { 0 = arc }; rank = Some rank; largest = old_largest rows arc }))))

abbrev pub ranked_arc : Network → Due → List (List ℕ) → Result Said ℕ
ranked_arc net due words =
    given (three words) word_rule (λ w.
    given (number_of w.1) number_rule (λ rank.
    given (number_of w.2) number_rule (λ largest.
    arc_of net due w.0 (Some rank) largest)))

abbrev pub old_arc : Network → List Row → Due → List (List ℕ) → Result Said ℕ
old_arc net rows due words =
    given (two words) word_rule (λ w.
    given (number_of w.1) number_rule (λ rank.
    old_arc_of net rows due w.0 rank))

abbrev pub unranked_arc : Network → Due → List (List ℕ) → Result Said ℕ
unranked_arc net due words =
    given (two words) word_rule (λ w.
    given (number_of w.1) number_rule (λ largest.
    arc_of net due w.0 None largest))

abbrev pub arc_said : Network → List Row → ℕ → Due → List (List ℕ) → Result Said ℕ
arc_said net rows version due words =
    if version == 1 then old_arc net rows due words
    else if version == 3 then unranked_arc net due words
    else ranked_arc net due words

abbrev pub port_of : Network → Due → List ℕ → ℕ → ℕ → ℕ → ℕ → ℕ → ℕ → Result Said ℕ
port_of net due name prio block work rate delay size =
    given (port_due net due name prio) row_rule (λ port.
    kept (is_small block && (is_small work && (is_small rate && (is_small delay && is_small size)))) large_rule
    (Ok (said.Port (record { arc = record { 0 = port.0 }; prio = port.1; block = block; work = work; rate = rate; delay = delay; size = size }))))

abbrev pub port_numbers : Network → Due → List ℕ → List (List ℕ) → Result Said ℕ
port_numbers net due name words =
    given (six words) word_rule (λ w.
    given (number_of w.0) number_rule (λ prio.
    given (number_of w.1) number_rule (λ block.
    given (number_of w.2) number_rule (λ work.
    given (number_of w.3) number_rule (λ rate.
    given (number_of w.4) number_rule (λ delay.
    given (number_of w.5) number_rule (λ size.
    port_of net due name prio block work rate delay size)))))))

abbrev pub port_said : Network → Due → List (List ℕ) → Result Said ℕ
port_said net due words = given (split words) word_rule (λ w. port_numbers net due w.0 w.1)

abbrev pub hop_of : Streams → Due → List ℕ → ℕ → ℕ → Result Said ℕ
hop_of streams due name hop burst =
    given (hop_due streams due name hop) row_rule (λ stream.
    kept (is_small burst) large_rule (Ok (said.Hop (record { stream = record { 0 = stream }; hop = hop; burst = burst }))))

abbrev pub hop_said : Streams → Due → List (List ℕ) → Result Said ℕ
hop_said streams due words =
    given (three words) word_rule (λ w.
    given (number_of w.1) number_rule (λ hop.
    given (number_of w.2) number_rule (λ burst.
    hop_of streams due w.0 hop burst)))

abbrev pub bound_of : Streams → Due → List ℕ → ℕ → Result Said ℕ
bound_of streams due name bound =
    given (bound_due streams due name) row_rule (λ stream.
    kept (is_small bound) large_rule (Ok (said.Bound (record { 0 = stream }) bound)))

abbrev pub bound_said : Streams → Due → List (List ℕ) → Result Said ℕ
bound_said streams due words =
    given (two words) word_rule (λ w.
    given (number_of w.1) number_rule (λ bound.
    bound_of streams due w.0 bound))

abbrev pub end_said : Due → List (List ℕ) → Result Said ℕ
end_said due words = kept (no_words words) word_rule (kept (is_end due) row_rule (Ok said.End))

-- the first word says what kind of line it is
abbrev pub said_by : Network → Streams → ℕ → Due → List ℕ → List (List ℕ) → Result Said ℕ
said_by net streams version due first words =
    if bytes_eq first (codes "certificate") then first_said due words
    else if bytes_eq first (codes "arc") then arc_said net streams.rows version due words
    else if bytes_eq first (codes "port") then port_said net due words
    else if bytes_eq first (codes "hop") then hop_said streams due words
    else if bytes_eq first (codes "bound") then bound_said streams due words
    else if bytes_eq first (codes "end") then end_said due words
    else Err word_rule
