-- The arrivals that a file of mPackets spells, or its first fault.
use Rattle.std.specs.Prelude.{◌≡◌, ◌⊎◌, ℕ, ◌<◌, ◌≤◌, ◌==◌, Bool, false, List, [], ◌∷◌, ◌++◌, length, Option}
use Rattle.std.specs.Prelude.{Some, None, Result, Ok, Err, if◌then◌else◌, ⊤}
use Rattle.pre_text.specs.Lines.{numbered_lines, words_of}
use Rattle.pre_text.specs.Words.{is_comment, pairs_within}
use Rattle.pre_cli.specs.declared.packet_files.PacketFault.{PacketFault}
use Rattle.pre_cli.specs.declared.packet_files.PacketFault.TheVariants.{Line, Memory}
use Rattle.pre_cli.specs.Scripts.{max_file}

-- the greatest length of an arrival, in octets
abbrev pub max_arrival : ℕ
max_arrival = 4096

-- the arrivals with one more, where the line's one word spells it
abbrev pub with_arrival : List (List ℕ) → ℕ → Option (List ℕ) → List (List ℕ) → Result (List (List ℕ)) ℕ
with_arrival found line (Some octets) [] = Ok (found ++ octets ∷ [])
with_arrival found line (Some octets) (next ∷ words) = Err line
with_arrival found line None words = Err line

-- a line without words and a comment are skipped
abbrev pub after_words : List (List ℕ) → ℕ → List (List ℕ) → Result (List (List ℕ)) ℕ
after_words found line [] = Ok found
after_words found line (first ∷ words) = if is_comment first then Ok found else with_arrival found line (pairs_within max_arrival first) words

abbrev pub after_line : List (List ℕ) → ℕ × List ℕ → Result (List (List ℕ)) ℕ
after_line found line = after_words found line.0 (words_of line.1)

abbrev pub then_lines : Result (List (List ℕ)) ℕ → (List (List ℕ) → Result (List (List ℕ)) ℕ) → Result (List (List ℕ)) ℕ
then_lines (Ok found) next = next found
then_lines (Err line) next = Err line

-- line by line, up to the first fault
abbrev pub after_lines : List (List ℕ) → List (ℕ × List ℕ) → Result (List (List ℕ)) ℕ
after_lines found [] = Ok found
after_lines found (line ∷ lines) = then_lines (after_line found line) (λ more. after_lines more lines)

-- the arrivals of a text, in order, or the number of the first line that isn't one word of pairs of hexadecimal digits
-- with at most 4096 octets
abbrev pub arrivals_of : List ℕ → Result (List (List ℕ)) ℕ
arrivals_of text = after_lines [] (numbered_lines text)

-- want of memory alone may take the place of what is due
abbrev pub ReadsAs : Result (List (List ℕ)) PacketFault → Result (List (List ℕ)) ℕ → Type 0
ReadsAs (Ok found) (Ok due) = found ≡ due
ReadsAs (Ok found) (Err due) = ⊥
ReadsAs (Err (Line line)) (Ok due) = ⊥
ReadsAs (Err (Line line)) (Err due) = line ≡ due
ReadsAs (Err Memory) due = ⊤

-- the same of one line, and what was found with it
abbrev pub LineReadsAs : Result (Unit {0}) PacketFault → List (List ℕ) → Result (List (List ℕ)) ℕ → Type 0
LineReadsAs (Ok x) now (Ok due) = now ≡ due
LineReadsAs (Ok x) now (Err due) = ⊥
LineReadsAs (Err (Line line)) now (Ok due) = ⊥
LineReadsAs (Err (Line line)) now (Err due) = line ≡ due
LineReadsAs (Err Memory) now due = ⊤

-- the line and rule of what was read, where it is a fault: there is one rule
abbrev pub fault_in : Result (List (List ℕ)) ℕ → Option (ℕ × ℕ)
fault_in (Ok found) = None
fault_in (Err line) = Some (line, 1)

-- this is the first fault of a file of mPackets, or it has none: 0 and 0 where it is too long
abbrev pub IsPacketDue : List ℕ → Option (ℕ × ℕ) → Type 0
IsPacketDue octets fault =
    ((max_file < length octets) × (fault ≡ Some (0, 0)))
    ⊎ (length octets ≤ max_file) × (fault_in (arrivals_of octets) ≡ fault)
