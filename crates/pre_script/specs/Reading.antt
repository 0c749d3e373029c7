-- The script that a text spells, or its first fault.
use Rattle.std.specs.Prelude.{◌≡◌, ℕ, ◌+◌, ◌==◌, Bool, false, List, [], ◌∷◌, length, Option, Some, None, Result, Ok, Err, is_some, if◌then◌else◌, ⊤}
use Rattle.pre_text.specs.Words.{is_comment}
use Rattle.pre_base.specs.declared.numbers.Tick.{Tick}
use Rattle.pre_text.specs.Lines.{lines_of, numbered_lines, words_of}
use Rattle.pre_topo.specs.declared.network.Network.{Network}
use Rattle.pre_streams.specs.declared.rows.Streams.{Streams}
use Rattle.pre_script.specs.declared.scripts.Script.{Script}
use Rattle.pre_script.specs.declared.scripts.ScriptFault.{ScriptFault}
use Rattle.pre_script.specs.declared.scripts.ScriptFault.TheVariants.{Fault, Memory}
use Rattle.pre_script.specs.declared.saying.Said.{Said}
use Rattle.pre_script.specs.Rules.{after_rule, end_rule}
use Rattle.pre_script.specs.Seen.{Seen, nothing_seen, with_said}
use Rattle.pre_script.specs.Saying.{said_by}

-- a line's rule with the line
abbrev pub told : ℕ → Seen → Result Said ℕ → Result Seen (ℕ × ℕ)
told line seen (Ok s) = Ok (with_said seen s)
told line seen (Err rule) = Err (line, rule)

-- nothing may be said after the end
abbrev pub after_words : Network → Streams → Seen → ℕ → List (List ℕ) → Result Seen (ℕ × ℕ)
after_words net streams seen line [] = Ok seen
after_words net streams seen line (first ∷ words) =
    if is_comment first then Ok seen
    else if is_some seen.until then Err (line, after_rule)
    else told line seen (said_by net streams seen line first words)

abbrev pub after_line : Network → Streams → Seen → ℕ × List ℕ → Result Seen (ℕ × ℕ)
after_line net streams seen line = after_words net streams seen line.0 (words_of line.1)

abbrev pub then_after : Result Seen (ℕ × ℕ) → (Seen → Result Seen (ℕ × ℕ)) → Result Seen (ℕ × ℕ)
then_after (Ok seen) next = next seen
then_after (Err fault) next = Err fault

-- line by line, up to the first fault
abbrev pub after_lines : Network → Streams → Seen → List (ℕ × List ℕ) → Result Seen (ℕ × ℕ)
after_lines net streams seen [] = Ok seen
after_lines net streams seen (line ∷ lines) = then_after (after_line net streams seen line) (λ s. after_lines net streams s lines)

-- the script, where its end was said
abbrev pub until_end : ℕ → Seen → Option Tick → Result Script (ℕ × ℕ)
until_end count seen None = Err (count + 1, end_rule)
until_end count seen (Some tick) = Ok (record { sends = seen.sends; sets = seen.sets; losses = seen.losses; damages = seen.damages; until = tick })

abbrev pub ended : ℕ → Result Seen (ℕ × ℕ) → Result Script (ℕ × ℕ)
ended count (Ok seen) = until_end count seen seen.until
ended count (Err fault) = Err fault

-- the script, or the line and rule of the first fault; a missing end is a fault of the line behind the last
abbrev pub script_of : Network → Streams → List ℕ → Result Script (ℕ × ℕ)
script_of net streams text = ended (length (lines_of text)) (after_lines net streams nothing_seen (numbered_lines text))

-- want of memory alone may take the place of what is due
abbrev pub ReadsAs : Result Script ScriptFault → Result Script (ℕ × ℕ) → Type 0
ReadsAs (Ok script) (Ok due) = script ≡ due
ReadsAs (Ok script) (Err due) = ⊥
ReadsAs (Err (Fault line rule)) (Ok due) = ⊥
ReadsAs (Err (Fault line rule)) (Err due) = (line ≡ due.0) × (rule ≡ due.1)
ReadsAs (Err Memory) due = ⊤

-- the same of one line, and what was seen with it
abbrev pub LineReadsAs : Result (Unit {0}) ScriptFault → Seen → Result Seen (ℕ × ℕ) → Type 0
LineReadsAs (Ok x) now (Ok due) = now ≡ due
LineReadsAs (Ok x) now (Err due) = ⊥
LineReadsAs (Err (Fault line rule)) now (Ok due) = ⊥
LineReadsAs (Err (Fault line rule)) now (Err due) = (line ≡ due.0) × (rule ≡ due.1)
LineReadsAs (Err Memory) now due = ⊤
