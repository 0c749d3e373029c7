-- The certificate that a text spells, or its first fault.
use Rattle.std.specs.Prelude.{◌≡◌, ℕ, ◌+◌, ◌==◌, Bool, false, List, [], ◌∷◌, length, slice_get, Option, Some, None, Result, Ok, Err, if◌then◌else◌, ⊤}
use Rattle.pre_text.specs.Words.{is_comment}
use Rattle.pre_text.specs.Lines.{lines_of, numbered_lines, words_of}
use Rattle.pre_topo.specs.declared.network.Network.{Network}
use Rattle.pre_streams.specs.declared.rows.Streams.{Streams}
use Rattle.pre_bound.specs.Limits.{IsWithin}
use Rattle.pre_bound.specs.declared.certificate.Certificate.{Certificate}
use Rattle.pre_check.specs.declared.reading.CertificateFault.{CertificateFault}
use Rattle.pre_check.specs.declared.reading.CertificateFault.TheVariants.{Fault, Memory}
use Rattle.pre_check.specs.declared.due.Due.{Due}
use Rattle.pre_check.specs.declared.saying.Said.{Said}
use Rattle.pre_check.specs.Due.{due_lines}
use Rattle.pre_check.specs.Saying.{said_by, after_rule, end_rule}
use Rattle.pre_check.specs.Seen.{Rows, rows_in, Seen, nothing_seen, with_said}

-- a line's rule with the line
abbrev pub told : ℕ → Seen → Result Said ℕ → Result Seen (ℕ × ℕ)
told line seen (Ok s) = Ok (with_said seen s)
told line seen (Err rule) = Err (line, rule)

-- nothing may be said after the end, which is the last line due
abbrev pub by_due : Network → Streams → Seen → ℕ → List ℕ → List (List ℕ) → Option Due → Result Seen (ℕ × ℕ)
by_due net streams seen line first words None = Err (line, after_rule)
by_due net streams seen line first words (Some d) = told line seen (said_by net streams seen.version d first words)

abbrev pub after_words : Network → Streams → List Due → Seen → ℕ → List (List ℕ) → Result Seen (ℕ × ℕ)
after_words net streams due seen line [] = Ok seen
after_words net streams due seen line (first ∷ words) = if is_comment first then Ok seen else by_due net streams seen line first words (slice_get due seen.place)

abbrev pub after_line : Network → Streams → List Due → Seen → ℕ × List ℕ → Result Seen (ℕ × ℕ)
after_line net streams due seen line = after_words net streams due seen line.0 (words_of line.1)

abbrev pub then_after : Result Seen (ℕ × ℕ) → (Seen → Result Seen (ℕ × ℕ)) → Result Seen (ℕ × ℕ)
then_after (Ok seen) next = next seen
then_after (Err fault) next = Err fault

-- line by line, up to the first fault
abbrev pub after_lines : Network → Streams → List Due → Seen → List (ℕ × List ℕ) → Result Seen (ℕ × ℕ)
after_lines net streams due seen [] = Ok seen
after_lines net streams due seen (line ∷ lines) = then_after (after_line net streams due seen line) (λ s. after_lines net streams due s lines)

-- the rows, where all lines that are due were read
abbrev pub until_end : List Due → ℕ → Seen → Result Rows (ℕ × ℕ)
until_end due count seen = if seen.place == length due then Ok seen.rows else Err (count + 1, end_rule)

abbrev pub ended : List Due → ℕ → Result Seen (ℕ × ℕ) → Result Rows (ℕ × ℕ)
ended due count (Ok seen) = until_end due count seen
ended due count (Err fault) = Err fault

-- the rows of the certificate, or the line and rule of the first fault; a missing end is a fault of the line behind the last
abbrev pub certificate_of : Network → Streams → List ℕ → Result Rows (ℕ × ℕ)
certificate_of net streams text = ended (due_lines net streams.rows) (length (lines_of text)) (after_lines net streams (due_lines net streams.rows) nothing_seen (numbered_lines text))

-- want of memory alone may take the place of what is due
abbrev pub ReadsAs : Result Certificate CertificateFault → Result Rows (ℕ × ℕ) → Type 0
ReadsAs (Ok c) (Ok due) = rows_in c ≡ due
ReadsAs (Ok c) (Err due) = ⊥
ReadsAs (Err (Fault line rule)) (Ok due) = ⊥
ReadsAs (Err (Fault line rule)) (Err due) = (line ≡ due.0) × (rule ≡ due.1)
ReadsAs (Err Memory) due = ⊤

-- the same of one line, and what was seen with it
abbrev pub LineReadsAs : Result (Unit {0}) CertificateFault → Seen → Result Seen (ℕ × ℕ) → Type 0
LineReadsAs (Ok x) now (Ok due) = now ≡ due
LineReadsAs (Ok x) now (Err due) = ⊥
LineReadsAs (Err (Fault line rule)) now (Ok due) = ⊥
LineReadsAs (Err (Fault line rule)) now (Err due) = (line ≡ due.0) × (rule ≡ due.1)
LineReadsAs (Err Memory) now due = ⊤

-- no number that was said passes the limit
abbrev pub AreSmall : Seen → Type 0
AreSmall seen = IsWithin seen.rows.arcs seen.rows.ports seen.rows.hops seen.rows.bounds
