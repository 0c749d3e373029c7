-- The lines of a text, and the words of a line.
use Rattle.std.specs.Prelude.{ℕ, Bool, true, false, ◌==◌, List, [], ◌∷◌, map, filter, if◌then◌else◌}
use Rattle.std.specs.List.{slice_split, enumerate_from}
use Rattle.std.specs.Str.Lines.{strip_carriage_return}

-- the parts between the octets that equal this one, of which there is one fewer
abbrev pub cut_at : ℕ → List ℕ → List (List ℕ)
cut_at stop octets = slice_split (λ b. b == stop) octets

abbrev pub is_nonempty : List ℕ → Bool
is_nonempty [] = false
is_nonempty (b ∷ bs) = true

-- a text that ends with 0A has no line behind it
abbrev pub without_empty_end : List (List ℕ) → List (List ℕ)
without_empty_end [] = []
without_empty_end (part ∷ []) = if is_nonempty part then part ∷ [] else []
without_empty_end (part ∷ next ∷ parts) = part ∷ without_empty_end (next ∷ parts)

-- the text is cut at 0A, and then each line loses one 0D at its end
abbrev pub lines_of : List ℕ → List (List ℕ)
lines_of text = map strip_carriage_return (without_empty_end (cut_at 10 text))

-- the lines with their numbers, counted from 1
abbrev pub numbered_lines : List ℕ → List (ℕ × List ℕ)
numbered_lines text = enumerate_from 1 (lines_of text)

-- the words of a line: the longest runs of octets that aren't spaces
abbrev pub words_of : List ℕ → List (List ℕ)
words_of octets = filter is_nonempty (cut_at 32 octets)
