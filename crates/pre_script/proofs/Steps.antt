-- One written line is read, and so are many.
use Rattle.std.proofs.Common.{◌≡◌, ℕ, ◌+◌, true, false, List, [], ◌∷◌, ◌++◌, filter, None, Result, Ok, refl, ◌∙◌, ap, append_assoc}
use Rattle.std.specs.List.{enumerate_from, flat_map}
use Rattle.std.proofs.lemmas.List.Concat.{flat_map-cons}
use Rattle.pre_text.specs.Lines.{is_nonempty, lines_of, words_of}
use Rattle.pre_text.specs.Reading.{AreWords, IsWord, joined}
use Rattle.pre_text.specs.Writing.{line_of}
use Rattle.pre_text.proofs.ReadBack.{line_back, words_back}
use Rattle.pre_topo.specs.declared.network.Network.{Network}
use Rattle.pre_streams.specs.declared.rows.Streams.{Streams}
use Rattle.pre_script.specs.declared.saying.Said.{Said}
use Rattle.pre_script.specs.Seen.{Seen, with_said}
use Rattle.pre_script.specs.Saying.{said_by}
use Rattle.pre_text.specs.Words.{is_comment}
use Rattle.pre_script.specs.Reading.{after_line, after_lines, after_words, then_after}

abbrev pub AreFilled : List (List ℕ) → Type 0
AreFilled [] = Unit {0}
AreFilled (w ∷ ws) = (is_nonempty w ≡ true) × AreFilled ws

all_kept : (ws : List (List ℕ)) → AreFilled ws → filter is_nonempty ws ≡ ws
all_kept [] h = refl
all_kept (w ∷ ws) h = rw (h.0, all_kept ws h.1) refl

-- the rest of a text, read from a line on
abbrev pub rest_read : Network → Streams → Seen → ℕ → List ℕ → Result Seen (ℕ × ℕ)
rest_read net streams seen n text = after_lines net streams seen (enumerate_from n (lines_of text))

line_read : (net : Network) (streams : Streams) (seen : Seen) (n : ℕ) (first : List ℕ) (ws : List (List ℕ)) (s : Said) → IsWord first → AreWords ws → AreFilled (first ∷ ws) → is_comment first ≡ false → seen.until ≡ None
    → said_by net streams seen n first ws ≡ Ok s → after_line net streams seen (n, joined first ws) ≡ Ok (with_said seen s)
line_read net streams seen n first ws s p ps filled plain unended says =
    let words : words_of (joined first ws) ≡ first ∷ ws = ap (filter is_nonempty) (words_back first ws p ps) ∙ all_kept (first ∷ ws) filled in
    ap (after_words net streams seen n) words ∙ rw (plain, unended, says) refl

pub step : (net : Network) (streams : Streams) (seen : Seen) (n : ℕ) (first : List ℕ) (ws : List (List ℕ)) (rest : List ℕ) (s : Said) → IsWord first → AreWords ws → AreFilled (first ∷ ws) → is_comment first ≡ false → seen.until ≡ None
    → said_by net streams seen n first ws ≡ Ok s → rest_read net streams seen n (line_of first ws ++ rest) ≡ rest_read net streams (with_said seen s) (n + 1) rest
step net streams seen n first ws rest s p ps filled plain unended says =
    ap (λ (l : List (List ℕ)). after_lines net streams seen (enumerate_from n l)) (line_back first ws rest p ps)
    ∙ ap (λ (r : Result Seen (ℕ × ℕ)). then_after r (λ next. rest_read net streams next (n + 1) rest)) (line_read net streams seen n first ws s p ps filled plain unended says)

-- what was seen behind each of the lines
abbrev pub seen_after : {X : Type 0} → (Seen → X → Seen) → Seen → List X → Seen
seen_after add seen [] = seen
seen_after add seen (x ∷ xs) = seen_after add (add seen x) xs

-- lines of one kind, where each can be read as long as the invariant holds
pub block : {X : Type 0} (net : Network) (streams : Streams) (line : X → List ℕ) (add : Seen → X → Seen) (Holds : Seen → List X → Type 0)
    → ((seen : Seen) (n : ℕ) (x : X) (xs : List X) (rest : List ℕ) → Holds seen (x ∷ xs) → rest_read net streams seen n (line x ++ rest) ≡ rest_read net streams (add seen x) (n + 1) rest)
    → ((seen : Seen) (x : X) (xs : List X) → Holds seen (x ∷ xs) → Holds (add seen x) xs)
    → (xs : List X) (rest : List ℕ) (n : ℕ) (seen : Seen) → Holds seen xs → (m : ℕ) × (rest_read net streams seen n (flat_map line xs ++ rest) ≡ rest_read net streams (seen_after add seen xs) m rest)
block net streams line add Holds one next [] rest n seen h = (n, refl)
block net streams line add Holds one next (x ∷ xs) rest n seen h =
    let more = block net streams line add Holds one next xs rest (n + 1) (add seen x) (next seen x xs h) in
    let text : flat_map line (x ∷ xs) ++ rest ≡ line x ++ (flat_map line xs ++ rest) = ap (λ (l : List ℕ). l ++ rest) (flat_map-cons line x xs) ∙ append_assoc (line x) (flat_map line xs) rest in
    (more.0, ap (rest_read net streams seen n) text ∙ one seen n x xs (flat_map line xs ++ rest) h ∙ more.1)
