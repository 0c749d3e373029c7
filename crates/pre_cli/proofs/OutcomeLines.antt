-- The lines of outcomes are comments: words behind a first one, with one space between them.
use Rattle.std.proofs.Common.{◌≡◌, ℕ, zero, suc, ◌+◌, ◌≤◌, ◌/◌, ◌%◌, ◌==◌, Bool, true, false, nat_lt, List, []}
use Rattle.std.proofs.Common.{◌∷◌, ◌++◌, codes, map, refl, ◌∙◌, ap, append_assoc, arith, if◌then◌else◌}
use Rattle.std.specs.Prelude.{All}
use Rattle.std.specs.Fmt.{decimal, digits, digits_onto, digit_glyph}
use Rattle.std.proofs.lemmas.List.Elements.{All-head, All-tail}
use Rattle.pre_base.specs.declared.numbers.ArcId.{ArcId}
use Rattle.pre_text.specs.Reading.{AreWords, IsWord}
use Rattle.pre_text.specs.Writing.{further}
use Rattle.pre_text.proofs.Decimals.{name_word}
use Rattle.pre_topo.specs.declared.network.Network.{Network}
use Rattle.pre_streams.specs.declared.rows.Row.{Row}
use Rattle.pre_streams.specs.Rows.{IsRow}
use Rattle.pre_certify.specs.declared.unfit.Unfit.{Unfit}
use Rattle.pre_certify.specs.declared.unfit.Unfit.TheVariants as unfit
use Rattle.pre_admit.specs.declared.reasons.Why.{Why}
use Rattle.pre_admit.specs.declared.reasons.Why.TheVariants as why
use Rattle.pre_admit.specs.declared.admissions.Outcome.{Outcome}
use Rattle.pre_admit.specs.declared.admissions.Outcome.TheVariants.{Admitted, Refused}
use Rattle.pre_read_back.specs.ReadBack.{comment_line, comment_lines, AreComments}
use Rattle.pre_cli.specs.Statuses.{behind_space, arc_numbers, unfit_words}
use Rattle.pre_cli.specs.Outcomes.{why_words, outcome_line, outcome_lines}

-- ---- digits are no spaces, and nothing of a line's end

glyph_is : (d : ℕ) → 48 ≤ digit_glyph false d
glyph_is d = by (nat_lt d 10)
  where
    by : (b : Bool) → 48 ≤ (if b then 48 + d else (if false then 55 + d else 87 + d))
    by true = omega arith
    by false = omega arith

glyph_word : (d : ℕ) (rest : List ℕ) → IsWord rest → IsWord (digit_glyph false d ∷ rest)
glyph_word d rest h = let is = glyph_is d in ((λ e. omega (arith, is, e)), (λ e. omega (arith, is, e)), (λ e. omega (arith, is, e)), h)

onto_word : (k n : ℕ) (rest : List ℕ) → IsWord rest → IsWord (digits_onto k 10 false n rest)
onto_word zero n rest h = h
onto_word (suc k) n rest h =
    by (n / 10 == 0) (glyph_word (n % 10) rest h) (onto_word k (n / 10) (digit_glyph false (n % 10) ∷ rest) (glyph_word (n % 10) rest h))
  where
    by : (b : Bool) → IsWord (digit_glyph false (n % 10) ∷ rest) → IsWord (digits_onto k 10 false (n / 10) (digit_glyph false (n % 10) ∷ rest))
        → IsWord (if b then digit_glyph false (n % 10) ∷ rest else digits_onto k 10 false (n / 10) (digit_glyph false (n % 10) ∷ rest))
    by true p q = p
    by false p q = q

digits_word : (n : ℕ) → IsWord (decimal n)
unfolding digits
digits_word n = onto_word 64 n [] tt

-- ---- the words of a line

abbrev numbers : List ArcId → List (List ℕ)
numbers arcs = map (λ (a : ArcId). decimal a.0) arcs

abbrev words_of_unfit : Unfit → List (List ℕ)
words_of_unfit (unfit.Overload arc) = codes "overload" ∷ decimal arc.0 ∷ []
words_of_unfit (unfit.Cycle arcs) = codes "cycle" ∷ numbers arcs
words_of_unfit (unfit.Large arc prio) = codes "large" ∷ decimal arc.0 ∷ decimal prio ∷ []
words_of_unfit (unfit.Ring arc prio need) = codes "ring" ∷ decimal arc.0 ∷ decimal prio ∷ decimal need ∷ []
words_of_unfit unfit.Memory = codes "memory" ∷ []

abbrev words_of_why : Why → List (List ℕ)
words_of_why why.Name = codes "name" ∷ []
words_of_why (why.Route hop) = codes "route" ∷ decimal hop ∷ []
words_of_why why.Count = codes "count" ∷ []
words_of_why (why.Unfit cause) = words_of_unfit cause
words_of_why why.Memory = codes "memory" ∷ []

abbrev words_of_outcome : List ℕ → Outcome → List (List ℕ)
words_of_outcome name (Admitted id) = codes "admitted" ∷ name ∷ []
words_of_outcome name (Refused e) = codes "refused" ∷ name ∷ words_of_why e.why

abbrev pub comments_of : List Row → List Outcome → List (List (List ℕ))
comments_of [] outcomes = []
comments_of (row ∷ rows) [] = []
comments_of (row ∷ rows) (o ∷ outcomes) = words_of_outcome row.name o ∷ comments_of rows outcomes

-- ---- the line is made of them

abbrev end : List ℕ
end = codes "\n"

numbers_end : (arcs : List ArcId) → arc_numbers arcs ++ end ≡ further (numbers arcs)
numbers_end [] = refl
numbers_end (a ∷ arcs) = append_assoc (behind_space a.0) (arc_numbers arcs) end ∙ ap (λ (l : List ℕ). behind_space a.0 ++ l) (numbers_end arcs)

two_end : (m n : ℕ) → (behind_space m ++ behind_space n) ++ end ≡ further (decimal m ∷ decimal n ∷ [])
two_end m n = append_assoc (behind_space m) (behind_space n) end

unfit_end : (e : Unfit) → unfit_words e ++ end ≡ further (words_of_unfit e)
unfit_end (unfit.Overload arc) = refl
unfit_end (unfit.Cycle arcs) = ap (λ (l : List ℕ). codes " cycle" ++ l) (numbers_end arcs)
unfit_end (unfit.Large arc prio) = ap (λ (l : List ℕ). codes " large" ++ l) (two_end arc.0 prio)
unfit_end (unfit.Ring arc prio need) =
    ap (λ (l : List ℕ). codes " ring" ++ l) (append_assoc (behind_space arc.0) (behind_space prio ++ behind_space need) end ∙ ap (λ (l : List ℕ). behind_space arc.0 ++ l) (two_end prio need))
unfit_end unfit.Memory = refl

why_end : (w : Why) → why_words w ++ end ≡ further (words_of_why w)
why_end why.Name = refl
why_end (why.Route hop) = refl
why_end why.Count = refl
why_end (why.Unfit cause) = unfit_end cause
why_end why.Memory = refl

line_is : (name : List ℕ) (o : Outcome) → outcome_line name o ≡ comment_line (words_of_outcome name o)
line_is name (Admitted id) = append_assoc (codes "# admitted ") name end
line_is name (Refused e) =
    append_assoc (codes "# refused " ++ name) (why_words e.why) end ∙ append_assoc (codes "# refused ") name (why_words e.why ++ end)
    ∙ ap (λ (l : List ℕ). codes "# refused " ++ (name ++ l)) (why_end e.why)

pub lines_are_comments : (rows : List Row) (outcomes : List Outcome) → outcome_lines rows outcomes ≡ comment_lines (comments_of rows outcomes)
lines_are_comments [] outcomes = refl
lines_are_comments (row ∷ rows) [] = refl
lines_are_comments (row ∷ rows) (o ∷ outcomes) =
    ap (λ (l : List ℕ). l ++ outcome_lines rows outcomes) (line_is row.name o) ∙ ap (λ (l : List ℕ). comment_line (words_of_outcome row.name o) ++ l) (lines_are_comments rows outcomes)

-- ---- and they are words

are_numbers : (arcs : List ArcId) → AreWords (numbers arcs)
are_numbers [] = tt
are_numbers (a ∷ arcs) = (digits_word a.0, are_numbers arcs)

unfit_are_words : (e : Unfit) → AreWords (words_of_unfit e)
unfit_are_words (unfit.Overload arc) = (name_word (codes "overload") refl, (digits_word arc.0, tt))
unfit_are_words (unfit.Cycle arcs) = (name_word (codes "cycle") refl, are_numbers arcs)
unfit_are_words (unfit.Large arc prio) = (name_word (codes "large") refl, (digits_word arc.0, (digits_word prio, tt)))
unfit_are_words (unfit.Ring arc prio need) = (name_word (codes "ring") refl, (digits_word arc.0, (digits_word prio, (digits_word need, tt))))
unfit_are_words unfit.Memory = (name_word (codes "memory") refl, tt)

why_are_words : (w : Why) → AreWords (words_of_why w)
why_are_words why.Name = (name_word (codes "name") refl, tt)
why_are_words (why.Route hop) = (name_word (codes "route") refl, (digits_word hop, tt))
why_are_words why.Count = (name_word (codes "count") refl, tt)
why_are_words (why.Unfit cause) = unfit_are_words cause
why_are_words why.Memory = (name_word (codes "memory") refl, tt)

outcome_is_words : (name : List ℕ) (o : Outcome) → IsWord name → AreWords (words_of_outcome name o)
outcome_is_words name (Admitted id) is = (name_word (codes "admitted") refl, (is, tt))
outcome_is_words name (Refused e) is = (name_word (codes "refused") refl, (is, why_are_words e.why))

pub they_are_comments : (net : Network) (rows : List Row) (outcomes : List Outcome) → All (IsRow net) rows → AreComments (comments_of rows outcomes)
they_are_comments net [] outcomes each = tt
they_are_comments net (row ∷ rows) [] each = tt
they_are_comments net (row ∷ rows) (o ∷ outcomes) each =
    (outcome_is_words row.name o (name_word row.name (All-head (IsRow net) row rows each).name), they_are_comments net rows outcomes (All-tail (IsRow net) row rows each))
