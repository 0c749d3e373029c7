-- The lines that are still to be read, and what one more line does.
use Rattle.std.proofs.Common.{◌≡◌, ℕ, ◌+◌, List, [], ◌∷◌, length, Result, Ok, Err, refl, sym, ◌∙◌, ap, subst, arith}
use Rattle.std.specs.List.{enumerate_from}
use Rattle.pre_text.specs.Lines.{lines_of, numbered_lines}
use Rattle.pre_bound.specs.declared.certificate.Certificate.{Certificate}
use Rattle.pre_check.specs.declared.reading.CertificateFault.{CertificateFault}
use Rattle.pre_check.specs.declared.reading.CertificateFault.TheVariants.{Fault, Memory}
use Rattle.pre_check.specs.declared.due.Due.{Due}
use Rattle.pre_check.specs.Seen.{Seen}
use Rattle.pre_check.specs.Reading.{LineReadsAs, ReadsAs, ended, then_after, until_end}

-- the lines are those behind the first `count`, of so many in all
abbrev pub ComeNext : ℕ → List (ℕ × List ℕ) → ℕ → Type 0
ComeNext count lines all = (ls : List (List ℕ)) × (lines ≡ enumerate_from (count + 1) ls) × (count + length ls ≡ all)

pub first_comes : (text : List ℕ) → ComeNext 0 (numbered_lines text) (length (lines_of text))
first_comes text = (lines_of text, refl, omega arith)

number_of_first : ℕ → List (ℕ × List ℕ) → ℕ
number_of_first n [] = n
number_of_first n (line ∷ lines) = line.0

same_parts : (n m : ℕ) (o l : List ℕ) (xs ys : List (ℕ × List ℕ)) → (n, o) ∷ xs ≡ (m, l) ∷ ys → (n ≡ m) × (xs ≡ ys)
unfolding number_of_first
same_parts n m o l xs ys e = (ap (number_of_first 0) e, cc)

next_comes' : (count n : ℕ) (o : List ℕ) (lines : List (ℕ × List ℕ)) (all : ℕ) (ls : List (List ℕ)) → (n, o) ∷ lines ≡ enumerate_from (count + 1) ls → count + length ls ≡ all → ComeNext n lines all
next_comes' count n o lines all [] e k = absurd cc
next_comes' count n o lines all (l ∷ ls) e k =
    let parts = same_parts n (count + 1) o l lines (enumerate_from (count + 1 + 1) ls) e in
    (ls, parts.1 ∙ ap (λ (m : ℕ). enumerate_from (m + 1) ls) (sym parts.0), omega (arith, parts.0))

-- one line was taken
pub next_comes : (count n : ℕ) (o : List ℕ) (old lines : List (ℕ × List ℕ)) (all : ℕ) → old ≡ (n, o) ∷ lines → ComeNext count old all → ComeNext n lines all
next_comes count n o old lines all is place = next_comes' count n o lines all place.0 (sym is ∙ place.1) place.2

none_comes' : (count : ℕ) (all : ℕ) (ls : List (List ℕ)) → [] ≡ enumerate_from (count + 1) ls → count + length ls ≡ all → count ≡ all
none_comes' count all [] e k = omega arith
none_comes' count all (l ∷ ls) e k = absurd cc

-- no line is left
pub none_comes : (count : ℕ) (old : List (ℕ × List ℕ)) (all : ℕ) → old ≡ [] → ComeNext count old all → count ≡ all
none_comes count old all is place = none_comes' count all place.0 (sym is ∙ place.1) place.2

-- a line that was read
pub line_goes : (x : Unit {0}) (now : Seen) (due : Result Seen (ℕ × ℕ)) → LineReadsAs (Ok x) now due → due ≡ Ok now
line_goes x now (Ok s) is = ap Ok (sym is)
line_goes x now (Err f) is = absurd is

-- a line that wasn't
pub line_fails : (fault : CertificateFault) (now : Seen) (read : Result Seen (ℕ × ℕ)) (next : Seen → Result Seen (ℕ × ℕ)) (due : List Due) (count : ℕ) → LineReadsAs (Err fault) now read → ReadsAs (Err fault) (ended due count (then_after read next))
line_fails (Fault line rule) now (Ok s) next due count is = absurd is
line_fails (Fault line rule) now (Err f) next due count is = is
line_fails Memory now read next due count is = tt

-- the end was reached
pub ends : (result : Result Certificate CertificateFault) (now : Seen) (lines : Result Seen (ℕ × ℕ)) (due : List Due) (count all : ℕ) → count ≡ all → lines ≡ Ok now → ReadsAs result (until_end due count now) → ReadsAs result (ended due all lines)
ends result now lines due count all same last is = rw last (subst (λ (n : ℕ). ReadsAs result (until_end due n now)) same is)
