-- Lines are cut where they were joined.
use Rattle.std.proofs.Common.{◌≡◌, ◌≢◌, ℕ, zero, suc, ◌-◌, true, false, ◌==◌, List, [], ◌∷◌, ◌++◌, length, get_or, map, refl, sym, ◌∙◌, ap, append_assoc, arith}
use Rattle.std.specs.Str.Lines.{strip_carriage_return}
use Rattle.std.proofs.lemmas.Bool.Decides.{nat_tests}
use Rattle.pre_text.specs.Lines.{cut_at, lines_of, without_empty_end}
use Rattle.pre_text.specs.Reading.{AreWords, IsWord, joined}
use Rattle.pre_text.specs.Writing.{line_of}
use Rattle.pre_text.proofs.Cuts.{parts_of, goes_on}

abbrev pub Lacks : ℕ → List ℕ → Type 0
Lacks c [] = Unit {0}
Lacks c (x ∷ xs) = (x ≢ c) × Lacks c xs

Lacks-append : (c : ℕ) (xs ys : List ℕ) → Lacks c xs → Lacks c ys → Lacks c (xs ++ ys)
Lacks-append c [] ys p q = q
Lacks-append c (x ∷ xs) ys p q = (p.0, Lacks-append c xs ys p.1 q)

differs : (x c : ℕ) → x ≢ c → (x == c) ≡ false
differs x c ne = grind (arith, nat_tests)

same : (c : ℕ) → (c == c) ≡ true
same c = grind (arith, nat_tests)

cut_one : (c : ℕ) (xs : List ℕ) → Lacks c xs → cut_at c xs ≡ xs ∷ []
cut_one c [] h = refl
cut_one c (x ∷ xs) h = rw (differs x c h.0, cut_one c xs h.1) refl

cut_first : (c : ℕ) (xs ys : List ℕ) → Lacks c xs → cut_at c (xs ++ c ∷ ys) ≡ xs ∷ cut_at c ys
cut_first c [] ys h = rw (same c) refl
cut_first c (x ∷ xs) ys h = rw (differs x c h.0, cut_first c xs ys h.1) refl

no_space : (w : List ℕ) → IsWord w → Lacks 32 w
no_space [] h = tt
no_space (c ∷ w) h = (h.0, no_space w h.3)

no_end : (w : List ℕ) → IsWord w → Lacks 10 w
no_end [] h = tt
no_end (c ∷ w) h = (h.1, no_end w h.3)

no_return : (w : List ℕ) → IsWord w → Lacks 13 w
no_return [] h = tt
no_return (c ∷ w) h = (h.2, no_return w h.3)

joined_lacks : (c : ℕ) (w : List ℕ) (ws : List (List ℕ)) → 32 ≢ c → ((v : List ℕ) → IsWord v → Lacks c v) → IsWord w → AreWords ws → Lacks c (joined w ws)
joined_lacks c w [] ne each p ps = each w p
joined_lacks c w (v ∷ ws) ne each p ps = Lacks-append c w (32 ∷ joined v ws) (each w p) (ne, joined_lacks c v ws ne each ps.0 ps.1)

-- a line is cut into its words
pub words_back : (w : List ℕ) (ws : List (List ℕ)) → IsWord w → AreWords ws → cut_at 32 (joined w ws) ≡ w ∷ ws
words_back w [] p ps = cut_one 32 w (no_space w p)
words_back w (v ∷ ws) p ps = cut_first 32 w (joined v ws) (no_space w p) ∙ ap (λ (l : List (List ℕ)). w ∷ l) (words_back v ws ps.0 ps.1)

line_is : (w : List ℕ) (ws : List (List ℕ)) → line_of w ws ≡ joined w ws ++ 10 ∷ []
line_is w [] = refl
line_is w (v ∷ ws) = ap (λ (l : List ℕ). w ++ 32 ∷ l) (line_is v ws) ∙ sym (append_assoc w (32 ∷ joined v ws) (10 ∷ []))

at_no_place : (c : ℕ) (xs : List ℕ) (i : ℕ) → 0 ≢ c → Lacks c xs → get_or xs i 0 ≢ c
at_no_place c [] i ne h = ne
at_no_place c (x ∷ xs) zero ne h = h.0
at_no_place c (x ∷ xs) (suc i) ne h = at_no_place c xs i ne h.1

unstripped : (xs : List ℕ) → Lacks 13 xs → strip_carriage_return xs ≡ xs
unstripped xs h =
    let other = differs (get_or xs (length xs - 1) 0) 13 (at_no_place 13 xs (length xs - 1) (omega arith) h) in
    rw other refl

pub line_back : (w : List ℕ) (ws : List (List ℕ)) (rest : List ℕ) → IsWord w → AreWords ws → lines_of (line_of w ws ++ rest) ≡ joined w ws ∷ lines_of rest
line_back w ws rest p ps =
    let text : line_of w ws ++ rest ≡ joined w ws ++ 10 ∷ rest = ap (λ (l : List ℕ). l ++ rest) (line_is w ws) ∙ append_assoc (joined w ws) (10 ∷ []) rest in
    let parts = cut_first 10 (joined w ws) rest (joined_lacks 10 w ws (omega arith) no_end p ps) in
    let next = parts_of (λ b. b == 10) rest in
    let whole = unstripped (joined w ws) (joined_lacks 13 w ws (omega arith) no_return p ps) in
    ap lines_of text
    ∙ ap (λ (l : List (List ℕ)). map strip_carriage_return (without_empty_end l)) parts
    ∙ ap (map strip_carriage_return) (goes_on (joined w ws) (cut_at 10 rest) next.0 next.1 next.2)
    ∙ ap (λ (l : List ℕ). l ∷ lines_of rest) whole
