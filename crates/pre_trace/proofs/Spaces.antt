-- Words with one space between them, octet by octet.
use Rattle.std.proofs.Common.{◌≡◌, ◌==◌, ◌&&◌, not, ℕ, Bool, true, false, List, [], ◌∷◌, refl, sym, ◌∙◌, if◌then◌else◌, cond}
use Rattle.std.specs.List.{list_all, onto_first}
use Rattle.pre_text.specs.Lines.{cut_at, is_nonempty}
use Rattle.pre_trace.specs.Values.{has_single_spaces}

-- where a space or nothing stands before, a word is due
abbrev pub spaced : Bool → List ℕ → Bool
spaced after [] = not after
spaced after (c ∷ cs) = if c == 32 then not after && spaced true cs else spaced false cs

one_more : (c x : ℕ) (parts : List (List ℕ)) → list_all is_nonempty (onto_first x parts) ≡ list_all is_nonempty (onto_first c (onto_first x parts))
one_more c x [] = refl
one_more c x (part ∷ parts) = refl

after_one : (x : ℕ) (xs : List ℕ) (b : Bool) (parts : List (List ℕ))
    → spaced true xs ≡ list_all is_nonempty parts → ((c : ℕ) → spaced false xs ≡ list_all is_nonempty (onto_first c parts))
    → ((if b then not true && spaced true xs else spaced false xs) ≡ list_all is_nonempty (cond b ([] ∷ parts) (onto_first x parts)))
    × ((c : ℕ) → (if b then not false && spaced true xs else spaced false xs) ≡ list_all is_nonempty (onto_first c (cond b ([] ∷ parts) (onto_first x parts))))
after_one x xs true parts due further = (refl, λ c. due)
after_one x xs false parts due further = (further x, λ c. further x ∙ one_more c x parts)

spaced_both : (xs : List ℕ) → (spaced true xs ≡ list_all is_nonempty (cut_at 32 xs)) × ((c : ℕ) → spaced false xs ≡ list_all is_nonempty (onto_first c (cut_at 32 xs)))
spaced_both [] = (refl, λ c. refl)
spaced_both (x ∷ xs) = let rest = spaced_both xs in after_one x xs (x == 32) (cut_at 32 xs) rest.0 rest.1

pub spaced_is : (xs : List ℕ) → has_single_spaces xs ≡ spaced true xs
spaced_is xs = sym (spaced_both xs).0
