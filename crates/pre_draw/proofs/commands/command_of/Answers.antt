use Rattle.std.proofs.Common.{◌≡◌, ◌≢◌, ◌<◌, ◌≤◌, ◌+◌, ◌⊎◌, inl, inr, ℕ, List, [], ◌∷◌, length, map, refl, arith, Global}
use Rattle.std.proofs.lemmas.Bool.{ltb-true, ltb-false}
use Rattle.std.specs.String.{string_bytes}
use Rattle.pre_draw.specs.Commands.{unknown, command_of}
use Rattle.pre_draw.proofs.commands.command_of.Goals as goal
use Rattle.pre_draw.proofs.commands.command_of.Goals.{then-words-lt3, else-words-lt3+else-words-lt4, then-words-lt5, else-words-lt5+else-words-lt6, then-words-lt7, else-words-lt7+else-words-lt8}

-- words of another number ask for nothing
no_command : {A : Type 0} (f : A → List ℕ) (words : List A) → length words ≢ 3 → length words ≢ 5 → length words ≢ 7 → unknown ≡ command_of (map f words)
no_command f [] three five seven = refl
no_command f (a ∷ []) three five seven = refl
no_command f (a ∷ b ∷ []) three five seven = refl
no_command f (a ∷ b ∷ c ∷ []) three five seven = absurd (three refl)
no_command f (a ∷ b ∷ c ∷ d ∷ []) three five seven = refl
no_command f (a ∷ b ∷ c ∷ d ∷ e ∷ []) three five seven = absurd (five refl)
no_command f (a ∷ b ∷ c ∷ d ∷ e ∷ g ∷ []) three five seven = refl
no_command f (a ∷ b ∷ c ∷ d ∷ e ∷ g ∷ h ∷ []) three five seven = absurd (seven refl)
no_command f (a ∷ b ∷ c ∷ d ∷ e ∷ g ∷ h ∷ i ∷ more) three five seven = refl

-- how many words there aren't, by what is below and above it
apart : (n k : ℕ) → (n < k) ⊎ (k + 1 ≤ n) → n ≢ k
apart n k (inl below) = omega (arith, below)
apart n k (inr above) = omega (arith, above)

pub returns : goal.returns
returns c =
    let words = c.args.words.now in
    let n = length words in
    no_command (string_bytes {Z = Global}) words
    (apart n 3 (elim c.if-words-lt3.branch [ then-words-lt3 w ↦ inl (ltb-true n 3 w.if-words-lt3-1.true) | else-words-lt3+else-words-lt4 w ↦ inr (ltb-false n 4 w.if-words-lt4-1.false) ]))
    (apart n 5 (elim c.if-words-lt5.branch [ then-words-lt5 w ↦ inl (ltb-true n 5 w.if-words-lt5-1.true) | else-words-lt5+else-words-lt6 w ↦ inr (ltb-false n 6 w.if-words-lt6-1.false) ]))
    (apart n 7 (elim c.if-words-lt7.branch [ then-words-lt7 w ↦ inl (ltb-true n 7 w.if-words-lt7-1.true) | else-words-lt7+else-words-lt8 w ↦ inr (ltb-false n 8 w.if-words-lt8-1.false) ]))
