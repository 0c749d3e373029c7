-- Texts of lines are read as what was written.
use Rattle.std.specs.Prelude.{ℕ, ◌≢◌, ◌<◌, ◌^◌, List, [], ◌∷◌, ◌++◌}

-- no space, and nothing of a line's end
abbrev pub IsWord : List ℕ → Type 0
IsWord [] = Unit {0}
IsWord (c ∷ cs) = (c ≢ 32) × (c ≢ 10) × (c ≢ 13) × IsWord cs

abbrev pub AreWords : List (List ℕ) → Type 0
AreWords [] = Unit {0}
AreWords (w ∷ ws) = IsWord w × AreWords ws

pub IsWord-append : (v w : List ℕ) → IsWord v → IsWord w → IsWord (v ++ w)
IsWord-append [] w p q = q
IsWord-append (c ∷ v) w p q = (p.0, p.1, p.2, IsWord-append v w p.3 q)

-- words with one space between them: a line without its end
abbrev pub joined : List ℕ → List (List ℕ) → List ℕ
joined first [] = first
joined first (word ∷ words) = first ++ 32 ∷ joined word words

abbrev pub AreOctets : List ℕ → Type 0
AreOctets [] = Unit {0}
AreOctets (b ∷ bs) = (b < 2 ^ 8) × AreOctets bs
