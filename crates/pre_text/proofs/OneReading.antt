-- Where two texts of lines are one, so are their words.
use Rattle.std.proofs.Common.{◌≡◌, ◌≢◌, ◌⊎◌, inl, inr, ℕ, List, [], ◌∷◌, ◌++◌, refl, sym, ◌∙◌, append_assoc}
use Rattle.pre_text.specs.Writing.{line_of, further}
use Rattle.pre_text.specs.Reading.{IsWord, AreWords}

abbrev IsStop : ℕ → Type 0
IsStop c = (c ≡ 32) ⊎ (c ≡ 10)

no_stop : (c d : ℕ) → IsStop c → c ≡ d → d ≢ 32 → d ≢ 10 → ⊥
no_stop c d (inl is) e space end = space (sym e ∙ is)
no_stop c d (inr is) e space end = end (sym e ∙ is)

-- a word ends at the first stop
cut : (w v r s : List ℕ) (c d : ℕ) → IsWord w → IsWord v → IsStop c → IsStop d → w ++ c ∷ r ≡ v ++ d ∷ s → (w ≡ v) × (c ≡ d) × (r ≡ s)
cut [] [] r s c d p q i j e = (refl, cc, cc)
cut [] (y ∷ v) r s c d p q i j e = absurd (no_stop c y i (cc) q.0 q.1)
cut (x ∷ w) [] r s c d p q i j e = absurd (no_stop d x j (cc) p.0 p.1)
cut (x ∷ w) (y ∷ v) r s c d p q i j e =
    let tails : w ++ c ∷ r ≡ v ++ d ∷ s = cc in
    let rest = cut w v r s c d p.3 q.3 i j tails in
    let heads : x ≡ y = cc in
    (λ k. heads k ∷ rest.0 k, rest.1, rest.2)

-- a word and what stands behind it
word_cut : (w v : List ℕ) (ws vs : List (List ℕ)) (r s : List ℕ) → IsWord w → IsWord v → AreWords ws → AreWords vs → w ++ (further ws ++ r) ≡ v ++ (further vs ++ s) → (w ≡ v) × (further ws ++ r ≡ further vs ++ s)
word_cut w v [] [] r s p q ps qs e = let found = cut w v r s 10 10 p q (inr refl) (inr refl) e in (found.0, λ k. 10 ∷ found.2 k)
word_cut w v [] (y ∷ vs) r s p q ps qs e = let found = cut w v r ((y ++ further vs) ++ s) 10 32 p q (inr refl) (inl refl) e in absurd (cc (found.1))
word_cut w v (x ∷ ws) [] r s p q ps qs e = let found = cut w v ((x ++ further ws) ++ r) s 32 10 p q (inl refl) (inr refl) e in absurd (cc (found.1))
word_cut w v (x ∷ ws) (y ∷ vs) r s p q ps qs e = let found = cut w v ((x ++ further ws) ++ r) ((y ++ further vs) ++ s) 32 32 p q (inl refl) (inl refl) e in (found.0, λ k. 32 ∷ found.2 k)

further_cut : (ws vs : List (List ℕ)) (r s : List ℕ) → AreWords ws → AreWords vs → further ws ++ r ≡ further vs ++ s → (ws ≡ vs) × (r ≡ s)
further_cut [] [] r s ps qs e = (refl, cc)
further_cut [] (y ∷ vs) r s ps qs e = absurd cc
further_cut (x ∷ ws) [] r s ps qs e = absurd cc
further_cut (x ∷ ws) (y ∷ vs) r s ps qs e =
    let tails : (x ++ further ws) ++ r ≡ (y ++ further vs) ++ s = cc in
    let regrouped : x ++ (further ws ++ r) ≡ y ++ (further vs ++ s) = sym (append_assoc x (further ws) r) ∙ tails ∙ append_assoc y (further vs) s in
    let first = word_cut x y ws vs r s ps.0 qs.0 ps.1 qs.1 regrouped in
    let rest = further_cut ws vs r s ps.1 qs.1 first.1 in
    (λ k. first.0 k ∷ rest.0 k, rest.1)

pub line_cut : (w v : List ℕ) (ws vs : List (List ℕ)) (r s : List ℕ) → IsWord w → IsWord v → AreWords ws → AreWords vs → line_of w ws ++ r ≡ line_of v vs ++ s → (w ≡ v) × (ws ≡ vs) × (r ≡ s)
line_cut w v ws vs r s p q ps qs e =
    let regrouped : w ++ (further ws ++ r) ≡ v ++ (further vs ++ s) = sym (append_assoc w (further ws) r) ∙ e ∙ append_assoc v (further vs) s in
    let first = word_cut w v ws vs r s p q ps qs regrouped in
    let rest = further_cut ws vs r s ps qs first.1 in
    (first.0, rest.0, rest.1)
