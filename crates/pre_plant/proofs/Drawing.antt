-- The draws, one more at a time.
use Rattle.std.proofs.Common.{◌≡◌, ℕ, zero, suc, ◌+◌, ◌*◌, ◌/◌, ◌%◌, List, [], ◌∷◌, ◌++◌, length, refl, sym, ◌∙◌, ap, arith, append_assoc}
use Rattle.std.proofs.Math.Nat.{mod-add-mod}
use Rattle.pre_plant.specs.Draws.{next_state, drawn, draws_of}

pub next_is : (x : ℕ) → (x * 6364136223846793005 % 18446744073709551616 + 1442695040888963407) % 18446744073709551616 ≡ next_state x
unfolding next_state
next_is x = mod-add-mod (x * 6364136223846793005) 18446744073709551616 1442695040888963407

drawn-suc : (count x : ℕ) → drawn (suc count) x ≡ next_state x / 8589934592 ∷ drawn count (next_state x)
unfolding drawn
drawn-suc count x = refl

pub drawn_more : (all : List ℕ) (old new : List ℕ) (left x y : ℕ) → old ++ drawn (left + 1) x ≡ all → y ≡ next_state x → new ≡ old ++ y / 8589934592 ∷ [] → new ++ drawn left y ≡ all
drawn_more all old new left x y is next one =
    let on : left + 1 ≡ suc left = omega arith in
    ap (λ (l : List ℕ). l ++ drawn left y) one
    ∙ append_assoc old (y / 8589934592 ∷ []) (drawn left y)
    ∙ ap (λ z. old ++ z / 8589934592 ∷ drawn left z) next
    ∙ ap (λ (l : List ℕ). old ++ l) (sym (drawn-suc left x) ∙ ap (λ m. drawn m x) (sym on))
    ∙ is

pub drawn_none : (x : ℕ) → drawn 0 x ≡ []
unfolding drawn
drawn_none x = refl

pub draws_are : (n : ℕ) → drawn 360 n ≡ draws_of n
unfolding draws_of
draws_are n = refl

length-drawn : (count x : ℕ) → length (drawn count x) ≡ count
length-drawn zero x = ap length (drawn_none x)
length-drawn (suc count) x = ap length (drawn-suc count x) ∙ ap suc (length-drawn count (next_state x))

pub length-draws_of : (n : ℕ) → length (draws_of n) ≡ 360
length-draws_of n = ap length (sym (draws_are n)) ∙ length-drawn 360 n
