-- What an ordered list keeps of the list it came from.
use Rattle.std.proofs.Common.{◌≡◌, ◌≢◌, ℕ, zero, suc, ◌+◌, ◌<◌, ◌≤◌, ◌⊎◌, inl, inr, List, length, get_or, AllPairs, refl, sym, ◌∙◌, ap, subst, arith}
use Rattle.std.specs.List.{swap}
use Rattle.std.specs.List.Sorted.{IsPermutation, IsNonDecreasingBy}
use Rattle.std.proofs.lemmas.Bool.{cases_lt, cases_eq}
use Rattle.std.proofs.lemmas.List.Edits.{swapped_from_swap, length-swap}
use Rattle.std.proofs.lemmas.List.Sorted.{IsPermutation-keeps}
use Rattle.pre_base.specs.declared.numbers.Send.{Send}
use Rattle.pre_plant.specs.Scripts.{ComesBefore}

-- ---- what holds of each two elements, whichever comes first

-- where the element at place m of a list with i and j swapped stood
abbrev Stood : ℕ → ℕ → ℕ → ℕ → Type 0
Stood i j m k = ((m ≡ i) × (k ≡ j)) ⊎ (((m ≡ j) × (k ≡ i)) ⊎ ((m ≢ i) × (m ≢ j) × (k ≡ m)))

places_apart : (i j p q m n : ℕ) → Stood i j p m → Stood i j q n → p < q → m ≢ n
places_apart i j p q m n one two before same =
    elim one [
      | inl a ↦
          elim two [
            | inl b ↦ omega (arith, a.0, b.0, before)
            | inr (inl b) ↦ omega (arith, a.0, a.1, b.0, b.1, before, same)
            | inr (inr b) ↦ b.1 (omega (arith, a.1, b.2, same))
          ]
      | inr (inl a) ↦
          elim two [
            | inl b ↦ omega (arith, a.0, a.1, b.0, b.1, before, same)
            | inr (inl b) ↦ omega (arith, a.0, b.0, before)
            | inr (inr b) ↦ b.0 (omega (arith, a.1, b.2, same))
          ]
      | inr (inr a) ↦
          elim two [
            | inl b ↦ a.1 (omega (arith, a.2, b.1, same))
            | inr (inl b) ↦ a.0 (omega (arith, a.2, b.1, same))
            | inr (inr b) ↦ omega (arith, a.2, b.2, before, same)
          ]
    ]

module _ {X : Type 0} (R : X → X → Type 0) (turn : (x y : X) → R x y → R y x) where
  either_way : (xs : List X) (m n : ℕ) (d : X) → AllPairs R xs → m ≢ n → m < length xs → n < length xs → R (get_or xs m d) (get_or xs n d)
  either_way xs m n d pairs apart m_in n_in =
      elim (cases_lt m n) [
        | inl lt ↦ pairs m n d lt n_in
        | inr le ↦ turn (get_or xs n d) (get_or xs m d) (pairs n m d (omega (arith, le, apart)) m_in)
      ]

  stood : (l : List X) (i j m : ℕ) (d : X) → i < length l → j < length l → m < length l → (k : ℕ) × (k < length l) × (get_or (swap l i j) m d ≡ get_or l k d) × Stood i j m k
  stood l i j m d i_in j_in m_in =
      let swapped = swapped_from_swap l (swap l i j) i j d i_in j_in refl in
      elim (cases_eq m i) [
        | inl at_i ↦ (j, j_in, ap (λ k. get_or (swap l i j) k d) at_i ∙ swapped.0, inl (at_i, refl))
        | inr off_i ↦
            elim (cases_eq m j) [
              | inl at_j ↦ (i, i_in, ap (λ k. get_or (swap l i j) k d) at_j ∙ swapped.1, inr (inl (at_j, refl)))
              | inr off_j ↦ (m, m_in, swapped.2 m off_i off_j, inr (inr (off_i, off_j, refl)))
            ]
      ]

  swapped_pairs : (l : List X) (i j : ℕ) → i < length l → j < length l → AllPairs R l → AllPairs R (swap l i j)
  swapped_pairs l i j i_in j_in pairs p q d before within =
      let long = length-swap l i j in
      let one = stood l i j p d i_in j_in (omega arith) in
      let two = stood l i j q d i_in j_in (omega arith) in
      subst (λ x. R x (get_or (swap l i j) q d)) (sym one.2)
      (subst (λ y. R (get_or l one.0 d) y) (sym two.2)
      (either_way l one.0 two.0 d pairs (places_apart i j p q one.0 two.0 one.3 two.3 before) one.1 two.1))

  pub AllPairs-permutation : (xs ys : List X) → IsPermutation xs ys → AllPairs R xs → AllPairs R ys
  AllPairs-permutation xs ys moved pairs = IsPermutation-keeps xs (AllPairs R) pairs swapped_pairs ys moved

-- ---- by tick, and by row at one tick

abbrev pub TiesRise : List Send → Type 0
TiesRise xs = (k : ℕ) (d : Send) → k + 1 < length xs → (get_or xs k d).tick.0 ≡ (get_or xs (k + 1) d).tick.0 → (get_or xs k d).stream.0 ≤ (get_or xs (k + 1) d).stream.0

module _ (xs : List Send) (rise : IsNonDecreasingBy (λ s. s.tick.0) xs) (ties : TiesRise xs) where
  ties_far : (i j : ℕ) (d : Send) → i ≤ j → j < length xs → (get_or xs i d).tick.0 ≡ (get_or xs j d).tick.0 → (get_or xs i d).stream.0 ≤ (get_or xs j d).stream.0
  ties_far i zero d le within same = let e : i ≡ 0 = omega arith in omega (arith, ap (λ k. (get_or xs k d).stream.0) e)
  ties_far i (suc j) d le within same =
      elim (cases_lt j i) [
        | inl lt ↦ let e : i ≡ suc j = omega arith in omega (arith, ap (λ k. (get_or xs k d).stream.0) e)
        | inr le ↦
            let on : j + 1 ≡ suc j = omega arith in
            let first = rise i j d le (omega arith) in
            let second = rise j (suc j) d (omega arith) within in
            let before = ties_far i j d le (omega arith) (omega (arith, first, second, same)) in
            let last = ties j d (omega arith) (omega (arith, first, second, same, ap (λ k. (get_or xs k d).tick.0) on)) in
            omega (arith, before, last, ap (λ k. (get_or xs k d).stream.0) on)
      ]

  -- where no row sends twice at one tick
  pub in_order : AllPairs (λ a b. a.stream.0 ≡ b.stream.0 → a.tick.0 ≢ b.tick.0) xs → AllPairs ComesBefore xs
  in_order once i j d before within =
      let le = rise i j d (omega arith) within in
      elim (cases_lt (get_or xs i d).tick.0 (get_or xs j d).tick.0) [
        | inl lt ↦ inl lt
        | inr ge ↦
            let same : (get_or xs i d).tick.0 ≡ (get_or xs j d).tick.0 = omega (arith, le, ge) in
            let up = ties_far i j d (omega arith) within same in
            elim (cases_eq (get_or xs i d).stream.0 (get_or xs j d).stream.0) [
              | inl one_row ↦ absurd (once i j d before within one_row same)
              | inr apart ↦ inr (same, omega (arith, up, apart))
            ]
      ]
