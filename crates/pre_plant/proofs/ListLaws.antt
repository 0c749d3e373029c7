-- Lists of what stands at each number from 0 on.
use Rattle.std.proofs.Common.{◌≡◌, ℕ, zero, suc, ◌+◌, ◌<◌, List, [], ◌∷◌, ◌++◌, length, get_or, All, AllPairs, refl, sym, ◌∙◌, ap, subst, arith, append_assoc}
use Rattle.std.specs.List.{flat_map, range_with_len}
use Rattle.std.proofs.lemmas.List.{append-nil}
use Rattle.std.proofs.lemmas.List.Elements.{All-append, All-nil}
use Rattle.std.proofs.lemmas.List.Kept.{AllPairs-cons}
use Rattle.std.proofs.lemmas.List.FromFn.{length-map-range_with_len, get_or-map-range_with_len, map-range_with_len_more}
use Rattle.pre_plant.specs.Lists.{list_of, joined_of}

module _ {X : Type 0} where
  pub list_of_none : (f : ℕ → X) → list_of 0 f ≡ []
  unfolding list_of
  list_of_none f = refl

  pub list_of_more : (f : ℕ → X) (n : ℕ) → list_of (n + 1) f ≡ list_of n f ++ f n ∷ []
  unfolding list_of
  list_of_more f n = map-range_with_len_more f 0 n n (omega arith)

  -- the same behind other items, as a loop puts them there
  pub list_behind_none : (f : ℕ → X) (xs : List X) → xs ++ list_of 0 f ≡ xs
  list_behind_none f xs = ap (λ ys. xs ++ ys) (list_of_none f) ∙ append-nil xs

  pub list_behind_more : (f : ℕ → X) (xs : List X) (n : ℕ) → xs ++ list_of (n + 1) f ≡ (xs ++ list_of n f) ++ f n ∷ []
  list_behind_more f xs n = ap (λ ys. xs ++ ys) (list_of_more f n) ∙ sym (append_assoc xs (list_of n f) (f n ∷ []))

  pub length-list_of : (f : ℕ → X) (n : ℕ) → length (list_of n f) ≡ n
  unfolding list_of
  length-list_of f n = length-map-range_with_len f 0 n

  pub get_or-list_of : (f : ℕ → X) (n i : ℕ) (d : X) → i < n → get_or (list_of n f) i d ≡ f i
  unfolding list_of
  get_or-list_of f n i d lt = get_or-map-range_with_len f 0 n i i d lt (omega arith)

  pub joined_of_none : (f : ℕ → List X) → joined_of 0 f ≡ []
  unfolding joined_of
  joined_of_none f = refl

  joined_from : (f : ℕ → List X) (a n j : ℕ) → a + n ≡ j → flat_map f (range_with_len a (suc n)) ≡ flat_map f (range_with_len a n) ++ f j
  joined_from f a zero j e = append-nil (f a) ∙ ap f (omega arith)
  joined_from f a (suc n) j e = ap (λ ys. f a ++ ys) (joined_from f (a + 1) n j (omega arith)) ∙ sym (append_assoc (f a) (flat_map f (range_with_len (a + 1) n)) (f j))

  pub joined_of_more : (f : ℕ → List X) (n : ℕ) → joined_of (n + 1) f ≡ joined_of n f ++ f n
  unfolding joined_of
  joined_of_more f n = let on : n + 1 ≡ suc n = omega arith in ap (λ m. flat_map f (range_with_len 0 m)) on ∙ joined_from f 0 n n (omega arith)

  pub joined_behind_none : (f : ℕ → List X) (xs : List X) → xs ++ joined_of 0 f ≡ xs
  joined_behind_none f xs = ap (λ ys. xs ++ ys) (joined_of_none f) ∙ append-nil xs

  pub joined_behind_more : (f : ℕ → List X) (xs : List X) (n : ℕ) → xs ++ joined_of (n + 1) f ≡ (xs ++ joined_of n f) ++ f n
  joined_behind_more f xs n = ap (λ ys. xs ++ ys) (joined_of_more f n) ∙ sym (append_assoc xs (joined_of n f) (f n))

  pub All-list_of : (P : X → Type 0) (f : ℕ → X) (n : ℕ) → ((i : ℕ) → i < n → P (f i)) → All P (list_of n f)
  All-list_of P f n h k d within = subst P (sym (get_or-list_of f n k d (omega (arith, length-list_of f n)))) (h k (omega (arith, length-list_of f n)))

  pub All-joined_of : (P : X → Type 0) (f : ℕ → List X) (n : ℕ) → ((i : ℕ) → i < n → All P (f i)) → All P (joined_of n f)
  All-joined_of P f zero h = subst (All P) (sym (joined_of_none f)) (All-nil P)
  All-joined_of P f (suc n) h =
      let on : n + 1 ≡ suc n = omega arith in
      subst (λ m. All P (joined_of m f)) on (subst (All P) (sym (joined_of_more f n)) (All-append P (joined_of n f) (f n) (All-joined_of P f n (λ i lt. h i (omega arith))) (h n (omega arith))))

  pub AllPairs-append : (R : X → X → Type 0) (xs ys : List X) → AllPairs R xs → AllPairs R ys → All (λ x. All (R x) ys) xs → AllPairs R (xs ++ ys)
  AllPairs-append R [] ys one two across = two
  AllPairs-append R (x ∷ xs) ys one two across =
      AllPairs-cons R x (xs ++ ys)
      (All-append (R x) xs ys (λ k d within. one zero (suc k) d (omega arith) (omega arith)) (across zero x (omega arith)))
      (AllPairs-append R xs ys (λ i j d lt within. one (suc i) (suc j) d (omega arith) (omega arith)) two (λ k d within. across (suc k) d (omega arith)))

  pub AllPairs-list_of : (R : X → X → Type 0) (f : ℕ → X) (n : ℕ) → ((i j : ℕ) → i < j → j < n → R (f i) (f j)) → AllPairs R (list_of n f)
  AllPairs-list_of R f n h i j d lt within =
      let long = length-list_of f n in
      subst (λ x. R x (get_or (list_of n f) j d)) (sym (get_or-list_of f n i d (omega arith))) (subst (R (f i)) (sym (get_or-list_of f n j d (omega arith))) (h i j lt (omega arith)))

  pub AllPairs-joined_of : (R : X → X → Type 0) (f : ℕ → List X) (n : ℕ) → ((i : ℕ) → i < n → AllPairs R (f i)) → ((i j : ℕ) → i < j → j < n → All (λ x. All (R x) (f j)) (f i))
      → AllPairs R (joined_of n f)
  AllPairs-joined_of R f zero each across = subst (AllPairs R) (sym (joined_of_none f)) (λ i j d lt within. absurd (omega arith))
  AllPairs-joined_of R f (suc n) each across =
      let on : n + 1 ≡ suc n = omega arith in
      subst (λ m. AllPairs R (joined_of m f)) on
      (subst (AllPairs R) (sym (joined_of_more f n))
      (AllPairs-append R (joined_of n f) (f n)
      (AllPairs-joined_of R f n (λ i lt. each i (omega arith)) (λ i j lt within. across i j lt (omega arith)))
      (each n (omega arith))
      (All-joined_of (λ x. All (R x) (f n)) f n (λ i lt. across i n lt (omega arith)))))
