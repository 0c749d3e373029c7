-- Lists of numbers that rise, and look-ups by keys whose numbers rise.
use Rattle.std.proofs.Common.{◌≡◌, ℕ, zero, suc, ◌+◌, ◌*◌, ◌<◌, ◌≤◌, Bool, true, cond, List, [], ◌∷◌, ◌++◌}
use Rattle.std.proofs.Common.{Some, refl, sym, ◌∙◌, ap, subst, arith, inl, inr, map}
use Rattle.std.specs.Prelude.{slice_get, filter}
use Rattle.std.specs.List.{enumerate_from, flat_map, range_with_len, find}
use Rattle.std.proofs.lemmas.Bool.{cases_Bool}
use Rattle.std.proofs.lemmas.List.{map-append}
use Rattle.pre_check.proofs.Lists.{from_filter, from_map, at_map, from_append, from_flat_map, from_enumerate}

abbrev pub AllAbove : ℕ → List ℕ → Type 0
AllAbove x ys = (i y : ℕ) → slice_get ys i ≡ Some y → x < y

abbrev pub Rise : List ℕ → Type 0
Rise [] = Unit {0}
Rise (x ∷ xs) = AllAbove x xs × Rise xs

pub range_bounds : (a n i y : ℕ) → slice_get (range_with_len a n) i ≡ Some y → (a ≤ y) × (y < a + n)
range_bounds a zero i y e = absurd (cc)
range_bounds a (suc n) zero y e = let same : a ≡ y = cc in (omega (arith, same), omega (arith, same))
range_bounds a (suc n) (suc i) y e = let rest = range_bounds (a + 1) n i y e in (omega (arith, rest.0), omega (arith, rest.1))

pub rise_range : (a n : ℕ) → Rise (range_with_len a n)
rise_range a zero = tt
rise_range a (suc n) = (λ i y e. let bounds = range_bounds (a + 1) n i y e in omega (arith, bounds.0), rise_range (a + 1) n)

pub rise_filter : (p : ℕ → Bool) (xs : List ℕ) → Rise xs → Rise (filter p xs)
rise_filter p [] r = tt
rise_filter p (x ∷ xs) r =
    elim (cases_Bool (p x)) [
      | inl passes ↦ subst (λ b. Rise (cond b (x ∷ filter p xs) (filter p xs))) (sym passes) ((λ i y e. let at = (from_filter p xs i y e).1 in r.0 at.0 y at.1), rise_filter p xs r.1)
      | inr fails ↦ subst (λ b. Rise (cond b (x ∷ filter p xs) (filter p xs))) (sym fails) (rise_filter p xs r.1)
    ]

pub rise_numbered : {X : Type 0} (p : X → Bool) (n : ℕ) (xs : List X) → Rise (map (λ e. e.0) (filter (λ e. p e.1) (enumerate_from n xs)))
rise_numbered {X} p n [] = tt
rise_numbered {X} p n (x ∷ xs) =
    let kept = filter (λ (e : ℕ × X). p e.1) (enumerate_from (n + 1) xs) in
    let first : ℕ × X = (n, x) in
    let rest = rise_numbered p (n + 1) xs in
    let above : AllAbove n (map (λ (e : ℕ × X). e.0) kept) =
    λ i y e.
    let made = from_map (λ (z : ℕ × X). z.0) kept i y e in
    let at = (from_filter (λ (z : ℕ × X). p z.1) (enumerate_from (n + 1) xs) i made.0 made.1).1 in
    let number = (from_enumerate (n + 1) xs at.0 made.0 at.1).1 in
    let same = made.2 in
    omega (arith, number, same)
    in
    elim (cases_Bool (p x)) [
      | inl passes ↦ subst (λ b. Rise (map (λ (e : ℕ × X). e.0) (cond b (first ∷ kept) kept))) (sym passes) (above, rest)
      | inr fails ↦ subst (λ b. Rise (map (λ (e : ℕ × X). e.0) (cond b (first ∷ kept) kept))) (sym fails) rest
    ]

rise_append : (xs ys : List ℕ) → Rise xs → Rise ys → ((i j x y : ℕ) → slice_get xs i ≡ Some x → slice_get ys j ≡ Some y → x < y) → Rise (xs ++ ys)
rise_append [] ys r s h = s
rise_append (x ∷ xs) ys r s h = (
  λ i y e.
      elim (from_append xs ys i y e) [
        | inl in_first ↦ r.0 in_first.0 y in_first.1
        | inr in_second ↦ h 0 in_second.0 x y refl in_second.1
      ],
  rise_append xs ys r.1 s (λ i j a b p q. h (suc i) j a b p q),
)

-- a stream and a hop as one number
abbrev pub hop_code : ℕ × ℕ → ℕ
hop_code e = e.0 * 65536 + e.1

block_codes : (s a n : ℕ) → Rise (map hop_code (map (λ (hop : ℕ). (s, hop)) (range_with_len a n)))
block_codes s a zero = tt
block_codes s a (suc n) = (
  λ i y e.
      let code = from_map hop_code (map (λ (hop : ℕ). (s, hop)) (range_with_len (a + 1) n)) i y e in
      let made = from_map (λ (hop : ℕ). (s, hop)) (range_with_len (a + 1) n) i code.0 code.1 in
      let bounds = range_bounds (a + 1) n i made.0 made.1 in
      let same : hop_code (s, made.0) ≡ y = ap hop_code made.2 ∙ code.2 in
      omega (arith, same, bounds.0),
  block_codes s (a + 1) n,
)

pub rise_hops : {X : Type 0} (long : X → ℕ) (es : List (ℕ × X)) → Rise (map (λ e. e.0) es) → ((i : ℕ) (e : ℕ × X) → slice_get es i ≡ Some e → long e.1 ≤ 65536)
    → Rise (map hop_code (flat_map (λ e. map (λ (hop : ℕ). (e.0, hop)) (range_with_len 0 (long e.1))) es))
rise_hops long [] r h = tt
rise_hops {X} long (e ∷ es) r h =
    let hops : ℕ × X → List (ℕ × ℕ) = λ z. map (λ (hop : ℕ). (z.0, hop)) (range_with_len 0 (long z.1)) in
    let short = h 0 e refl in
    subst Rise (sym (map-append hop_code (hops e) (flat_map hops es)))
    (rise_append (map hop_code (hops e)) (map hop_code (flat_map hops es)) (block_codes e.0 0 (long e.1)) (rise_hops long es r.1 (λ i z at. h (suc i) z at))
    (λ i j x y p q.
    let code = from_map hop_code (hops e) i x p in
    let made = from_map (λ (hop : ℕ). (e.0, hop)) (range_with_len 0 (long e.1)) i code.0 code.1 in
    let bounds = range_bounds 0 (long e.1) i made.0 made.1 in
    let left : hop_code (e.0, made.0) ≡ x = ap hop_code made.2 ∙ code.2 in
    let other = from_map hop_code (flat_map hops es) j y q in
    let block = from_flat_map hops es j other.0 other.1 in
    let place = from_map (λ (hop : ℕ). (block.0.0, hop)) (range_with_len 0 (long block.0.1)) block.2.0 other.0 block.2.1 in
    let right : hop_code (block.0.0, place.0) ≡ y = ap hop_code place.2 ∙ other.2 in
    let later = r.0 block.1.0 block.0.0 (at_map (λ (z : ℕ × X). z.0) es block.1.0 block.0 block.1.1) in
    omega (arith, left, right, later, bounds.1, short)))

-- the only row of its key is the one that is found
pub found_one : {R : Type 0} (code : R → ℕ) (test : R → Bool) (xs : List R) (i : ℕ) (r : R) → Rise (map code xs) → slice_get xs i ≡ Some r → test r ≡ true → ((x : R) → test x ≡ true → code x ≡ code r) → find test xs ≡ Some r
found_one code test [] i r rise e on same = absurd (cc)
found_one code test (x ∷ xs) zero r rise e on same = let here : x ≡ r = cc in let passes : test x ≡ true = ap test here ∙ on in rw passes (ap (λ z. Some z) here)
found_one code test (x ∷ xs) (suc i) r rise e on same =
    elim (cases_Bool (test x)) [
      | inl passes ↦
          let equal = same x passes in
          let less = rise.0 i (code r) (at_map code xs i r e) in
          absurd (omega (arith, equal, less))
      | inr fails ↦ rw fails (found_one code test xs i r rise.1 e on same)
    ]

-- rows that are made from their keys
pub from_keys : {A R : Type 0} (key : R → A) (f : A → R) (xs : List R) → ((i : ℕ) (r : R) → slice_get xs i ≡ Some r → f (key r) ≡ r) → xs ≡ map f (map key xs)
from_keys key f [] h = refl
from_keys key f (x ∷ xs) h = ap (λ y. y ∷ xs) (sym (h 0 x refl)) ∙ ap (λ l. f (key x) ∷ l) (from_keys key f xs (λ i r e. h (suc i) r e))

pub map_twice : {A B C : Type 0} (g : B → C) (f : A → B) (h : A → C) → ((x : A) → g (f x) ≡ h x) → (xs : List A) → map g (map f xs) ≡ map h xs
map_twice g f h same [] = refl
map_twice g f h same (x ∷ xs) = ap (λ y. y ∷ map g (map f xs)) (same x) ∙ ap (λ l. h x ∷ l) (map_twice g f h same xs)
