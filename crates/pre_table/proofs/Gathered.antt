-- Rows that were read so far, up to the end or the first that can't be.
use Rattle.std.proofs.Common.{◌≡◌, ℕ, zero, suc, ◌<◌, List, [], ◌∷◌, length, map, take, get_or, Option, Some, None, is_none, position, Ok, Err, refl, sym, ◌∙◌, ap, arith}
use Rattle.std.specs.List.{position_or_len}
use Rattle.std.proofs.lemmas.Bool.{le-ltb, lt-ltb}
use Rattle.std.proofs.lemmas.List.{get_or-map, length-map, take-map}
use Rattle.pre_table.specs.Rows.{somes, unless_at}

somes_of : {A : Type 0} (as_ : List A) → somes (map Some as_) ≡ as_
somes_of [] = refl
somes_of (a ∷ as_) = ap (λ l. a ∷ l) (somes_of as_)

module _ {D A : Type 0} (f : D → Option A) where
  all_there : (ds : List D) (as_ : List A) → map f ds ≡ map Some as_ → position_or_len (λ d. is_none (f d)) ds ≡ length ds
  all_there [] as_ same = refl
  all_there (d ∷ ds) [] same = cc
  all_there (d ∷ ds) (a ∷ as_) same =
      let heads : f d ≡ Some a = cc in
      let tails : map f ds ≡ map Some as_ = cc in
      rw heads (omega (arith, all_there ds as_ tails))

  there_before : (ds : List D) (n : ℕ) (as_ : List A) (d : D) → n < length ds → map f (take n ds) ≡ map Some as_ → f (get_or ds n d) ≡ None → position_or_len (λ d. is_none (f d)) ds ≡ n
  there_before [] n as_ d within same none = absurd (omega arith)
  there_before (x ∷ ds) zero as_ d within same none = rw none refl
  there_before (x ∷ ds) (suc n) [] d within same none = cc
  there_before (x ∷ ds) (suc n) (a ∷ as_) d within same none =
      let heads : f x ≡ Some a = cc in
      let tails : map f (take n ds) ≡ map Some as_ = cc in
      rw heads (omega (arith, there_before ds n as_ d (omega arith) tails none))

  pub all_read : (ds : List D) (as_ : List A) → map f ds ≡ map Some as_ → unless_at (position (λ d. is_none (f d)) ds) (somes (map f ds)) ≡ Ok as_
  all_read ds as_ same =
      let none : position (λ d. is_none (f d)) ds ≡ None = rw (all_there ds as_ same) (rw (le-ltb (length ds) (length ds) (omega arith)) refl) in
      rw none (ap (λ l. Ok l) (ap (λ (l : List (Option A)). somes l) same ∙ somes_of as_))

  pub read_until : (ds : List D) (n : ℕ) (as_ : List A) (d : D) → n < length ds → map f (take n ds) ≡ map Some as_ → f (get_or ds n d) ≡ None → unless_at (position (λ d. is_none (f d)) ds) (somes (map f ds)) ≡ Err n
  read_until ds n as_ d within same none =
      let there : position (λ d. is_none (f d)) ds ≡ Some n = rw (there_before ds n as_ d within same none) (rw (lt-ltb n (length ds) within) refl) in
      rw there refl

  -- the same of what values are seen as
  pub read_until_seen : {X : Type 0} (v : X → D) (xs : List X) (n : ℕ) (as_ : List A) (x : X) → n < length xs → x ≡ get_or xs n x → map f (map v (take n xs)) ≡ map Some as_ → f (v x) ≡ None → unless_at (position (λ d. is_none (f d)) (map v xs)) (somes (map f (map v xs))) ≡ Err n
  read_until_seen v xs n as_ x within is same none =
      read_until (map v xs) n as_ (v x) (rw length-map within)
      (rw take-map same)
      (ap f (get_or-map v xs n x (v x) within ∙ ap v (sym is)) ∙ none)
