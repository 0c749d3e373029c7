-- The elements of an array, and each of them read.
use Rattle.std.proofs.Common.{◌≡◌, ℕ, zero, suc, ◌<◌, List, [], ◌∷◌, length, map, take, get_or, Option, Some, None, option_map}
use Rattle.std.proofs.Common.{option_and_then, refl, sym, ◌∙◌, ap, arith, set, ◌+◌}
use Rattle.std.proofs.lemmas.List.{get_or-map, length-map, map_push, take_more, take_more_set}
use Rattle.toml.specs.Data.{Data}
use Rattle.toml.specs.View.{items_of}
use Rattle.pre_table.specs.Values.{items_in, each_read}

pub items_in-of : (ds : List Data) → items_in (items_of ds) ≡ ds
items_in-of [] = refl
items_in-of (d ∷ ds) = ap (λ l. d ∷ l) (items_in-of ds)

none_behind : {A : Type 0} (o : Option A) (rest : Option (List A)) → rest ≡ None → option_and_then (λ a. option_map (λ as_. a ∷ as_) rest) o ≡ None
none_behind None rest none = refl
none_behind (Some a) rest none = rw none refl

-- one more element is read into its place
pub filled : {X D A : Type 0} (read : D → Option A) (v : X → D) (xs : List X) (ys : List A) (n : ℕ) (x : X) (y : A) → n < length xs → n < length ys → x ≡ get_or xs n x → read (v x) ≡ Some y → map read (map v (take n xs)) ≡ map Some (take n ys) → map read (map v (take (n + 1) xs)) ≡ map Some (take (n + 1) (set ys n y))
filled read v xs ys n x y within room is one same =
    rw (take_more xs n x within, take_more_set ys n y room, map_push v (take n xs) (get_or xs n x), map_push read (map v (take n xs)) (v (get_or xs n x)), map_push (λ a. Some a) (take n ys) y, same, ← is, one) refl

module _ {A : Type 0} (read : Data → Option A) where
  pub each_is : (ds : List Data) (as_ : List A) → map read ds ≡ map Some as_ → each_read read ds ≡ Some as_
  each_is [] [] same = refl
  each_is [] (a ∷ as_) same = cc
  each_is (d ∷ ds) [] same = cc
  each_is (d ∷ ds) (a ∷ as_) same =
      let heads : read d ≡ Some a = cc in
      let tails : map read ds ≡ map Some as_ = cc in
      rw (heads, each_is ds as_ tails) refl

  pub one_fails : (ds : List Data) (n : ℕ) (d : Data) → n < length ds → read (get_or ds n d) ≡ None → each_read read ds ≡ None
  one_fails [] n d within none = absurd (omega arith)
  one_fails (x ∷ ds) zero d within none = rw none refl
  one_fails (x ∷ ds) (suc n) d within none = none_behind (read x) (each_read read ds) (one_fails ds n d (omega arith) none)

  -- the same of what values are seen as
  pub each_seen : {X : Type 0} (v : X → Data) (xs : List X) (as_ : List A) → map read (map v xs) ≡ map Some as_ → each_read read (map v xs) ≡ Some as_
  each_seen v xs as_ same = each_is (map v xs) as_ same

  pub one_unseen : {X : Type 0} (v : X → Data) (xs : List X) (n : ℕ) (x : X) → n < length xs → x ≡ get_or xs n x → read (v x) ≡ None → each_read read (map v xs) ≡ None
  one_unseen v xs n x within is none =
      one_fails (map v xs) n (v x) (rw length-map within) (ap read (get_or-map v xs n x (v x) within ∙ ap v (sym is)) ∙ none)
