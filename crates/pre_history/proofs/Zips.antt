-- Lists that are alike element by element, and lists with more behind.
use Rattle.std.proofs.Common.{ℕ, suc, ◌≡◌, ◌&&◌, not, Bool, true, false, List, [], ◌∷◌, ◌++◌, length, refl, sym, ◌∙◌, ap, inl, inr, arith, Some, map, filter}
use Rattle.std.specs.Prelude.{◌↔◌, if◌then◌else◌, slice_get, Any, All}
use Rattle.std.specs.List.{AllZip, list_any, AllByRecursion as Every}
use Rattle.pre_history.specs.Selected.{from_last}
use Rattle.pre_history.proofs.Lists.{any_at, found_at, at_front}
use Rattle.pre_history.proofs.LaterEnds.{split_at}

pub zip_map : {X Y Z : Type 0} (R : Y → Z → Type 0) (f : X → Y) (g : X → Z) → ((x : X) → R (f x) (g x)) → (xs : List X) → AllZip R (map f xs) (map g xs)
zip_map R f g like [] = tt
zip_map R f g like (x ∷ xs) = (like x, zip_map R f g like xs)

pub zip_maps : {X Y U V : Type 0} (R : X → Y → Type 0) (S : U → V → Type 0) (f : X → U) (g : Y → V) → ((x : X) (y : Y) → R x y → S (f x) (g y)) → (xs : List X) (ys : List Y) → AllZip R xs ys → AllZip S (map f xs) (map g ys)
zip_maps R S f g like [] [] z = tt
zip_maps R S f g like [] (y ∷ ys) z = absurd z
zip_maps R S f g like (x ∷ xs) [] z = absurd z
zip_maps R S f g like (x ∷ xs) (y ∷ ys) (here, more) = (like x y here, zip_maps R S f g like xs ys more)

pub zip_filter : {X : Type 0} (R : X → X → Type 0) (test : X → Bool) → ((x y : X) → R x y → test x ≡ test y) → (xs ys : List X) → AllZip R xs ys → AllZip R (filter test xs) (filter test ys)
zip_filter R test same [] [] z = tt
zip_filter R test same [] (y ∷ ys) z = absurd z
zip_filter R test same (x ∷ xs) [] z = absurd z
zip_filter {X} R test same (x ∷ xs) (y ∷ ys) (here, more) = go (test x) (test y) (same x y here) (zip_filter R test same xs ys more)
  where
    go : (b c : Bool) → b ≡ c → AllZip R (filter test xs) (filter test ys) → AllZip R (if b then x ∷ filter test xs else filter test xs) (if c then y ∷ filter test ys else filter test ys)
    go true true e rest = (here, rest)
    go true false e rest = absurd (cc e)
    go false true e rest = absurd (cc e)
    go false false e rest = rest

pub zip_any : {X : Type 0} (R : X → X → Type 0) (test : X → Bool) → ((x y : X) → R x y → test x ≡ test y) → (xs ys : List X) → AllZip R xs ys → list_any test xs ≡ list_any test ys
zip_any R test same [] [] z = refl
zip_any R test same [] (y ∷ ys) z = absurd z
zip_any R test same (x ∷ xs) [] z = absurd z
zip_any R test same (x ∷ xs) (y ∷ ys) (here, more) = cc (same x y here, zip_any R test same xs ys more)

pub zip_from_last : {X : Type 0} (R : X → X → Type 0) (test : X → Bool) → ((x y : X) → R x y → test x ≡ test y) → (xs ys : List X) → AllZip R xs ys → AllZip R (from_last test xs) (from_last test ys)
zip_from_last R test same [] [] z = tt
zip_from_last R test same [] (y ∷ ys) z = absurd z
zip_from_last R test same (x ∷ xs) [] z = absurd z
zip_from_last {X} R test same (x ∷ xs) (y ∷ ys) (here, more) =
    go (test x && not (list_any test xs)) (test y && not (list_any test ys)) (cc (same x y here, zip_any R test same xs ys more)) (zip_from_last R test same xs ys more)
  where
    go : (b c : Bool) → b ≡ c → AllZip R (from_last test xs) (from_last test ys) → AllZip R (if b then x ∷ xs else from_last test xs) (if c then y ∷ ys else from_last test ys)
    go true true e rest = (here, more)
    go true false e rest = absurd (cc e)
    go false true e rest = absurd (cc e)
    go false false e rest = rest

pub zip_length : {X : Type 0} (R : X → X → Type 0) (xs ys : List X) → AllZip R xs ys → length xs ≡ length ys
zip_length R [] [] z = refl
zip_length R [] (y ∷ ys) z = absurd z
zip_length R (x ∷ xs) [] z = absurd z
zip_length R (x ∷ xs) (y ∷ ys) (here, more) = ap suc (zip_length R xs ys more)

-- alike lists are one where the elements of one of them tell so
pub zip_left : {X : Type 0} (R : X → X → Type 0) (P : X → Type 0) → ((x y : X) → R x y → P x → x ≡ y) → (xs ys : List X) → AllZip R xs ys → Every P xs → xs ≡ ys
zip_left R P same [] [] z p = refl
zip_left R P same [] (y ∷ ys) z p = absurd z
zip_left R P same (x ∷ xs) [] z p = absurd z
zip_left R P same (x ∷ xs) (y ∷ ys) (here, more) (p, ps) = cc (same x y here p, zip_left R P same xs ys more ps)

pub zip_right : {X : Type 0} (R : X → X → Type 0) (P : X → Type 0) → ((x y : X) → R x y → P y → x ≡ y) → (xs ys : List X) → AllZip R xs ys → Every P ys → xs ≡ ys
zip_right R P same [] [] z p = refl
zip_right R P same [] (y ∷ ys) z p = absurd z
zip_right R P same (x ∷ xs) [] z p = absurd z
zip_right R P same (x ∷ xs) (y ∷ ys) (here, more) (p, ps) = cc (same x y here p, zip_right R P same xs ys more ps)

pub every_of_all : {X : Type 0} (P : X → Type 0) (xs : List X) → All P xs → Every P xs
every_of_all P [] all = tt
every_of_all P (x ∷ xs) all = (all 0 x (omega arith), every_of_all P xs (λ k d lt. all (suc k) d (omega (arith, lt))))

-- some element, where more stands behind
pub any_stays : {X : Type 0} (P : X → Type 0) (zs xs ys : List X) → zs ≡ xs ++ ys → ((j : ℕ) (x : X) → slice_get ys j ≡ Some x → ¬ P x) → Any P zs ↔ Any P xs
any_stays P zs xs ys is none = (from, to)
  where
    from : Any P zs → Any P xs
    from (k, x, lt, here, p) = elim (split_at xs ys k x (ap (λ l. slice_get l k) (sym is) ∙ found_at zs k x lt here)) [
      | inl old ↦ any_at P xs k x old p
      | inr new ↦ absurd (none new.0 x new.1 p)
    ]

    to : Any P xs → Any P zs
    to (k, x, lt, here, p) = any_at P zs k x (ap (λ l. slice_get l k) is ∙ at_front xs ys k x (found_at xs k x lt here)) p
