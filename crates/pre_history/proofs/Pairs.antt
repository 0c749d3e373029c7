-- Facts of each two elements of a list: over appended lists, lists in a row and selections.
use Rattle.std.proofs.Common.{ℕ, suc, ◌≡◌, ◌<◌, List, [], ◌∷◌, ◌++◌, refl, arith, Option, Some, None, filter_map}
use Rattle.std.specs.Prelude.{slice_get, flat_map, AllPairs}
use Rattle.std.specs.List.{AllByRecursion as Every, cons_option}
use Rattle.std.proofs.lemmas.List.Kept.{AllPairs-cons}
use Rattle.std.proofs.lemmas.List.Elements.{All-from_recursion}
use Rattle.pre_history.proofs.Lists.{every-append, every_placed, every_selected, every_at}

-- R holds of each element and each later one
abbrev pub Pairs : {X : Type 0} → (X → X → Type 0) → List X → Type 0
Pairs R [] = Unit {0}
Pairs R (x ∷ xs) = Every (R x) xs × Pairs R xs

pub all_pairs : {X : Type 0} (R : X → X → Type 0) (xs : List X) → Pairs R xs → AllPairs R xs
all_pairs R [] p = λ i j d lt within. absurd (omega (arith, within))
all_pairs R (x ∷ xs) (here, more) = AllPairs-cons R x xs (All-from_recursion (R x) xs here) (all_pairs R xs more)

pub pairs-append : {X : Type 0} (R : X → X → Type 0) (xs ys : List X) → Pairs R xs → Pairs R ys → Every (λ x. Every (R x) ys) xs → Pairs R (xs ++ ys)
pairs-append R [] ys p q across = q
pairs-append R (x ∷ xs) ys (here, more) q (first, others) = (every-append (R x) xs ys here first, pairs-append R xs ys more q others)

-- lists in a row
pub every_flat : {X Y : Type 0} (P : Y → Type 0) (Q : X → Type 0) (g : X → List Y) → ((x : X) → Q x → Every P (g x)) → (xs : List X) → Every Q xs → Every P (flat_map g xs)
every_flat P Q g says [] q = tt
every_flat P Q g says (x ∷ xs) (here, more) = every-append P (g x) (flat_map g xs) (says x here) (every_flat P Q g says xs more)

pub pairs_flat : {X Y : Type 0} (R : Y → Y → Type 0) (Q : X → Type 0) (S : X → X → Type 0) (g : X → List Y) → ((x : X) → Q x → Pairs R (g x))
    → ((x z : X) → Q x → Q z → S x z → Every (λ y. Every (R y) (g z)) (g x)) → (xs : List X) → Every Q xs → Pairs S xs → Pairs R (flat_map g xs)
pairs_flat R Q S g within across [] q s = tt
pairs_flat {X} {Y} R Q S g within across (x ∷ xs) (here, more) (first, others) =
    pairs-append R (g x) (flat_map g xs) (within x here) (pairs_flat R Q S g within across xs more others) (every_placed (λ y. Every (R y) (flat_map g xs)) (g x) (λ i y at. go i y at xs more first))
  where
    go : (i : ℕ) (y : Y) → slice_get (g x) i ≡ Some y → (zs : List X) → Every Q zs → Every (S x) zs → Every (R y) (flat_map g zs)
    go i y at [] q s = tt
    go i y at (z ∷ zs) (qz, qs) (sz, ss) = every-append (R y) (g z) (flat_map g zs) (every_at (λ y. Every (R y) (g z)) (g x) i y (across x z here qz sz) at) (go i y at zs qs ss)

-- a selection
pub pairs_selected : {X Y : Type 0} (sel : X → Option Y) (R : Y → Y → Type 0) (xs : List X)
    → ((i j : ℕ) (x z : X) (y v : Y) → i < j → slice_get xs i ≡ Some x → slice_get xs j ≡ Some z → sel x ≡ Some y → sel z ≡ Some v → R y v) → Pairs R (filter_map sel xs)
pairs_selected sel R [] says = tt
pairs_selected {X} {Y} sel R (x ∷ xs) says = go (sel x) refl (pairs_selected sel R xs (λ i j a b y v lt at at' is is'. says (suc i) (suc j) a b y v (omega (arith, lt)) at at' is is'))
  where
    go : (o : Option Y) → sel x ≡ o → Pairs R (filter_map sel xs) → Pairs R (cons_option o (filter_map sel xs))
    go None is more = more
    go (Some y) is more = (
      every_selected sel (λ z. (v : Y) → sel z ≡ Some v → R y v) (R y) (λ z v here is'. here v is') xs
          (every_placed (λ z. (v : Y) → sel z ≡ Some v → R y v) xs (λ j z at v is'. says 0 (suc j) x z y v (omega arith) refl at is is')),
      more,
    )
