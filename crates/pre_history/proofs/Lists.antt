-- Elements of lists by their places, and of selections.
use Rattle.std.proofs.Common.{ℕ, zero, suc, ◌≡◌, ◌⊎◌, ◌<◌, Bool, true, false, List, [], ◌∷◌, ◌++◌, length, refl, ap}
use Rattle.std.proofs.Common.{inl, inr, arith, subst, Option, Some, None, filter, filter_map, ◌∙◌}
use Rattle.std.specs.Prelude.{if◌then◌else◌, slice_get, slice_index_or, Any}
use Rattle.std.specs.List.{AllByRecursion as Every, cons_option}

pub at_end : {X : Type 0} (xs : List X) (x y : X) (i : ℕ) → slice_get (xs ++ x ∷ []) i ≡ Some y → (slice_get xs i ≡ Some y) ⊎ ((i ≡ length xs) × (x ≡ y))
at_end [] x y zero at = inr (refl, cc at)
at_end [] x y (suc i) at = absurd (cc at)
at_end (z ∷ xs) x y zero at = inl at
at_end (z ∷ xs) x y (suc i) at = elim (at_end xs x y i at) [ inl here ↦ inl here | inr last' ↦ inr (ap suc last'.0, last'.1) ]

pub there : {X : Type 0} (xs : List X) (i : ℕ) → i < length xs → (x : X) × (slice_get xs i ≡ Some x)
there [] i lt = absurd (omega (arith, lt))
there (x ∷ xs) zero lt = (x, refl)
there (x ∷ xs) (suc i) lt = there xs i (omega (arith, lt))

pub within : {X : Type 0} (xs : List X) (i : ℕ) (x : X) → slice_get xs i ≡ Some x → i < length xs
within [] i x at = absurd (cc at)
within (y ∷ xs) zero x at = omega arith
within (y ∷ xs) (suc i) x at = let lt : i < length xs = within xs i x at in omega (arith, lt)

pub at_front : {X : Type 0} (xs ys : List X) (i : ℕ) (x : X) → slice_get xs i ≡ Some x → slice_get (xs ++ ys) i ≡ Some x
at_front [] ys i x at = absurd (cc at)
at_front (z ∷ xs) ys zero x at = at
at_front (z ∷ xs) ys (suc i) x at = at_front xs ys i x at

pub at_last : {X : Type 0} (xs : List X) (x : X) → slice_get (xs ++ x ∷ []) (length xs) ≡ Some x
at_last [] x = refl
at_last (y ∷ xs) x = at_last xs x

pub one_at : {X : Type 0} (xs : List X) (i : ℕ) (x y : X) → slice_get xs i ≡ Some x → slice_get xs i ≡ Some y → x ≡ y
one_at xs i x y p q = cc (p, q)

pub read_at : {X : Type 0} (xs : List X) (i : ℕ) (x : X) → slice_get xs i ≡ Some x → slice_index_or xs i x ≡ x
read_at [] i x at = absurd (cc at)
read_at (y ∷ xs) zero x at = cc at
read_at (y ∷ xs) (suc i) x at = read_at xs i x at

pub found_at : {X : Type 0} (xs : List X) (i : ℕ) (x : X) → i < length xs → slice_index_or xs i x ≡ x → slice_get xs i ≡ Some x
found_at [] i x lt is = absurd (omega (arith, lt))
found_at (y ∷ xs) zero x lt is = ap Some is
found_at (y ∷ xs) (suc i) x lt is = found_at xs i x (omega (arith, lt)) is

pub any_at : {X : Type 0} (P : X → Type 0) (xs : List X) (i : ℕ) (x : X) → slice_get xs i ≡ Some x → P x → Any P xs
any_at P xs i x at p = (i, x, within xs i x at, read_at xs i x at, p)

pub every-append : {X : Type 0} (P : X → Type 0) (xs ys : List X) → Every P xs → Every P ys → Every P (xs ++ ys)
every-append P [] ys p q = q
every-append P (x ∷ xs) ys (here, more) q = (here, every-append P xs ys more q)

pub every_weaker : {X : Type 0} (P Q : X → Type 0) → ((x : X) → P x → Q x) → (xs : List X) → Every P xs → Every Q xs
every_weaker P Q weak [] p = tt
every_weaker P Q weak (x ∷ xs) (here, more) = (weak x here, every_weaker P Q weak xs more)

pub every_at : {X : Type 0} (P : X → Type 0) (xs : List X) (i : ℕ) (x : X) → Every P xs → slice_get xs i ≡ Some x → P x
every_at P [] i x p at = absurd (cc at)
every_at P (y ∷ xs) zero x (here, more) at = subst P (cc at) here
every_at P (y ∷ xs) (suc i) x (here, more) at = every_at P xs i x more at

pub every_placed : {X : Type 0} (P : X → Type 0) (xs : List X) → ((i : ℕ) (x : X) → slice_get xs i ≡ Some x → P x) → Every P xs
every_placed P [] says = tt
every_placed P (x ∷ xs) says = (says 0 x refl, every_placed P xs (λ i y at. says (suc i) y at))

-- what is selected of events with a property
pub every_selected : {X Y : Type 0} (sel : X → Option Y) (P : X → Type 0) (Q : Y → Type 0) → ((x : X) (y : Y) → P x → sel x ≡ Some y → Q y) → (xs : List X) → Every P xs → Every Q (filter_map sel xs)
every_selected sel P Q says [] p = tt
every_selected {X} {Y} sel P Q says (x ∷ xs) (here, more) = go (sel x) refl (every_selected sel P Q says xs more)
  where
    go : (o : Option Y) → sel x ≡ o → Every Q (filter_map sel xs) → Every Q (cons_option o (filter_map sel xs))
    go None is rest = rest
    go (Some y) is rest = (says x y here is, rest)

-- nothing is selected of these
pub none_selected : {X Y : Type 0} (sel : X → Option Y) (xs : List X) → Every (λ x. sel x ≡ None) xs → filter_map sel xs ≡ []
none_selected sel [] p = refl
none_selected sel (x ∷ xs) (here, more) = rw here (none_selected sel xs more)

pub no_append : {X : Type 0} (xs ys : List X) → ys ≡ [] → xs ++ ys ≡ xs
no_append [] ys none = none
no_append (x ∷ xs) ys none = ap (λ zs. x ∷ zs) (no_append xs ys none)

pub filter_nil : {X : Type 0} (test : X → Bool) (xs : List X) → Every (λ x. test x ≡ false) xs → filter test xs ≡ []
filter_nil test [] none = refl
filter_nil test (x ∷ xs) (here, more) = rw here (filter_nil test xs more)

pub every_filter : {X : Type 0} (P : X → Type 0) (test : X → Bool) (xs : List X) → Every P xs → Every P (filter test xs)
every_filter P test [] p = tt
every_filter P test (x ∷ xs) (here, more) = go (test x) (every_filter P test xs more)
  where
    go : (b : Bool) → Every P (filter test xs) → Every P (if b then x ∷ filter test xs else filter test xs)
    go true rest = (here, rest)
    go false rest = rest

-- what is selected of an element stands somewhere
pub in_selected : {X Y : Type 0} (sel : X → Option Y) (xs : List X) (i : ℕ) (x : X) (y : Y) → slice_get xs i ≡ Some x → sel x ≡ Some y → (k : ℕ) × (slice_get (filter_map sel xs) k ≡ Some y)
in_selected sel [] i x y at is = absurd (cc at)
in_selected sel (z ∷ xs) zero x y at is = let same : z ≡ x = cc at in let here : sel z ≡ Some y = ap sel same ∙ is in (0, rw here refl)
in_selected {X} {Y} sel (z ∷ xs) (suc i) x y at is = go (sel z) (in_selected sel xs i x y at is)
  where
    go : (o : Option Y) → (k : ℕ) × (slice_get (filter_map sel xs) k ≡ Some y) → (k : ℕ) × (slice_get (cons_option o (filter_map sel xs)) k ≡ Some y)
    go None found = found
    go (Some v) found = (suc found.0, found.1)
