-- Which entries arrived by an arc, and which of them comes out.
use Rattle.std.proofs.Common.{◌≡◌, ℕ, ◌<◌, ◌≤◌, ◌⊎◌, inl, inr, ◌&&◌, ◌||◌, not, Bool, true, false, cond, leb, eqb}
use Rattle.std.proofs.Common.{List, [], ◌∷◌, Option, Some, None, refl, sym, ap, ap₂, ◌∙◌, arith, All, drop, get_or}
use Rattle.std.specs.Prelude.{find, slice_get}
use Rattle.std.specs.List.{list_all}
use Rattle.std.proofs.lemmas.Bool.{le-leb, lt-leb, eq-eqb, ne_eqb, eqb-true, cases_eq, and_left, and_right, and_parts, false≢true}
use Rattle.std.proofs.lemmas.List.Elements.{All-nil, All-cons, All-head, All-tail}
use Rattle.pre_bridge.specs.Inside.{Entry, of_arc, is_due, comes_out, without_first}

-- ---- tests on lists

pub all_true : (f : Entry → Bool) (xs : List Entry) → All (λ x. f x ≡ true) xs → list_all f xs ≡ true
all_true f [] h = refl
all_true f (x ∷ xs) h = ap₂ (λ a b. a && b) (All-head (λ y. f y ≡ true) x xs h) (all_true f xs (All-tail (λ y. f y ≡ true) x xs h))

pub find_none : (p : Entry → Bool) (xs : List Entry) → All (λ x. p x ≡ false) xs → (find p xs ≡ None) × (without_first p xs ≡ xs)
find_none p [] h = (refl, refl)
find_none p (x ∷ xs) h = go (p x) (All-head (λ y. p y ≡ false) x xs h) (find_none p xs (All-tail (λ y. p y ≡ false) x xs h))
  where
    go : (b : Bool) → b ≡ false → (find p xs ≡ None) × (without_first p xs ≡ xs) → (cond b (Some x) (find p xs) ≡ None) × (cond b xs (x ∷ without_first p xs) ≡ x ∷ xs)
    go true e ih = absurd (false≢true (sym e))
    go false e ih = (ih.0, ap (λ l. x ∷ l) ih.1)

pub find_same : (p q : Entry → Bool) (xs : List Entry) → All (λ x. p x ≡ q x) xs → (find p xs ≡ find q xs) × (without_first p xs ≡ without_first q xs)
find_same p q [] h = (refl, refl)
find_same p q (x ∷ xs) h =
    let here = All-head (λ y. p y ≡ q y) x xs h in
    let ih = find_same p q xs (All-tail (λ y. p y ≡ q y) x xs h) in
    (ap₂ (λ b o. cond b (Some x) o) here ih.0, ap₂ (λ b l. cond b xs (x ∷ l)) here ih.1)

-- ---- the entries of an arc

-- what holds of those of each arc holds of all
pub all_of_arcs : (P : ℕ → Entry → Type 0) (xs : List Entry) → ((j : ℕ) → All (P j) (of_arc j xs)) → All (λ x. P x.arc x) xs
all_of_arcs P [] h = All-nil (λ (x : Entry). P x.arc x)
all_of_arcs P (x ∷ xs) h = All-cons (λ (y : Entry). P y.arc y) x xs (here (eqb x.arc x.arc) (eq-eqb x.arc x.arc refl) (h x.arc)) (all_of_arcs P xs (λ j. further (eqb x.arc j) j (h j)))
  where
    here : (b : Bool) → b ≡ true → All (P x.arc) (cond b (x ∷ of_arc x.arc xs) (of_arc x.arc xs)) → P x.arc x
    here true e a = All-head (P x.arc) x (of_arc x.arc xs) a
    here false e a = absurd (false≢true e)

    further : (b : Bool) (j : ℕ) → All (P j) (cond b (x ∷ of_arc j xs) (of_arc j xs)) → All (P j) (of_arc j xs)
    further true j a = All-tail (P j) x (of_arc j xs) a
    further false j a = a

-- the oldest one of an arc
abbrev pub oldest : ℕ → List Entry → Option Entry
oldest j xs = slice_get (of_arc j xs) 0

-- what fails at one that is found doesn't hold of all
pub not_all : (f p : Entry → Bool) (xs : List Entry) (w : Entry) → find p xs ≡ Some w → f w ≡ false → list_all f xs ≡ false
not_all f p [] w e h = absurd cc
not_all f p (x ∷ xs) w e h = go (p x) e (λ o. not_all f p xs w o h)
  where
    go : (b : Bool) → cond b (Some x) (find p xs) ≡ Some w → (find p xs ≡ Some w → list_all f xs ≡ false) → (f x && list_all f xs) ≡ false
    go true o ih = let same : x ≡ w = cc in and_left (f x) (list_all f xs) (ap f same ∙ h)
    go false o ih = and_right (f x) (list_all f xs) (ih o)

-- what is found passes
pub found_passes : (p : Entry → Bool) (xs : List Entry) (w : Entry) → find p xs ≡ Some w → p w ≡ true
found_passes p [] w e = absurd cc
found_passes p (x ∷ xs) w e = go (p x) refl e (found_passes p xs w)
  where
    go : (b : Bool) → p x ≡ b → cond b (Some x) (find p xs) ≡ Some w → (find p xs ≡ Some w → p w ≡ true) → p w ≡ true
    go true is o ih = let same : x ≡ w = cc in ap p (sym same) ∙ is
    go false is o ih = ih o

-- ---- what comes out

-- of an arc, and due
abbrev pub is_due_of : ℕ → ℕ → Entry → Bool
is_due_of t j entry = eqb entry.arc j && is_due t entry

-- Where the oldest one of an arc is due, it is the first due one of that arc, and the others of that arc stay.
pub first_due : (t j : ℕ) (xs : List Entry) (w : Entry) → oldest j xs ≡ Some w → is_due t w ≡ true
    → (find (is_due_of t j) xs ≡ Some w) × (of_arc j (without_first (is_due_of t j) xs) ≡ drop 1 (of_arc j xs))
first_due t j [] w e h = absurd cc
first_due t j (x ∷ xs) w e h = go (eqb x.arc j) (is_due t x) refl (ap (is_due t)) e (λ o. first_due t j xs w o h)
  where
    go : (b d : Bool) → eqb x.arc j ≡ b → (x ≡ w → d ≡ is_due t w) → slice_get (cond b (x ∷ of_arc j xs) (of_arc j xs)) 0 ≡ Some w
        → (oldest j xs ≡ Some w → (find (is_due_of t j) xs ≡ Some w) × (of_arc j (without_first (is_due_of t j) xs) ≡ drop 1 (of_arc j xs)))
        → (cond (b && d) (Some x) (find (is_due_of t j) xs) ≡ Some w) × (of_arc j (cond (b && d) xs (x ∷ without_first (is_due_of t j) xs)) ≡ drop 1 (cond b (x ∷ of_arc j xs) (of_arc j xs)))
    go true true is due o ih = (o, refl)
    go true false is due o ih = let same : x ≡ w = cc in absurd (false≢true (due same ∙ h))
    go false d is due o ih =
        let further = ih o in
        (further.0, ap (λ b. cond b (x ∷ of_arc j (without_first (is_due_of t j) xs)) (of_arc j (without_first (is_due_of t j) xs))) is ∙ further.1)

-- those of the other arcs stay
pub others_stay : (t j i : ℕ) (xs : List Entry) → (i ≡ j → ⊥) → of_arc i (without_first (is_due_of t j) xs) ≡ of_arc i xs
others_stay t j i [] ne = refl
others_stay t j i (x ∷ xs) ne = go (eqb x.arc j) (is_due t x) refl (others_stay t j i xs ne)
  where
    go : (b d : Bool) → eqb x.arc j ≡ b → of_arc i (without_first (is_due_of t j) xs) ≡ of_arc i xs
        → of_arc i (cond (b && d) xs (x ∷ without_first (is_due_of t j) xs)) ≡ cond (eqb x.arc i) (x ∷ of_arc i xs) (of_arc i xs)
    go true true is ih = ap (λ b. cond b (x ∷ of_arc i xs) (of_arc i xs)) (sym (ne_eqb x.arc i (λ e. ne (sym e ∙ eqb-true x.arc j is))))
    go true false is ih = ap (λ l. cond (eqb x.arc i) (x ∷ l) l) ih
    go false d is ih = ap (λ l. cond (eqb x.arc i) (x ∷ l) l) ih

-- Where one of an arc is due and nothing due is of a lesser arc, what comes out is of that arc and due.
pub comes_out_is : (t j : ℕ) (xs : List Entry) (w : Entry) → find (is_due_of t j) xs ≡ Some w → All (λ x. is_due t x ≡ true → j ≤ x.arc) xs
    → All (λ x. comes_out t xs x ≡ is_due_of t j x) xs
comes_out_is t j xs w found least = λ k d lt. each (get_or xs k d) (is_due t (get_or xs k d)) refl (least k d lt)
  where
    passes : (w.arc ≡ j) × (is_due t w ≡ true)
    passes = let p = and_parts (eqb w.arc j) (is_due t w) (found_passes (is_due_of t j) xs w found) in (eqb-true w.arc j p.0, p.1)

    later : (a : ℕ) → All (λ x. is_due t x ≡ true → a ≤ x.arc) xs → list_all (λ x. not (is_due t x) || leb a x.arc) xs ≡ true
    later a from = all_true (λ x. not (is_due t x) || leb a x.arc) xs (λ k d lt. by (is_due t (get_or xs k d)) (get_or xs k d).arc (from k d lt))
      where
        by : (b : Bool) (n : ℕ) → (b ≡ true → a ≤ n) → (not b || leb a n) ≡ true
        by true n h = le-leb a n (h refl)
        by false n h = refl

    earlier : (a : ℕ) → j < a → list_all (λ x. not (is_due t x) || leb a x.arc) xs ≡ false
    earlier a lt = not_all (λ x. not (is_due t x) || leb a x.arc) (is_due_of t j) xs w found (ap₂ (λ b n. not b || leb a n) passes.1 passes.0 ∙ lt-leb a j lt)

    each : (x : Entry) (b : Bool) → is_due t x ≡ b → (is_due t x ≡ true → j ≤ x.arc) → comes_out t xs x ≡ is_due_of t j x
    each x false is from = and_left (is_due t x) (list_all (λ y. not (is_due t y) || leb x.arc y.arc) xs) is ∙ sym (and_right (eqb x.arc j) (is_due t x) is)
    each x true is from = ap (λ b. b && list_all (λ y. not (is_due t y) || leb x.arc y.arc) xs) is ∙ by_arc (cases_eq x.arc j) ∙ ap (λ b. eqb x.arc j && b) (sym is)
      where
        by_arc : (x.arc ≡ j) ⊎ (x.arc ≡ j → ⊥) → list_all (λ y. not (is_due t y) || leb x.arc y.arc) xs ≡ (eqb x.arc j && true)
        by_arc (inl e) = ap (λ a. list_all (λ y. not (is_due t y) || leb a y.arc) xs) e ∙ later j least ∙ sym (ap (λ b. b && true) (eq-eqb x.arc j e))
        by_arc (inr ne) = earlier x.arc (omega (arith, from is, ne)) ∙ sym (ap (λ b. b && true) (ne_eqb x.arc j ne))
