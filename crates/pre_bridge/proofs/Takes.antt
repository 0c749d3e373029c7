-- What the takes at one tick hand out, one after another.
use Rattle.std.proofs.Common.{◌≡◌, ℕ, zero, suc, ◌<◌, ◌≤◌, ◌⊎◌, inl, inr, ◌&&◌, not, Bool, true, false, cond, eqb, List, [], ◌∷◌}
use Rattle.std.proofs.Common.{◌++◌, length, map, Option, Some, None, refl, sym, ap, ap₂, subst, ◌∙◌, arith, All, drop, replicate, filter, get_or}
use Rattle.std.proofs.Common.{append_assoc, append-nil}
use Rattle.std.specs.Prelude.{find, slice_get, flat_map}
use Rattle.std.specs.Option.{option_map_or}
use Rattle.std.proofs.lemmas.Bool.{eqb-true, eq-eqb, ne_eqb, and_left, and_parts, cases_lt, cases_eq, false≢true}
use Rattle.std.proofs.lemmas.Option.{slice_get_past}
use Rattle.std.proofs.lemmas.List.Elements.{All-nil, All-cons, All-head, All-tail}
use Rattle.std.proofs.lemmas.Grind.{flat_map-append}
use Rattle.pre_topo.specs.declared.network.Network.{Network}
use Rattle.pre_streams.specs.declared.rows.Streams.{Streams}
use Rattle.pre_bridge.specs.declared.ingresses.Ingress.{Ingress}
use Rattle.pre_bridge.specs.declared.relays.Relay.{Relay}
use Rattle.pre_bridge.specs.Inside.{Entry, Call, taken, inside, of_arc, is_due, comes_out, leaving, without_first}
use Rattle.pre_bridge.specs.Relays.{Stands, waiting}
use Rattle.pre_bridge.specs.Turns.{below, dues_of_arc, dues}
use Rattle.pre_bridge.proofs.Lists.{find_none, find_same, all_of_arcs, comes_out_is, is_due_of}
use Rattle.pre_bridge.proofs.Standing.{inside-push}

-- ---- the first one that passes, and the others that pass

passes_first : (p : Entry → Bool) (xs : List Entry) → (find p xs ≡ slice_get (filter p xs) 0) × (filter p (without_first p xs) ≡ drop 1 (filter p xs))
passes_first p [] = (refl, refl)
passes_first p (x ∷ xs) = go (p x) refl (passes_first p xs)
  where
    go : (b : Bool) → p x ≡ b → (find p xs ≡ slice_get (filter p xs) 0) × (filter p (without_first p xs) ≡ drop 1 (filter p xs))
        → (cond b (Some x) (find p xs) ≡ slice_get (cond b (x ∷ filter p xs) (filter p xs)) 0)
        × (filter p (cond b xs (x ∷ without_first p xs)) ≡ drop 1 (cond b (x ∷ filter p xs) (filter p xs)))
    go true is ih = (refl, refl)
    go false is ih = (ih.0, ap (λ b. cond b (x ∷ filter p (without_first p xs)) (filter p (without_first p xs))) is ∙ ih.1)

-- Those that pass another test stay, where the first one doesn't pass it.
others_pass : (p q : Entry → Bool) → ((x : Entry) → p x ≡ true → q x ≡ false) → (xs : List Entry) → filter q (without_first p xs) ≡ filter q xs
others_pass p q apart [] = refl
others_pass p q apart (x ∷ xs) = go (p x) refl (others_pass p q apart xs)
  where
    go : (b : Bool) → p x ≡ b → filter q (without_first p xs) ≡ filter q xs → filter q (cond b xs (x ∷ without_first p xs)) ≡ cond (q x) (x ∷ filter q xs) (filter q xs)
    go true is ih = sym (ap (λ b. cond b (x ∷ filter q xs) (filter q xs)) (apart x is))
    go false is ih = ap (λ l. cond (q x) (x ∷ l) l) ih

all_but_first : (P : Entry → Type 0) (p : Entry → Bool) (xs : List Entry) → All P xs → All P (without_first p xs)
all_but_first P p [] h = h
all_but_first P p (x ∷ xs) h = go (p x) (All-tail P x xs h) (all_but_first P p xs (All-tail P x xs h))
  where
    go : (b : Bool) → All P xs → All P (without_first p xs) → All P (cond b xs (x ∷ without_first p xs))
    go true tail ih = tail
    go false tail ih = All-cons P x (without_first p xs) (All-head P x xs h) ih

none_pass : (p : Entry → Bool) (xs : List Entry) → filter p xs ≡ [] → All (λ x. p x ≡ false) xs
none_pass p [] e = All-nil (λ x. p x ≡ false)
none_pass p (x ∷ xs) e = go (p x) refl e (none_pass p xs)
  where
    go : (b : Bool) → p x ≡ b → cond b (x ∷ filter p xs) (filter p xs) ≡ [] → (filter p xs ≡ [] → All (λ y. p y ≡ false) xs) → All (λ y. p y ≡ false) (x ∷ xs)
    go true is f ih = absurd cc
    go false is f ih = All-cons (λ y. p y ≡ false) x xs is (ih f)

all_pass : (p : Entry → Bool) (xs : List Entry) → All (λ x. p x ≡ true) xs → filter p xs ≡ xs
all_pass p [] h = refl
all_pass p (x ∷ xs) h = ap₂ (λ b l. cond b (x ∷ l) l) (All-head (λ y. p y ≡ true) x xs h) (all_pass p xs (All-tail (λ y. p y ≡ true) x xs h))

-- those due of an arc, by one test
by_one_test : (t j : ℕ) (xs : List Entry) → dues_of_arc t xs j ≡ filter (is_due_of t j) xs
by_one_test t j [] = refl
by_one_test t j (x ∷ xs) = go (eqb x.arc j) (by_one_test t j xs)
  where
    go : (b : Bool) → filter (is_due t) (of_arc j xs) ≡ filter (is_due_of t j) xs
        → filter (is_due t) (cond b (x ∷ of_arc j xs) (of_arc j xs)) ≡ cond (b && is_due t x) (x ∷ filter (is_due_of t j) xs) (filter (is_due_of t j) xs)
    go true ih = ap (λ l. cond (is_due t x) (x ∷ l) l) ih
    go false ih = ih

-- ---- lists of several arcs, one behind another

nothing_joined : (f : ℕ → List Entry) (n : ℕ) → ((a : ℕ) → a < n → f a ≡ []) → flat_map f (below n) ≡ []
nothing_joined f zero none = refl
nothing_joined f (suc n) none =
    flat_map-append f (below n) (n ∷ []) ∙ ap₂ (λ xs ys. xs ++ (ys ++ [])) (nothing_joined f n (λ a lt. none a (omega (arith, lt)))) (none n (omega arith))

same_joined : (f g : ℕ → List Entry) (n : ℕ) → ((a : ℕ) → a < n → f a ≡ g a) → flat_map f (below n) ≡ flat_map g (below n)
same_joined f g zero same = refl
same_joined f g (suc n) same =
    flat_map-append f (below n) (n ∷ []) ∙ ap₂ (λ xs ys. xs ++ (ys ++ [])) (same_joined f g n (λ a lt. same a (omega (arith, lt)))) (same n (omega arith))
    ∙ sym (flat_map-append g (below n) (n ∷ []))

-- The first list that has something loses its first one.
first_joined : (f g : ℕ → List Entry) (m : ℕ) (w : Entry) → f m ≡ w ∷ g m → ((a : ℕ) → a < m → f a ≡ []) → ((a : ℕ) → (a ≡ m → ⊥) → g a ≡ f a)
    → (n : ℕ) → m < n → flat_map f (below n) ≡ w ∷ flat_map g (below n)
first_joined f g m w here none others zero lt = absurd (omega (arith, lt))
first_joined f g m w here none others (suc n) lt = flat_map-append f (below n) (n ∷ []) ∙ by (cases_eq n m) (first_joined f g m w here none others n) ∙ ap (λ l. w ∷ l) (sym (flat_map-append g (below n) (n ∷ [])))
  where
    by : (n ≡ m) ⊎ (n ≡ m → ⊥) → (m < n → flat_map f (below n) ≡ w ∷ flat_map g (below n)) → flat_map f (below n) ++ (f n ++ []) ≡ w ∷ (flat_map g (below n) ++ (g n ++ []))
    by (inl same) ih =
        let before : flat_map f (below n) ≡ [] = nothing_joined f n (λ a less. none a (omega (arith, less, same))) in
        let behind : flat_map g (below n) ≡ [] = nothing_joined g n (λ a less. others a (λ e. omega (arith, less, same, e)) ∙ none a (omega (arith, less, same))) in
        ap₂ (λ xs ys. xs ++ (ys ++ [])) before (ap f same ∙ here ∙ ap (λ a. w ∷ g a) (sym same)) ∙ ap (λ xs. w ∷ (xs ++ (g n ++ []))) (sym behind)
    by (inr ne) ih = ap₂ (λ xs ys. xs ++ (ys ++ [])) (ih (omega (arith, lt, ne))) (sym (others n ne))

-- the first arc that has something
abbrev HasFirst : (ℕ → List Entry) → ℕ → Type 0
HasFirst f n = (m : ℕ) × (w : Entry) × (ws : List Entry) × (m < n) × (f m ≡ w ∷ ws) × ((a : ℕ) → a < m → f a ≡ [])

first_with : (f : ℕ → List Entry) (n : ℕ) → HasFirst f n ⊎ ((a : ℕ) → a < n → f a ≡ [])
first_with f zero = inr (λ a lt. absurd (omega (arith, lt)))
first_with f (suc n) = by (first_with f n)
  where
    at : (o : List Entry) → f n ≡ o → ((a : ℕ) → a < n → f a ≡ []) → HasFirst f (suc n) ⊎ ((a : ℕ) → a < suc n → f a ≡ [])
    at [] is none = inr (λ a lt. each a lt (cases_eq a n))
      where
        each : (a : ℕ) → a < suc n → (a ≡ n) ⊎ (a ≡ n → ⊥) → f a ≡ []
        each a lt (inl same) = ap f same ∙ is
        each a lt (inr ne) = none a (omega (arith, lt, ne))
    at (w ∷ ws) is none = inl (n, w, ws, omega arith, is, none)

    by : HasFirst f n ⊎ ((a : ℕ) → a < n → f a ≡ []) → HasFirst f (suc n) ⊎ ((a : ℕ) → a < suc n → f a ≡ [])
    by (inl (m, w, ws, lt, is, none)) = inl (m, w, ws, omega (arith, lt), is, none)
    by (inr none) = at (f n) refl none

-- ---- one take

abbrev late : ℕ → Entry → Bool
late t entry = not (is_due t entry)

-- What one take hands out is the first of those due, and then the others are due; all that isn't due stays.
record TakesFirst (t n : ℕ) (xs rest : List Entry) : Type 0 where
  first : leaving t xs ≡ slice_get (dues t n xs) 0
  others : dues t n rest ≡ drop 1 (dues t n xs)
  arcs : All (λ (x : Entry). x.arc < n) rest
  stay : filter (late t) rest ≡ filter (late t) xs

-- Nothing is due, and all stays.
none_due : (t n : ℕ) (xs : List Entry) → All (λ (x : Entry). x.arc < n) xs → ((a : ℕ) → a < n → dues_of_arc t xs a ≡ []) → All (λ x. is_due t x ≡ false) xs
none_due t n xs arcs none = λ k d lt. by k d lt (arcs k d lt)
  where
    of_each : All (λ (x : Entry). x.arc < n → is_due t x ≡ false) xs
    of_each = all_of_arcs (λ j x. j < n → is_due t x ≡ false) xs (λ j k d lt less. none_pass (is_due t) (of_arc j xs) (none j less) k d lt)

    by : (k : ℕ) (d : Entry) → k < length xs → (get_or xs k d).arc < n → is_due t (get_or xs k d) ≡ false
    by k d lt less = of_each k d lt less

takes_first : (t n : ℕ) (xs : List Entry) → All (λ (x : Entry). x.arc < n) xs → TakesFirst t n xs (without_first (comes_out t xs) xs)
takes_first t n xs arcs = by (first_with (dues_of_arc t xs) n)
  where
    by : HasFirst (dues_of_arc t xs) n ⊎ ((a : ℕ) → a < n → dues_of_arc t xs a ≡ []) → TakesFirst t n xs (without_first (comes_out t xs) xs)
    by (inr none) =
        let idle = none_due t n xs arcs none in
        let out = find_none (comes_out t xs) xs (λ k d lt. and_left (is_due t (get_or xs k d)) _ (idle k d lt)) in
        let empty : dues t n xs ≡ [] = nothing_joined (dues_of_arc t xs) n none in
        record {
          first = out.0 ∙ sym (ap (λ l. slice_get l 0) empty);
          others = ap (dues t n) out.1 ∙ empty ∙ sym (ap (drop 1) empty);
          arcs = subst (All (λ (x : Entry). x.arc < n)) (sym out.1) arcs;
          stay = ap (filter (late t)) out.1;
        }
    by (inl (m, w, ws, lt, is, none)) =
        let first = passes_first (is_due_of t m) xs in
        let those : filter (is_due_of t m) xs ≡ w ∷ ws = sym (by_one_test t m xs) ∙ is in
        let found : find (is_due_of t m) xs ≡ Some w = first.0 ∙ ap (λ l. slice_get l 0) those in
        let least : All (λ x. is_due t x ≡ true → m ≤ x.arc) xs = all_of_arcs (λ j x. is_due t x ≡ true → m ≤ j) xs (λ j. below_least j (cases_lt j m)) in
        let same = find_same (comes_out t xs) (is_due_of t m) xs (comes_out_is t m xs w found least) in
        let rest : List Entry = without_first (is_due_of t m) xs in
        let here : dues_of_arc t xs m ≡ w ∷ dues_of_arc t rest m = is ∙ ap (λ l. w ∷ l) (sym (by_one_test t m rest ∙ first.1 ∙ ap (drop 1) those)) in
        let joined : dues t n xs ≡ w ∷ dues t n rest = first_joined (dues_of_arc t xs) (dues_of_arc t rest) m w here none (λ a ne. elsewhere a ne) n lt in
        record {
          first = same.0 ∙ found ∙ sym (ap (λ l. slice_get l 0) joined);
          others = ap (dues t n) same.1 ∙ sym (ap (drop 1) joined);
          arcs = all_but_first (λ (x : Entry). x.arc < n) (comes_out t xs) xs arcs;
          stay = others_pass (comes_out t xs) (late t) (λ x out. ap not (and_parts (is_due t x) _ out).0) xs;
        }
      where
        below_least : (j : ℕ) → (j < m) ⊎ (m ≤ j) → All (λ x. is_due t x ≡ true → m ≤ j) (of_arc j xs)
        below_least j (inl less) = λ k d k_in due. absurd (false≢true (sym (none_pass (is_due t) (of_arc j xs) (none j less) k d k_in) ∙ due))
        below_least j (inr more) = λ k d k_in due. more

        elsewhere : (a : ℕ) → (a ≡ m → ⊥) → dues_of_arc t (without_first (is_due_of t m) xs) a ≡ dues_of_arc t xs a
        elsewhere a ne =
            by_one_test t a (without_first (is_due_of t m) xs)
            ∙ others_pass (is_due_of t m) (is_due_of t a) (λ x out. and_left (eqb x.arc a) (is_due t x) (ne_eqb x.arc a (λ e. ne (sym e ∙ eqb-true x.arc m (and_parts (eqb x.arc m) (is_due t x) out).0)))) xs
            ∙ sym (by_one_test t a xs)

-- ---- one take after another

module _ (net : Network) (streams : Streams) (t n : ℕ) where
  one_more : (calls : List Call) → inside net streams (calls ++ taken t ∷ []) ≡ without_first (comes_out t (inside net streams calls)) (inside net streams calls)
  one_more calls = inside-push net streams calls (taken t)

  next_take : (calls : List Call) → All (λ (x : Entry). x.arc < n) (inside net streams calls) → TakesFirst t n (inside net streams calls) (inside net streams (calls ++ taken t ∷ []))
  next_take calls arcs = subst (TakesFirst t n (inside net streams calls)) (sym (one_more calls)) (takes_first t n (inside net streams calls) arcs)

  each_take : (k : ℕ) (calls : List Call) → All (λ (x : Entry). x.arc < n) (inside net streams calls)
      → leaving t (inside net streams (calls ++ replicate k (taken t))) ≡ slice_get (dues t n (inside net streams calls)) k
  each_take zero calls arcs = ap (λ l. leaving t (inside net streams l)) (append-nil calls) ∙ (takes_first t n (inside net streams calls) arcs).first
  each_take (suc k) calls arcs =
      let step = next_take calls arcs in
      ap (λ l. leaving t (inside net streams l)) (sym (append_assoc calls (taken t ∷ []) (replicate k (taken t))))
      ∙ each_take k (calls ++ taken t ∷ []) step.arcs
      ∙ ap (λ l. slice_get l k) step.others
      ∙ behind (dues t n (inside net streams calls)) k
    where
      behind : (xs : List Entry) (i : ℕ) → slice_get (drop 1 xs) i ≡ slice_get xs (suc i)
      behind [] i = refl
      behind (x ∷ xs) i = refl

  none_left : (xs : List Entry) → All (λ (x : Entry). x.arc < n) xs → dues t n xs ≡ [] → xs ≡ filter (late t) xs
  none_left xs arcs empty = sym (all_pass (late t) xs (λ k d lt. ap not (none_due t n xs arcs (λ a less. nothing_of a less (first_with (dues_of_arc t xs) n)) k d lt)))
    where
      nothing_of : (a : ℕ) → a < n → HasFirst (dues_of_arc t xs) n ⊎ ((a : ℕ) → a < n → dues_of_arc t xs a ≡ []) → dues_of_arc t xs a ≡ []
      nothing_of a less (inr none) = none a less
      nothing_of a less (inl (m, w, ws, lt, is, none)) = absurd (some (flat_map others (below n)) (sym empty ∙ joined))
        where
          others : ℕ → List Entry
          others b = cond (eqb b m) ws (dues_of_arc t xs b)

          some : (l : List Entry) → [] ≡ w ∷ l → ⊥
          some l e = cc

          joined : dues t n xs ≡ w ∷ flat_map others (below n)
          joined = first_joined (dues_of_arc t xs) others m w (is ∙ ap (λ b. w ∷ cond b ws (dues_of_arc t xs m)) (sym (eq-eqb m m refl))) none (λ b ne. ap (λ c. cond c ws (dues_of_arc t xs b)) (ne_eqb b m ne)) n lt

  left_after : (count : ℕ) (calls : List Call) → All (λ (x : Entry). x.arc < n) (inside net streams calls) → length (dues t n (inside net streams calls)) ≡ count
      → inside net streams (calls ++ replicate count (taken t)) ≡ filter (late t) (inside net streams calls)
  left_after zero calls arcs e = ap (inside net streams) (append-nil calls) ∙ none_left (inside net streams calls) arcs (nil_of (dues t n (inside net streams calls)) e)
    where
      nil_of : (xs : List Entry) → length xs ≡ 0 → xs ≡ []
      nil_of [] f = refl
      nil_of (x ∷ xs) f = absurd (omega (arith, f))
  left_after (suc count) calls arcs e =
      let step = next_take calls arcs in
      ap (inside net streams) (sym (append_assoc calls (taken t ∷ []) (replicate count (taken t))))
      ∙ left_after count (calls ++ taken t ∷ []) step.arcs (ap length step.others ∙ shorter (dues t n (inside net streams calls)) e)
      ∙ step.stay
    where
      shorter : (xs : List Entry) → length xs ≡ suc count → length (drop 1 xs) ≡ count
      shorter [] f = absurd (omega (arith, f))
      shorter (x ∷ xs) f = omega (arith, f)

-- ---- of a relay

-- what is inside arrived by arcs of the network
arcs_inside : (relay : Relay) (net : Network) (streams : Streams) (calls : List Call) → Stands relay net streams calls → All (λ (x : Entry). x.arc < length net.arcs) (inside net streams calls)
arcs_inside relay net streams calls s = all_of_arcs (λ j x. j < length net.arcs) (inside net streams calls) (λ j. by j (cases_lt j (length net.arcs)))
  where
    nothing : (xs : List Entry) → map waiting xs ≡ [] → xs ≡ []
    nothing [] e = refl
    nothing (x ∷ xs) e = absurd cc

    by : (j : ℕ) → (j < length net.arcs) ⊎ (length net.arcs ≤ j) → All (λ x. j < length net.arcs) (of_arc j (inside net streams calls))
    by j (inl less) = λ k d lt. less
    by j (inr more) =
        let none : slice_get relay.ingresses.items j ≡ None = slice_get_past relay.ingresses.items j (omega (arith, more, s.count)) in
        let empty : of_arc j (inside net streams calls) ≡ [] = nothing (of_arc j (inside net streams calls)) (s.queues j ∙ ap (λ (o : Option Ingress). option_map_or (λ (i : Ingress). i.queue.items) o []) none) in
        subst (All (λ x. j < length net.arcs)) (sym empty) (All-nil (λ x. j < length net.arcs))

pub each : (relay : Relay) (net : Network) (streams : Streams) (calls : List Call) (t k : ℕ) → Stands relay net streams calls
    → leaving t (inside net streams (calls ++ replicate k (taken t))) ≡ slice_get (dues t (length net.arcs) (inside net streams calls)) k
each relay net streams calls t k s = each_take net streams t (length net.arcs) k calls (arcs_inside relay net streams calls s)

pub left : (relay : Relay) (net : Network) (streams : Streams) (calls : List Call) (t : ℕ) → Stands relay net streams calls
    → inside net streams (calls ++ replicate (length (dues t (length net.arcs) (inside net streams calls))) (taken t)) ≡ filter (λ entry. not (is_due t entry)) (inside net streams calls)
left relay net streams calls t s = left_after net streams t (length net.arcs) (length (dues t (length net.arcs) (inside net streams calls))) calls (arcs_inside relay net streams calls s) refl
