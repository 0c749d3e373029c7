-- The first place in a list that passes a test, and the first row that breaks a rule which doesn't depend on its place.
use Rattle.std.proofs.Common.{◌≡◌, ℕ, zero, suc, ◌<◌, ◌≤◌, Bool, true, false, cond, nat_lt, List, [], ◌∷◌, ◌++◌}
use Rattle.std.proofs.Common.{length, get_or, take, Option, Some, None, refl, sym, ◌∙◌, ap, arith, slice_get, unwrap_or, option_map}
use Rattle.std.proofs.Common.{position}
use Rattle.std.specs.List.{find, position_or_len}
use Rattle.std.specs.Option.{option_or}
use Rattle.std.proofs.lemmas.List.Sums.{position_or_len_is}
use Rattle.std.proofs.lemmas.Bool.{lt-ltb, ltb-true}

-- the first place that passes
abbrev pub place_in : {X : Type 0} → (X → Bool) → List X → Option ℕ
place_in p [] = None
place_in p (x ∷ xs) = cond (p x) (Some 0) (option_map suc (place_in p xs))

one_later : (a : Option ℕ) (b : Bool) (n : ℕ) → option_map suc (option_or a (cond b (Some n) None)) ≡ option_or (option_map suc a) (cond b (Some (suc n)) None)
one_later (Some k) b n = refl
one_later None true n = refl
one_later None false n = refl

later_or : (a : Option ℕ) (n : ℕ) → unwrap_or (option_map suc a) (suc n) ≡ suc (unwrap_or a n)
later_or (Some k) n = refl
later_or None n = refl

module _ {X : Type 0} (p : X → Bool) where
  pushed_behind : (x : X) (xs : List X) (y : X) → place_in p (xs ++ y ∷ []) ≡ option_or (place_in p xs) (cond (p y) (Some (length xs)) None) → (b : Bool) → p x ≡ b →
      place_in p (x ∷ xs ++ y ∷ []) ≡ option_or (place_in p (x ∷ xs)) (cond (p y) (Some (suc (length xs))) None)
  pushed_behind x xs y further true is = rw is refl
  pushed_behind x xs y further false is = rw is (ap (option_map suc) further ∙ one_later (place_in p xs) (p y) (length xs))

  -- one more at the end
  pub place_pushed : (xs : List X) (y : X) → place_in p (xs ++ y ∷ []) ≡ option_or (place_in p xs) (cond (p y) (Some (length xs)) None)
  place_pushed [] y = refl
  place_pushed (x ∷ xs) y = pushed_behind x xs y (place_pushed xs y) (p x) refl

  found_behind : (x : X) (xs : List X) (j : ℕ) → find p xs ≡ slice_get xs (unwrap_or (place_in p (take j xs)) j) → (b : Bool) → p x ≡ b →
      find p (x ∷ xs) ≡ slice_get (x ∷ xs) (unwrap_or (place_in p (take (suc j) (x ∷ xs))) (suc j))
  found_behind x xs j further true is = rw is refl
  found_behind x xs j further false is = rw is (further ∙ ap (slice_get (x ∷ xs)) (sym (later_or (place_in p (take j xs)) j)))

  -- what is found is at that place, or the next one where that passes
  pub found_at : (xs : List X) (i : ℕ) (d : X) → i < length xs → p (get_or xs i d) ≡ true → find p xs ≡ slice_get xs (unwrap_or (place_in p (take i xs)) i)
  found_at [] i d within passes = absurd (omega (arith, within))
  found_at (x ∷ xs) zero d within passes = rw passes refl
  found_at (x ∷ xs) (suc j) d within passes = found_behind x xs j (found_at xs j d (omega (arith, within)) passes) (p x) refl

not_true : (b : Bool) → (b ≡ true → ⊥) → b ≡ false
not_true true h = absurd (h refl)
not_true false h = refl

module _ {X : Type 0} (p : X → Bool) (rows : List X) (i : ℕ) (d : X) (none : (k : ℕ) (e : X) → k < i → p (get_or rows k e) ≡ false) where
  place_is : i ≤ length rows → (i < length rows → p (get_or rows i d) ≡ true) → position_or_len p rows ≡ i
  place_is within last = position_or_len_is p rows i d within (λ k less. none k d less) last

  -- the first that passes
  pub position_at : i < length rows → p (get_or rows i d) ≡ true → position p rows ≡ Some i
  position_at within last =
      ap (λ n. cond (nat_lt n (length rows)) (Some n) None) (place_is (omega arith) (λ less. last))
      ∙ ap (λ b. cond b (Some i) None) (lt-ltb i (length rows) within)

  none_there : i ≡ length rows → position p rows ≡ None
  none_there end =
      ap (λ n. cond (nat_lt n (length rows)) (Some n) None) (place_is (omega arith) (λ less. absurd (omega (arith, end, less))))
      ∙ ap (λ b. cond b (Some i) None) (not_true (nat_lt i (length rows)) (λ t. omega (arith, end, ltb-true i (length rows) t)))

-- none passes
pub position_none : {X : Type 0} (p : X → Bool) (rows : List X) (i : ℕ) → ((k : ℕ) (e : X) → k < i → p (get_or rows k e) ≡ false) → i ≡ length rows → position p rows ≡ None
position_none p [] i none end = refl
position_none p (r ∷ rows) i none end = none_there p (r ∷ rows) i r none end
