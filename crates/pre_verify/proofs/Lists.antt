-- Lists of verifies and of responds.
use Rattle.std.proofs.Common.{◌≡◌, ℕ, suc, ◌<◌, ◌≤◌, ◌⊎◌, inl, inr, ◌&&◌, ◌||◌, Bool, true, false, cond, leb, ltb}
use Rattle.std.proofs.Common.{List, [], ◌∷◌, ◌++◌, length, Some, refl, ap, ap₂, ◌∙◌, arith}
use Rattle.std.specs.Prelude.{option_map}
use Rattle.std.specs.List.{list_any}
use Rattle.std.proofs.lemmas.Bool.{le-leb, lt-leb, le-ltb, cases_lt, and_left, and_right}
use Rattle.std.proofs.lemmas.List.{nil_from_length}
use Rattle.std.proofs.lemmas.List.Folds.{list_any-append}
use Rattle.pre_lldp.specs.LinkState.{Verify, verifies_since, last_verify, is_answered}
use Rattle.pre_verify.specs.Calls.{end_last}

pub or_false : (b : Bool) → (b || false) ≡ b
or_false true = refl
or_false false = refl

pub any_same : {X : Type 0} (p q : X → Bool) (xs : List X) → ((x : X) → p x ≡ q x) → list_any p xs ≡ list_any q xs
any_same p q [] h = refl
any_same p q (x ∷ xs) h = ap₂ (λ a b. a || b) (h x) (any_same p q xs h)

pub any_either : {X : Type 0} (p q : X → Bool) (xs : List X) → list_any (λ x. p x || q x) xs ≡ (list_any p xs || list_any q xs)
any_either p q [] = refl
any_either p q (x ∷ xs) = ap (λ b. (p x || q x) || b) (any_either p q xs) ∙ swapped (p x) (q x) (list_any p xs) (list_any q xs)
  where
    swapped : (a b c d : Bool) → ((a || b) || (c || d)) ≡ ((a || c) || (b || d))
    swapped true b c d = refl
    swapped false true true d = refl
    swapped false true false d = refl
    swapped false false c d = refl

-- ---- responds

between : (t r : ℕ) → (ltb t r && leb r t) ≡ false
between t r = go (cases_lt t r)
  where
    go : (t < r) ⊎ (r ≤ t) → (ltb t r && leb r t) ≡ false
    go (inl h) = and_right (ltb t r) (leb r t) (lt-leb r t h)
    go (inr h) = and_left (ltb t r) (leb r t) (le-ltb t r h)

pub unanswered : (responds : List ℕ) (t : ℕ) → is_answered responds t t ≡ false
unanswered [] t = refl
unanswered (r ∷ responds) t = ap (λ b. b || is_answered responds t t) (between t r) ∙ unanswered responds t

pub answered-push : (responds : List ℕ) (r t began : ℕ) → is_answered (responds ++ r ∷ []) t began ≡ (is_answered responds t began || (ltb began r && leb r t))
answered-push responds r t began =
    list_any-append (λ s. ltb began s && leb s t) responds (r ∷ []) ∙ ap (λ b. is_answered responds t began || b) (or_false (ltb began r && leb r t))

-- ---- verifies from a tick on

pub none_since : (u : ℕ) (q : Verify → Bool) (verifies : List Verify) → verifies_since u verifies ≡ [] → list_any (λ x. leb u x.began && q x) verifies ≡ false
none_since u q [] e = refl
none_since u q (x ∷ verifies) e = go (leb u x.began) e (none_since u q verifies)
  where
    go : (b : Bool) → cond b (x ∷ verifies_since u verifies) (verifies_since u verifies) ≡ [] → (verifies_since u verifies ≡ [] → list_any (λ y. leb u y.began && q y) verifies ≡ false)
        → ((b && q x) || list_any (λ y. leb u y.began && q y) verifies) ≡ false
    go true e further = absurd cc
    go false e further = further e

pub last_verify-push : (verifies : List Verify) (x : Verify) → last_verify (verifies ++ x ∷ []) ≡ Some x
last_verify-push [] x = refl
last_verify-push (first ∷ []) x = refl
last_verify-push (first ∷ second ∷ more) x = last_verify-push (second ∷ more) x

last_behind : (v : Verify) (verifies : List Verify) (x : Verify) → last_verify verifies ≡ Some x → last_verify (v ∷ verifies) ≡ Some x
last_behind v [] x e = absurd cc
last_behind v (y ∷ verifies) x e = e

-- the last verify of all is the last of those from a tick on, where it began there
pub last_since : (u : ℕ) (verifies : List Verify) (x : Verify) → last_verify verifies ≡ Some x → u ≤ x.began → last_verify (verifies_since u verifies) ≡ Some x
last_since u [] x e h = absurd cc
last_since u (v ∷ []) x e h =
    let same : v ≡ x = cc in
    ap (λ b. last_verify (cond b (v ∷ []) [])) (le-leb u v.began (omega (arith, ap (λ (y : Verify). y.began) same, h))) ∙ e
last_since u (v ∷ w ∷ more) x e h = go (leb u v.began) (last_since u (w ∷ more) x e h)
  where
    go : (b : Bool) → last_verify (verifies_since u (w ∷ more)) ≡ Some x → last_verify (cond b (v ∷ verifies_since u (w ∷ more)) (verifies_since u (w ∷ more))) ≡ Some x
    go true f = last_behind v (verifies_since u (w ∷ more)) x f
    go false f = f

-- ---- the last one ends

pub any-end_last : (p : ℕ → Bool) (t : ℕ) (verifies : List Verify) → list_any (λ x. p x.began) (end_last t verifies) ≡ list_any (λ x. p x.began) verifies
any-end_last p t [] = refl
any-end_last p t (v ∷ []) = refl
any-end_last p t (v ∷ w ∷ more) = ap (λ b. p v.began || b) (any-end_last p t (w ∷ more))

pub length-end_last : (u t : ℕ) (verifies : List Verify) → length (verifies_since u (end_last t verifies)) ≡ length (verifies_since u verifies)
length-end_last u t [] = refl
length-end_last u t (v ∷ []) = go (leb u v.began)
  where
    go : (b : Bool) → length (cond b (record v { ended = Some t } ∷ []) []) ≡ length (cond b (v ∷ []) [])
    go true = refl
    go false = refl
length-end_last u t (v ∷ w ∷ more) = go (leb u v.began) (length-end_last u t (w ∷ more))
  where
    go : (b : Bool) → length (verifies_since u (end_last t (w ∷ more))) ≡ length (verifies_since u (w ∷ more))
        → length (cond b (v ∷ verifies_since u (end_last t (w ∷ more))) (verifies_since u (end_last t (w ∷ more)))) ≡ length (cond b (v ∷ verifies_since u (w ∷ more)) (verifies_since u (w ∷ more)))
    go true e = ap suc e
    go false e = e

pub none-end_last : (u t : ℕ) (verifies : List Verify) → verifies_since u verifies ≡ [] → verifies_since u (end_last t verifies) ≡ []
none-end_last u t verifies e = nil_from_length (verifies_since u (end_last t verifies)) (length-end_last u t verifies ∙ ap length e)

pub last-end_last : (t : ℕ) (verifies : List Verify) → last_verify (end_last t verifies) ≡ option_map (λ (x : Verify). record x { ended = Some t }) (last_verify verifies)
last-end_last t [] = refl
last-end_last t (v ∷ []) = refl
last-end_last t (v ∷ w ∷ []) = refl
last-end_last t (v ∷ w ∷ z ∷ more) = last-end_last t (w ∷ z ∷ more)
