-- The computed state of a link is the state that conditions on ticks give.
use Rattle.std.proofs.Common.{◌≡◌, ℕ, zero, suc, ◌+◌, ◌<◌, ◌≤◌, ◌⊎◌, inl, inr, ◌&&◌, not, Bool, true, false, cond}
use Rattle.std.proofs.Common.{leb, ltb, List, length, Option, Some, None, refl, sym, ap, subst, ◌∙◌, arith}
use Rattle.std.specs.Prelude.{Any, unwrap_or, MatchOption}
use Rattle.std.specs.Option.{option_map_or}
use Rattle.std.proofs.lemmas.Bool.{leb-true, ltb-true, le-leb, lt-ltb, and_parts, and_from, cases_lt, both_ways, not-true, not_from_false, false_from_ne_true}
use Rattle.std.proofs.lemmas.List.Folds.{Any-from_list_any, list_any-from_Any}
use Rattle.pre_lldp.specs.LinkState.{Verify, GoodFrom, GoodSince, Verified, verifies_since, last_verify, IsOver, VerifyWanted, run_start}
use Rattle.pre_lldp.specs.LinkState.{is_answered, is_verified_since, is_verified, is_over, is_wanted_since, is_verify_wanted, AtTrue}

any_map : {X : Type 0} (P Q : X → Type 0) (xs : List X) → ((x : X) → P x → Q x) → Any P xs → Any Q xs
any_map P Q xs f a = (a.0, a.1, a.2, a.3, f a.1 a.4)

-- ---- the run

no_run : (good : ℕ → Bool) (t : ℕ) → run_start good t ≡ None → good t ≡ false
no_run good zero e = go (good 0) e
  where
    go : (b : Bool) → cond {A = Option ℕ} b (Some 0) None ≡ None → b ≡ false
    go true e = absurd cc
    go false e = refl
no_run good (suc t) e = go (good (suc t)) (unwrap_or (run_start good t) (suc t)) e
  where
    go : (b : Bool) (u : ℕ) → cond b (Some u) None ≡ None → b ≡ false
    go true u e = absurd cc
    go false u e = refl

some_run : (b : Bool) (u v : ℕ) → cond b (Some u) None ≡ Some v → (b ≡ true) × (u ≡ v)
some_run true u v e = (refl, cc)
some_run false u v e = absurd cc

shorter : (good : ℕ → Bool) (v t : ℕ) → GoodFrom (AtTrue good) v (suc t) → v ≤ t → GoodFrom (AtTrue good) v t
shorter good v t h le = (le, λ i a b. h.1 i a (omega arith))

at_once : (good : ℕ → Bool) (t : ℕ) → good t ≡ true → GoodFrom (AtTrue good) t t
at_once good t h = (omega arith, λ i a b. ap good (omega arith) ∙ h)

longer : (good : ℕ → Bool) (v t : ℕ) → GoodFrom (AtTrue good) v t → good (suc t) ≡ true → GoodFrom (AtTrue good) v (suc t)
longer good v t h e = (omega (arith, h.0), λ i a b. at i a (cases_lt i (suc t)) b)
  where
    at : (i : ℕ) → v ≤ i → (i < suc t) ⊎ (suc t ≤ i) → i ≤ suc t → good i ≡ true
    at i a (inl lt) b = h.1 i a (omega arith)
    at i a (inr le) b = ap good (omega arith) ∙ e

pub since : (good : ℕ → Bool) (t u : ℕ) → run_start good t ≡ Some u → GoodSince (AtTrue good) u t
since good zero u e =
    let p = some_run (good 0) 0 u e in
    (subst (λ v. GoodFrom (AtTrue good) v 0) p.1 (at_once good 0 p.0), λ v h. omega (arith, p.1))
since good (suc t) u e =
    go (run_start good t) refl (λ w f. since good t w f)
  where
    p : (good (suc t) ≡ true) × (unwrap_or (run_start good t) (suc t) ≡ u)
    p = some_run (good (suc t)) (unwrap_or (run_start good t) (suc t)) u e

    go : (r : Option ℕ) → run_start good t ≡ r → ((w : ℕ) → run_start good t ≡ Some w → GoodSince (AtTrue good) w t) → GoodSince (AtTrue good) u (suc t)
    go None f before =
        let is : suc t ≡ u = ap (λ o. unwrap_or o (suc t)) (sym f) ∙ p.1 in
        (subst (λ v. GoodFrom (AtTrue good) v (suc t)) is (at_once good (suc t) p.0), λ v h. least v h (cases_lt t v))
      where
        least : (v : ℕ) → GoodFrom (AtTrue good) v (suc t) → (t < v) ⊎ (v ≤ t) → u ≤ v
        least v h (inl lt) = let is : suc t ≡ u = ap (λ o. unwrap_or o (suc t)) (sym f) ∙ p.1 in omega arith
        least v h (inr le) = absurd (both_ways (good t) (no_run good t f) (h.1 t le (omega arith)))
    go (Some w) f before =
        let s = before w f in
        let is : w ≡ u = ap (λ o. unwrap_or o (suc t)) (sym f) ∙ p.1 in
        (subst (λ v. GoodFrom (AtTrue good) v (suc t)) is (longer good w t s.0 p.0), λ v h. least v h (cases_lt t v))
      where
        least : (v : ℕ) → GoodFrom (AtTrue good) v (suc t) → (t < v) ⊎ (v ≤ t) → u ≤ v
        least v h (inl lt) = let is : w ≡ u = ap (λ o. unwrap_or o (suc t)) (sym f) ∙ p.1 in let s = (before w f).0.0 in omega arith
        least v h (inr le) = let is : w ≡ u = ap (λ o. unwrap_or o (suc t)) (sym f) ∙ p.1 in let s = (before w f).1 v (shorter good v t h le) in omega arith

in_run : (good : ℕ → Bool) (t v : ℕ) → GoodFrom (AtTrue good) v t → (u : ℕ) × (run_start good t ≡ Some u)
in_run good t v h = go (run_start good t) refl
  where
    go : (r : Option ℕ) → run_start good t ≡ r → (u : ℕ) × (run_start good t ≡ Some u)
    go None e = absurd (both_ways (good t) (no_run good t e) (h.1 t h.0 (omega arith)))
    go (Some u) e = (u, e)

pub run_start-is : (good : ℕ → Bool) (t u : ℕ) → GoodSince (AtTrue good) u t → run_start good t ≡ Some u
run_start-is good t u h =
    let r = in_run good t u h.0 in
    let s = since good t r.0 r.1 in
    let a = s.1 u h.0 in
    let b = h.1 r.0 s.0 in
    r.1 ∙ ap (λ n. Some n) (omega arith)

-- ---- verified

answered : (responds : List ℕ) (t began : ℕ) → is_answered responds t began ≡ true → Any (λ r. (began < r) × (r ≤ t)) responds
answered responds t began e =
    any_map (λ r. (ltb began r && leb r t) ≡ true) (λ r. (began < r) × (r ≤ t)) responds (λ r h. (ltb-true _ _ (and_parts _ _ h).0, leb-true _ _ (and_parts _ _ h).1))
    (Any-from_list_any (λ r. ltb began r && leb r t) responds e)

is_answered-from : (responds : List ℕ) (t began : ℕ) → Any (λ r. (began < r) × (r ≤ t)) responds → is_answered responds t began ≡ true
is_answered-from responds t began a =
    list_any-from_Any (λ r. ltb began r && leb r t) responds
    (any_map (λ r. (began < r) × (r ≤ t)) (λ r. (ltb began r && leb r t) ≡ true) responds (λ r h. and_from _ _ (lt-ltb began r h.0) (le-leb r t h.1)) a)

pub verified : (good : ℕ → Bool) (verifies : List Verify) (responds : List ℕ) (t : ℕ) → is_verified good verifies responds t ≡ true → Verified (AtTrue good) verifies responds t
verified good verifies responds t e = go (run_start good t) refl e
  where
    go : (r : Option ℕ) → run_start good t ≡ r → is_verified_since verifies responds t r ≡ true → Verified (AtTrue good) verifies responds t
    go None f h = absurd cc
    go (Some u) f h = (
      u,
      (since good t u f).0,
      any_map (λ x. (leb u x.began && is_answered responds t x.began) ≡ true) (λ x. (u ≤ x.began) × Any (λ r. (x.began < r) × (r ≤ t)) responds) verifies
          (λ x k. (leb-true _ _ (and_parts _ _ k).0, answered responds t x.began (and_parts _ _ k).1))
          (Any-from_list_any (λ x. leb u x.began && is_answered responds t x.began) verifies h),
    )

pub is_verified-from : (good : ℕ → Bool) (verifies : List Verify) (responds : List ℕ) (t : ℕ) → Verified (AtTrue good) verifies responds t → is_verified good verifies responds t ≡ true
is_verified-from good verifies responds t v =
    let r = in_run good t v.0 v.1 in
    let least = (since good t r.0 r.1).1 v.0 v.1 in
    ap (is_verified_since verifies responds t) r.1
    ∙ list_any-from_Any (λ x. leb r.0 x.began && is_answered responds t x.began) verifies
    (any_map (λ x. (v.0 ≤ x.began) × Any (λ q. (x.began < q) × (q ≤ t)) responds) (λ x. (leb r.0 x.began && is_answered responds t x.began) ≡ true) verifies
    (λ x k. and_from _ _ (le-leb r.0 x.began (omega (arith, k.0))) (is_answered-from responds t x.began k.1)) v.2)

-- ---- a verify is wanted

over : (wait t : ℕ) (last : Option Verify) → is_over wait t last ≡ true → IsOver wait t last
over wait t None e = tt
over wait t (Some verify) e = go verify.ended e
  where
    go : (o : Option ℕ) → option_map_or (λ ended. leb (ended + wait) t) o false ≡ true → MatchOption o ⊥ (λ ended. ended + wait ≤ t)
    go None e = absurd cc
    go (Some ended) e = leb-true (ended + wait) t e

is_over-from : (wait t : ℕ) (last : Option Verify) → IsOver wait t last → is_over wait t last ≡ true
is_over-from wait t None h = refl
is_over-from wait t (Some verify) h = go verify.ended h
  where
    go : (o : Option ℕ) → MatchOption o ⊥ (λ ended. ended + wait ≤ t) → option_map_or (λ ended. leb (ended + wait) t) o false ≡ true
    go None h = absurd h
    go (Some ended) h = le-leb (ended + wait) t h

pub wanted : (good : ℕ → Bool) (verifies : List Verify) (responds : List ℕ) (wait t : ℕ) → is_verify_wanted good verifies responds wait t ≡ true → VerifyWanted (AtTrue good) verifies responds wait t
wanted good verifies responds wait t e =
    let p = and_parts (not (is_verified good verifies responds t)) (is_wanted_since verifies wait t (run_start good t)) e in
    ((λ v. both_ways (is_verified good verifies responds t) (not-true _ p.0) (is_verified-from good verifies responds t v)), go (run_start good t) refl p.1)
  where
    go : (r : Option ℕ) → run_start good t ≡ r → is_wanted_since verifies wait t r ≡ true
        → ((u : ℕ) × GoodSince (AtTrue good) u t × (length (verifies_since u verifies) < 3) × IsOver wait t (last_verify (verifies_since u verifies)))
    go None f h = absurd cc
    go (Some u) f h = let q = and_parts _ _ h in (u, since good t u f, ltb-true (length (verifies_since u verifies)) 3 q.0, over wait t (last_verify (verifies_since u verifies)) q.1)

pub is_verify_wanted-from : (good : ℕ → Bool) (verifies : List Verify) (responds : List ℕ) (wait t : ℕ) → VerifyWanted (AtTrue good) verifies responds wait t → is_verify_wanted good verifies responds wait t ≡ true
is_verify_wanted-from good verifies responds wait t w =
    and_from (not (is_verified good verifies responds t)) (is_wanted_since verifies wait t (run_start good t))
    (not_from_false _ (false_from_ne_true (is_verified good verifies responds t) (λ e. w.0 (verified good verifies responds t e))))
    (ap (is_wanted_since verifies wait t) (run_start-is good t w.1.0 w.1.1)
    ∙ and_from _ _ (lt-ltb (length (verifies_since w.1.0 verifies)) 3 w.1.2) (is_over-from wait t (last_verify (verifies_since w.1.0 verifies)) w.1.3))
