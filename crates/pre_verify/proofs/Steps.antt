-- What one more call changes.
use Rattle.std.proofs.Common.{◌≡◌, ℕ, zero, suc, ◌+◌, ◌<◌, ◌≤◌, ◌⊎◌, inl, inr, ◌&&◌, ◌||◌, not, Bool, true, false}
use Rattle.std.proofs.Common.{cond, leb, ltb, List, [], ◌∷◌, ◌++◌, length, Option, Some, None, refl, sym, ap, ap₂, subst, ◌∙◌, arith}
use Rattle.std.proofs.Common.{length-append}
use Rattle.std.specs.Prelude.{is_some, option_map, unwrap_or}
use Rattle.std.specs.List.{list_any}
use Rattle.std.specs.Option.{option_map_or, option_or}
use Rattle.std.proofs.lemmas.Bool.{le-leb, lt-leb, lt-ltb, le-ltb, cases_lt, ltb-true, and_parts, cond-true, cond-false, false≢true}
use Rattle.std.proofs.lemmas.List.Elements.{filter-append}
use Rattle.std.proofs.lemmas.List.Folds.{list_any-append}
use Rattle.pre_lldp.specs.LinkState.{Verify, verifies_since, last_verify, run_start, is_answered, is_verified_since}
use Rattle.pre_verify.specs.Calls.{Call, settled, good_of, verifies_of, settles, end_last}
use Rattle.pre_verify.specs.Verifiers.{IsBy, IsBelow, IsQuiet, IsRun, IsPresent, Stands, is_trying, is_wanting, waited}
use Rattle.pre_verify.specs.declared.verifiers.Verifier.{Verifier}
use Rattle.pre_verify.proofs.Lists.{or_false, any_same, any_either, unanswered, answered-push, none_since, any-end_last, length-end_last, last-end_last}
use Rattle.pre_verify.proofs.Runs.{good_of-push, run_local, run_on, run_before, no_run}
use Rattle.pre_verify.proofs.Standing.{IsBy-later, run_at, verified_later}

-- Good isn't settled anew: the run goes on
pub run-kept : (v : Verifier) (wait : ℕ) (calls : List Call) (call : Call) (t : ℕ) → Stands v wait calls → v.latest.0 ≤ t → ((i : ℕ) (b : Bool) → settles i b call ≡ b)
    → run_start (good_of (calls ++ call ∷ [])) t ≡ v.since
run-kept v wait calls call t s le kept =
    run_local (good_of (calls ++ call ∷ [])) (good_of calls) t (λ i below. good_of-push calls call i ∙ kept i (good_of calls i)) ∙ run_at v wait calls t s le

-- the same run, at a later tick
pub present-later : (settle_tick : Option ℕ) (T t attempts : ℕ) (last first : Option ℕ) (verifies : List Verify) (since : Option ℕ) → T ≤ t → IsPresent settle_tick T attempts last first verifies since
    → IsPresent settle_tick t attempts last first verifies since
present-later settle_tick T t attempts last first verifies None le p = p
present-later settle_tick T t attempts last first verifies (Some u) le p = record {
  settled_is = p.settled_is;
  began = omega (arith, p.began);
  count = p.count;
  recent = p.recent;
  first_is = p.first_is;
  first_by = IsBy-later first T t p.first_by le;
}

-- ---- a respond

pub verified-responded : (settle_tick : Option ℕ) (T t attempts : ℕ) (last first : Option ℕ) (verifies : List Verify) (responds : List ℕ) (since : Option ℕ) (verified : Bool)
    → IsPresent settle_tick T attempts last first verifies since → ((began : ℕ) → is_answered responds t began ≡ is_answered responds T began)
    → verified ≡ is_verified_since verifies responds T since
    → (verified || (is_some since && option_map_or (λ b. ltb b t) first false)) ≡ is_verified_since verifies (responds ++ t ∷ []) t since
verified-responded settle_tick T t attempts last first verifies responds None verified p heard e = or_false verified ∙ e
verified-responded settle_tick T t attempts last first verifies responds (Some u) verified p heard e =
    ap₂ (λ a b. a || b) (e ∙ sym (verified_later verifies responds T t (Some u) heard)) (sym (p.first_is t))
    ∙ sym (any_either (λ x. leb u x.began && is_answered responds t x.began) (λ x. leb u x.began && ltb x.began t) verifies)
    ∙ any_same (λ x. (leb u x.began && is_answered responds t x.began) || (leb u x.began && ltb x.began t)) (λ x. leb u x.began && is_answered (responds ++ t ∷ []) t x.began) verifies
    (λ x. shared (leb u x.began) (is_answered responds t x.began) (ltb x.began t) (leb t t) (le-leb t t (omega arith)) ∙ ap (λ b. leb u x.began && b) (sym (answered-push responds t t x.began)))
  where
    shared : (a b c d : Bool) → d ≡ true → ((a && b) || (a && c)) ≡ (a && (b || (c && d)))
    shared false b c d e = refl
    shared true true c d e = refl
    shared true false true d e = sym e
    shared true false false d e = refl

pub heard-responded : (responds : List ℕ) (T t s began : ℕ) → ((q b : ℕ) → T ≤ q → is_answered responds q b ≡ is_answered responds T b) → T ≤ t → t ≤ s
    → is_answered (responds ++ t ∷ []) s began ≡ is_answered (responds ++ t ∷ []) t began
heard-responded responds T t s began heard le later =
    answered-push responds t s began
    ∙ ap₂ (λ a b. a || (ltb began t && b)) (heard s began (omega arith) ∙ sym (heard t began le)) (le-leb t s later ∙ sym (le-leb t t (omega arith)))
    ∙ sym (answered-push responds t t began)

-- ---- a verify begins

pub verified-begun : (T t : ℕ) (verifies : List Verify) (responds : List ℕ) (since : Option ℕ) (verified : Bool) → ((began : ℕ) → is_answered responds t began ≡ is_answered responds T began)
    → verified ≡ is_verified_since verifies responds T since → verified ≡ is_verified_since (verifies ++ record { began = t; ended = None } ∷ []) responds t since
verified-begun T t verifies responds None verified heard e = e
verified-begun T t verifies responds (Some u) verified heard e =
    e ∙ sym (verified_later verifies responds T t (Some u) heard) ∙ sym (or_false _)
    ∙ ap (λ b. list_any (λ x. leb u x.began && is_answered responds t x.began) verifies || b) (sym (or_false _ ∙ ap (λ b. leb u t && b) (unanswered responds t) ∙ and_false (leb u t)))
    ∙ sym (list_any-append (λ x. leb u x.began && is_answered responds t x.began) verifies (record { began = t; ended = None } ∷ []))
  where
    and_false : (a : Bool) → (a && false) ≡ false
    and_false true = refl
    and_false false = refl

pub newest-begun : (t u : ℕ) (last : Option ℕ) (verifies : List Verify) → ((w : ℕ) → IsBelow last w → verifies_since w verifies ≡ []) → IsBy last t → t < u
    → verifies_since u (verifies ++ record { began = t; ended = None } ∷ []) ≡ []
newest-begun t u last verifies newest by late =
    filter-append (λ x. leb u x.began) verifies (record { began = t; ended = None } ∷ [])
    ∙ ap₂ (λ xs b. xs ++ cond b (record { began = t; ended = None } ∷ []) []) (newest u (before last by)) (lt-leb u t late)
  where
    before : (o : Option ℕ) → IsBy o t → IsBelow o u
    before None h = tt
    before (Some s) h = omega (arith, h)

pub present-begun : (settle_tick : Option ℕ) (T t attempts : ℕ) (last first : Option ℕ) (verifies : List Verify) (u : ℕ) → T ≤ t → IsRun settle_tick T attempts last first verifies u
    → IsRun settle_tick t (attempts + 1) (Some t) (option_or first (Some t)) (verifies ++ record { began = t; ended = None } ∷ []) u
present-begun settle_tick T t attempts last first verifies u le p =
    let x : Verify = record { began = t; ended = None } in
    let from : u ≤ t = omega (arith, p.began) in
    let here = le-leb u t from in record {
      settled_is = p.settled_is;
      began = from;
      count = ap length (filter-append (λ y. leb u y.began) verifies (x ∷ []) ∙ ap (λ b. verifies_since u verifies ++ cond b (x ∷ []) []) here)
          ∙ length-append (verifies_since u verifies) (x ∷ []) ∙ ap (λ n. n + 1) p.count;
      recent = λ h. from;
      first_is = λ r. list_any-append (λ y. leb u y.began && ltb y.began r) verifies (x ∷ []) ∙ ap₂ (λ a b. a || ((b && ltb t r) || false)) (p.first_is r) here ∙ either r first p.first_by;
      first_by = by first p.first_by;
    }
  where
    by : (o : Option ℕ) → IsBy o T → IsBy (option_or o (Some t)) t
    by None h = omega arith
    by (Some s) h = omega (arith, h)

    either : (r : ℕ) (o : Option ℕ) → IsBy o T → (option_map_or (λ b. ltb b r) o false || (ltb t r || false)) ≡ option_map_or (λ b. ltb b r) (option_or o (Some t)) false
    either r None h = or_false (ltb t r)
    either r (Some s) h = ap (λ b. ltb s r || b) (or_false (ltb t r)) ∙ covered (cases_lt t r)
      where
        covered : (t < r) ⊎ (r ≤ t) → (ltb s r || ltb t r) ≡ ltb s r
        covered (inl lt) = ap (λ b. b || ltb t r) (lt-ltb s r (omega (arith, h))) ∙ sym (lt-ltb s r (omega (arith, h)))
        covered (inr ge) = ap (λ b. ltb s r || b) (le-ltb t r ge) ∙ or_false (ltb s r)

pub wanting-parts : (v : Verifier) (t : ℕ) → is_wanting v t ≡ true → (is_some v.since ≡ true) × (v.attempts < 3)
unfolding is_wanting
wanting-parts v t e =
    let trying = (and_parts (is_trying v) (waited v t) e).0 in
    let p = and_parts (is_some v.since && not v.verified) (ltb v.attempts 3) trying in
    ((and_parts (is_some v.since) (not v.verified) p.0).0, ltb-true v.attempts 3 p.1)

pub present-begun_any : (settle_tick : Option ℕ) (T t attempts : ℕ) (last first : Option ℕ) (verifies : List Verify) (since : Option ℕ) → is_some since ≡ true → T ≤ t
    → IsPresent settle_tick T attempts last first verifies since
    → IsPresent settle_tick t (attempts + 1) (Some t) (option_or first (Some t)) (verifies ++ record { began = t; ended = None } ∷ []) since
present-begun_any settle_tick T t attempts last first verifies None some le p = absurd cc
present-begun_any settle_tick T t attempts last first verifies (Some u) some le p = present-begun settle_tick T t attempts last first verifies u le p

-- ---- a verify ends

pub verified-ended : (t : ℕ) (verifies : List Verify) (responds : List ℕ) (T : ℕ) (since : Option ℕ) → is_verified_since (end_last t verifies) responds T since ≡ is_verified_since verifies responds T since
verified-ended t verifies responds T None = refl
verified-ended t verifies responds T (Some u) = any-end_last (λ b. leb u b && is_answered responds T b) t verifies

pub last-ended : (t : ℕ) (verifies : List Verify) (last ended : Option ℕ) → last_verify verifies ≡ option_map (λ b. record { began = b; ended = ended }) last
    → last_verify (end_last t verifies) ≡ option_map (λ b. record { began = b; ended = Some t }) last
last-ended t verifies last ended e = last-end_last t verifies ∙ ap (λ o. option_map (λ (x : Verify). record x { ended = Some t }) o) e ∙ go last
  where
    go : (o : Option ℕ) → option_map (λ (x : Verify). record x { ended = Some t }) (option_map (λ b. record { began = b; ended = ended }) o) ≡ option_map (λ b. record { began = b; ended = Some t }) o
    go None = refl
    go (Some b) = refl

pub present-ended : (settle_tick : Option ℕ) (T t attempts : ℕ) (last first : Option ℕ) (verifies : List Verify) (since : Option ℕ) → T ≤ t → IsPresent settle_tick T attempts last first verifies since
    → IsPresent settle_tick t attempts last first (end_last t verifies) since
present-ended settle_tick T t attempts last first verifies None le p = p
present-ended settle_tick T t attempts last first verifies (Some u) le p = record {
  settled_is = p.settled_is;
  began = omega (arith, p.began);
  count = length-end_last u t verifies ∙ p.count;
  recent = p.recent;
  first_is = λ r. any-end_last (λ b. leb u b && ltb b r) t verifies ∙ p.first_is r;
  first_by = IsBy-later first T t p.first_by le;
}

-- ---- Good is settled

pub settles-from : (s t : ℕ) (before good : Bool) → s ≤ t → cond (leb s t) good before ≡ good
settles-from s t before good h = cond-true (leb s t) good before (le-leb s t h)

settles-before : (s t : ℕ) (before good : Bool) → t < s → cond (leb s t) good before ≡ before
settles-before s t before good h = cond-false (leb s t) good before (lt-leb s t h)

by_before : (o : Option ℕ) (t : ℕ) → IsBelow o (suc t) → IsBy o t
by_before None t h = tt
by_before (Some s) t h = omega (arith, h)

pub run-new : (v : Verifier) (wait : ℕ) (calls : List Call) (s : ℕ) → Stands v wait calls → v.since ≡ None → IsBelow (option_map (λ tick. tick.0) v.settled) s
    → run_start (good_of (calls ++ settled s true ∷ [])) s ≡ Some s
run-new v wait calls s st none later = go s later
  where
    go : (s : ℕ) → IsBelow (option_map (λ tick. tick.0) v.settled) s → run_start (good_of (calls ++ settled s true ∷ [])) s ≡ Some s
    go zero h = ap (λ b. cond b (Some 0) None) (good_of-push calls (settled 0 true) 0 ∙ settles-from 0 0 (good_of calls 0) true (omega arith))
    go (suc p) h =
        let call : Call = settled (suc p) true in
        let here = good_of-push calls call (suc p) ∙ settles-from (suc p) (suc p) (good_of calls (suc p)) true (omega arith) in
        let before = good_of-push calls call p ∙ settles-before (suc p) p (good_of calls p) true (omega arith) ∙ st.steady p (by_before (option_map (λ tick. tick.0) v.settled) p h) ∙ ap is_some none in
        ap₂ (λ b o. cond b (Some (unwrap_or o (suc p))) None) here (no_run (good_of (calls ++ call ∷ [])) p before)

pub run-continued : (v : Verifier) (wait : ℕ) (calls : List Call) (s u : ℕ) → Stands v wait calls → v.since ≡ Some u → is_some (option_map (λ tick. tick.0) v.settled) ≡ true → v.latest.0 ≤ s
    → IsBelow (option_map (λ tick. tick.0) v.settled) s → run_start (good_of (calls ++ settled s true ∷ [])) s ≡ Some u
run-continued v wait calls s u st is some le later = go s le later
  where
    never : (o : Option ℕ) → is_some o ≡ true → IsBelow o 0 → ⊥
    never None e h = false≢true e
    never (Some r) e h = absurd (omega (arith, h))

    at : (p : ℕ) → v.latest.0 ≤ suc p → good_of calls p ≡ true → (p < v.latest.0) ⊎ (v.latest.0 ≤ p) → run_start (good_of calls) p ≡ Some u
    at p le good (inl before) = let same : suc p ≡ v.latest.0 = omega arith in run_before (good_of calls) p u (ap (run_start (good_of calls)) same ∙ st.run ∙ is) good
    at p le good (inr after) = run_at v wait calls p st after ∙ is

    go : (s : ℕ) → v.latest.0 ≤ s → IsBelow (option_map (λ tick. tick.0) v.settled) s → run_start (good_of (calls ++ settled s true ∷ [])) s ≡ Some u
    go zero le h = absurd (never (option_map (λ tick. tick.0) v.settled) some h)
    go (suc p) le h =
        let call : Call = settled (suc p) true in
        let here = good_of-push calls call (suc p) ∙ settles-from (suc p) (suc p) (good_of calls (suc p)) true (omega arith) in
        let good : good_of calls p ≡ true = st.steady p (by_before (option_map (λ tick. tick.0) v.settled) p h) ∙ ap is_some is in
        let local : run_start (good_of (calls ++ call ∷ [])) p ≡ run_start (good_of calls) p =
        run_local (good_of (calls ++ call ∷ [])) (good_of calls) p (λ i below. good_of-push calls call i ∙ settles-before (suc p) i (good_of calls i) true (omega arith)) in
        run_on (good_of (calls ++ call ∷ [])) p u (local ∙ at p le good (cases_lt p v.latest.0)) here

pub quiet-before : (last settle_tick : Option ℕ) (t : ℕ) → IsQuiet last settle_tick → IsBelow settle_tick t → IsBelow last t
quiet-before last None t e h = subst (λ o. IsBelow o t) (sym e) tt
quiet-before None (Some s) t q h = tt
quiet-before (Some b) (Some s) t q h = omega (arith, q, h)

pub verified-new : (t : ℕ) (verifies : List Verify) (responds : List ℕ) → verifies_since t verifies ≡ [] → false ≡ is_verified_since verifies responds t (Some t)
verified-new t verifies responds e = sym (none_since t (λ x. is_answered responds t x.began) verifies e)

pub present-new : (t : ℕ) (last : Option ℕ) (verifies : List Verify) → verifies_since t verifies ≡ [] → IsRun (Some t) t 0 last None verifies t
present-new t last verifies e = record {
  settled_is = refl;
  began = omega arith;
  count = ap length e;
  recent = λ h. absurd (omega arith);
  first_is = λ r. none_since t (λ x. ltb x.began r) verifies e;
  first_by = tt;
}

pub present-settled : (settle_tick : Option ℕ) (T t attempts : ℕ) (last first : Option ℕ) (verifies : List Verify) (u : ℕ) → T ≤ t → IsRun settle_tick T attempts last first verifies u
    → IsRun (Some t) t attempts last first verifies u
present-settled settle_tick T t attempts last first verifies u le p = record {
  settled_is = refl;
  began = omega (arith, p.began);
  count = p.count;
  recent = p.recent;
  first_is = p.first_is;
  first_by = IsBy-later first T t p.first_by le;
}

pub present-settled_any : (settle_tick : Option ℕ) (T t attempts : ℕ) (last first : Option ℕ) (verifies : List Verify) (since : Option ℕ) → is_some since ≡ true → T ≤ t
    → IsPresent settle_tick T attempts last first verifies since → IsPresent (Some t) t attempts last first verifies since
present-settled_any settle_tick T t attempts last first verifies None e le p = absurd cc
present-settled_any settle_tick T t attempts last first verifies (Some u) e le p = present-settled settle_tick T t attempts last first verifies u le p

settled_in_run : (settle_tick : Option ℕ) (T attempts : ℕ) (last first : Option ℕ) (verifies : List Verify) (since : Option ℕ) → is_some since ≡ true
    → IsPresent settle_tick T attempts last first verifies since → is_some settle_tick ≡ true
settled_in_run settle_tick T attempts last first verifies None e p = absurd cc
settled_in_run settle_tick T attempts last first verifies (Some u) e p = p.settled_is

some_from : (o : Option ℕ) → is_some o ≡ true → (u : ℕ) × (o ≡ Some u)
some_from None e = absurd cc
some_from (Some u) e = (u, refl)

pub none_from : (o : Option ℕ) → is_some o ≡ false → o ≡ None
none_from None e = refl
none_from (Some u) e = absurd cc

pub run-continued_any : (v : Verifier) (wait : ℕ) (calls : List Call) (s : ℕ) → Stands v wait calls → is_some v.since ≡ true → v.latest.0 ≤ s
    → IsBelow (option_map (λ tick. tick.0) v.settled) s → run_start (good_of (calls ++ settled s true ∷ [])) s ≡ v.since
run-continued_any v wait calls s st some le later =
    let u = some_from v.since some in
    run-continued v wait calls s u.0 st u.1 (settled_in_run (option_map (λ tick. tick.0) v.settled) v.latest.0 v.attempts v.last v.first (verifies_of calls) v.since some st.present) le later ∙ sym u.1

pub quiet-none : (settle_tick : Option ℕ) (T attempts : ℕ) (last first : Option ℕ) (verifies : List Verify) (since : Option ℕ) → since ≡ None → IsPresent settle_tick T attempts last first verifies since → IsQuiet last settle_tick
quiet-none settle_tick T attempts last first verifies since e p = subst (λ o. IsPresent settle_tick T attempts last first verifies o) e p
