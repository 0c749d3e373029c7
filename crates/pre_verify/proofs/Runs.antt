-- Runs of ticks at which Good holds, as calls go on.
use Rattle.std.proofs.Common.{◌≡◌, ℕ, zero, suc, ◌<◌, ◌≤◌, ◌⊎◌, inl, inr, Bool, true, false, cond, List, [], ◌∷◌}
use Rattle.std.proofs.Common.{◌++◌, filter_map, Option, Some, None, refl, ap, ap₂, ◌∙◌, arith}
use Rattle.std.specs.Prelude.{is_some, unwrap_or}
use Rattle.std.proofs.lemmas.Bool.{cases_lt}
use Rattle.std.proofs.lemmas.List.Sums.{fold-append}
use Rattle.std.proofs.lemmas.List.Elements.{filter_map-append}
use Rattle.pre_lldp.specs.LinkState.{run_start}
use Rattle.pre_verify.specs.Calls.{Call, tick_of, last_tick, settles, good_of, tells, verifies_of, respond_tick, responds_of}

pub last_tick-push : (calls : List Call) (call : Call) → last_tick (calls ++ call ∷ []) ≡ tick_of call
last_tick-push calls call = fold-append (λ before c. tick_of c) 0 calls (call ∷ [])

pub good_of-push : (calls : List Call) (call : Call) (t : ℕ) → good_of (calls ++ call ∷ []) t ≡ settles t (good_of calls t) call
good_of-push calls call t = fold-append (settles t) false calls (call ∷ [])

pub verifies_of-push : (calls : List Call) (call : Call) → verifies_of (calls ++ call ∷ []) ≡ tells (verifies_of calls) call
verifies_of-push calls call = fold-append tells [] calls (call ∷ [])

pub responds_of-push : (calls : List Call) (call : Call) → responds_of (calls ++ call ∷ []) ≡ responds_of calls ++ filter_map respond_tick (call ∷ [])
responds_of-push calls call = filter_map-append respond_tick calls (call ∷ [])

pub run_local : (g h : ℕ → Bool) (t : ℕ) → ((i : ℕ) → i ≤ t → g i ≡ h i) → run_start g t ≡ run_start h t
run_local g h zero same = ap (λ b. cond b (Some 0) None) (same 0 (omega arith))
run_local g h (suc t) same =
    ap₂ (λ b o. cond b (Some (unwrap_or o (suc t))) None) (same (suc t) (omega arith)) (run_local g h t (λ i le. same i (omega arith)))

pub no_run : (g : ℕ → Bool) (t : ℕ) → g t ≡ false → run_start g t ≡ None
no_run g zero e = ap (λ b. cond b (Some 0) None) e
no_run g (suc t) e = ap (λ b. cond b (Some (unwrap_or (run_start g t) (suc t))) None) e

pub run_on : (g : ℕ → Bool) (t u : ℕ) → run_start g t ≡ Some u → g (suc t) ≡ true → run_start g (suc t) ≡ Some u
run_on g t u e h = ap₂ (λ b o. cond b (Some (unwrap_or o (suc t))) None) h e

run_on_any : (g : ℕ → Bool) (t : ℕ) (o : Option ℕ) → run_start g t ≡ o → g (suc t) ≡ is_some o → run_start g (suc t) ≡ o
run_on_any g t None e h = no_run g (suc t) h
run_on_any g t (Some u) e h = run_on g t u e h

-- a run goes on as Good is steady
pub run_later : (g : ℕ → Bool) (T t : ℕ) (o : Option ℕ) → T ≤ t → run_start g T ≡ o → ((i : ℕ) → T ≤ i → g i ≡ is_some o) → run_start g t ≡ o
run_later g T zero o le e steady = let same : 0 ≡ T = omega arith in ap (run_start g) same ∙ e
run_later g T (suc t) o le e steady = go (cases_lt t T) (λ before. run_later g T t o before e steady)
  where
    go : (t < T) ⊎ (T ≤ t) → (T ≤ t → run_start g t ≡ o) → run_start g (suc t) ≡ o
    go (inl at) further = let same : suc t ≡ T = omega arith in ap (run_start g) same ∙ e
    go (inr before) further = run_on_any g t o (further before) (steady (suc t) le)

-- the run at the tick before one at which it goes on
pub run_before : (g : ℕ → Bool) (t u : ℕ) → run_start g (suc t) ≡ Some u → g t ≡ true → run_start g t ≡ Some u
run_before g t u e h = go (g (suc t)) (run_start g t) refl e
  where
    go : (b : Bool) (o : Option ℕ) → run_start g t ≡ o → cond b (Some (unwrap_or o (suc t))) None ≡ Some u → run_start g t ≡ Some u
    go false o f e = absurd cc
    go true (Some w) f e = f ∙ e
    go true None f e = absurd (none t h f)
      where
        none : (t : ℕ) → g t ≡ true → run_start g t ≡ None → ⊥
        none zero h f = let x : run_start g 0 ≡ Some 0 = ap (λ b. cond b (Some 0) None) h in cc
        none (suc t) h f = let x : run_start g (suc t) ≡ Some (unwrap_or (run_start g t) (suc t)) = ap (λ b. cond b (Some (unwrap_or (run_start g t) (suc t))) None) h in cc
