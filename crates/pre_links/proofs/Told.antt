-- What a verifier that is settled at a tick stands for.
use Rattle.std.proofs.Common.{ℕ, ◌≡◌, nat_le, Bool, true, false, List, [], ◌∷◌, ◌++◌, refl, sym, ◌∙◌, ap}
use Rattle.std.specs.Prelude.{if◌then◌else◌}
use Rattle.std.proofs.lemmas.List.{append-nil, append_assoc}
use Rattle.pre_verify.specs.declared.states.VerifyState.{VerifyState}
use Rattle.pre_verify.specs.declared.states.VerifyState.TheVariants.{Verified}
use Rattle.pre_lldp.specs.LinkState.{is_verified_since, last_verify}
use Rattle.pre_verify.specs.Calls.{Call, settled, responded, last_tick, good_of, verifies_of, responds_of, verified_at, wanted_at, is_going, has_failed, state_at}
use Rattle.pre_verify.proofs.Runs.{last_tick-push, good_of-push, verifies_of-push, responds_of-push, no_run}
use Rattle.pre_verify.proofs.Standing.{first_of_states}
use Rattle.pre_links.specs.Standing.{responding, settling}

-- calls one after the other
pub settling-parts : (calls : List Call) (t : ℕ) (good responds : Bool) → calls ++ settling t good responds ≡ (calls ++ settled t good ∷ []) ++ responding t responds
settling-parts calls t good responds = sym (append_assoc calls (settled t good ∷ []) (responding t responds))

last_responding : (calls : List Call) (t : ℕ) (responds : Bool) → last_tick calls ≡ t → last_tick (calls ++ responding t responds) ≡ t
last_responding calls t true is = last_tick-push calls (responded t)
last_responding calls t false is = ap last_tick (append-nil calls) ∙ is

pub last_settling : (calls : List Call) (t : ℕ) (good responds : Bool) → last_tick (calls ++ settling t good responds) ≡ t
last_settling calls t good responds = ap last_tick (settling-parts calls t good responds) ∙ last_responding (calls ++ settled t good ∷ []) t responds (last_tick-push calls (settled t good))

good_responding : (calls : List Call) (t i : ℕ) (responds : Bool) → good_of (calls ++ responding t responds) i ≡ good_of calls i
good_responding calls t i true = good_of-push calls (responded t) i
good_responding calls t i false = ap (λ cs. good_of cs i) (append-nil calls)

pub good_settling : (calls : List Call) (t i : ℕ) (good responds : Bool) → good_of (calls ++ settling t good responds) i ≡ (if nat_le t i then good else good_of calls i)
good_settling calls t i good responds = ap (λ cs. good_of cs i) (settling-parts calls t good responds) ∙ good_responding (calls ++ settled t good ∷ []) t i responds
    ∙ good_of-push calls (settled t good) i

verifies_responding : (calls : List Call) (t : ℕ) (responds : Bool) → verifies_of (calls ++ responding t responds) ≡ verifies_of calls
verifies_responding calls t true = verifies_of-push calls (responded t)
verifies_responding calls t false = ap verifies_of (append-nil calls)

pub verifies_settling : (calls : List Call) (t : ℕ) (good responds : Bool) → verifies_of (calls ++ settling t good responds) ≡ verifies_of calls
verifies_settling calls t good responds = ap verifies_of (settling-parts calls t good responds) ∙ verifies_responding (calls ++ settled t good ∷ []) t responds
    ∙ verifies_of-push calls (settled t good)

-- the ticks of responds told
abbrev pub ticks : ℕ → Bool → List ℕ
ticks t true = t ∷ []
ticks t false = []

responds_responding : (calls : List Call) (t : ℕ) (responds : Bool) → responds_of (calls ++ responding t responds) ≡ responds_of calls ++ ticks t responds
responds_responding calls t true = responds_of-push calls (responded t)
responds_responding calls t false = ap responds_of (append-nil calls) ∙ sym (append-nil (responds_of calls))

pub responds_settling : (calls : List Call) (t : ℕ) (good responds : Bool) → responds_of (calls ++ settling t good responds) ≡ responds_of calls ++ ticks t responds
responds_settling calls t good responds =
    ap responds_of (settling-parts calls t good responds) ∙ responds_responding (calls ++ settled t good ∷ []) t responds
    ∙ ap (λ rs. rs ++ ticks t responds) (responds_of-push calls (settled t good) ∙ append-nil (responds_of calls))

-- ---- the state

verified_good : (calls : List Call) (t : ℕ) (g : Bool) → good_of calls t ≡ g → verified_at calls t ≡ true → g ≡ true
verified_good calls t true is verified = refl
verified_good calls t false is verified = let none : verified_at calls t ≡ false = ap (is_verified_since (verifies_of calls) (responds_of calls) t) (no_run (good_of calls) t is) in cc (none, verified)

state_true : (g v o f w : Bool) → g ≡ true → v ≡ true → first_of_states g v o f w ≡ Verified
state_true true true o f w good verified = refl
state_true true false o f w good verified = absurd (cc verified)
state_true false v o f w good verified = absurd (cc good)

state_false : (g v o f w : Bool) → v ≡ false → ¬ (first_of_states g v o f w ≡ Verified)
state_false false v o f w is e = absurd (cc e)
state_false true true o f w is e = absurd (cc is)
state_false true false true f w is e = absurd (cc e)
state_false true false false true w is e = absurd (cc e)
state_false true false false false true is e = absurd (cc e)
state_false true false false false false is e = absurd (cc e)

pub verified_state : (wait : ℕ) (calls : List Call) (t : ℕ) (s : VerifyState) → s ≡ state_at wait calls t → s ≡ Verified → verified_at calls t ≡ true
verified_state wait calls t s is e = go (verified_at calls t) refl
  where
    go : (v : Bool) → verified_at calls t ≡ v → v ≡ true
    go true at = refl
    go false at = absurd (state_false (good_of calls t) (verified_at calls t) (is_going (last_verify (verifies_of calls))) (has_failed wait calls t) (wanted_at wait calls t) at (sym is ∙ e))

pub other_state : (wait : ℕ) (calls : List Call) (t : ℕ) (s : VerifyState) → s ≡ state_at wait calls t → ¬ (s ≡ Verified) → verified_at calls t ≡ false
other_state wait calls t s is other = go (verified_at calls t) refl
  where
    go : (v : Bool) → verified_at calls t ≡ v → v ≡ false
    go false at = refl
    go true at =
        absurd (other (is ∙ state_true (good_of calls t) (verified_at calls t) (is_going (last_verify (verifies_of calls))) (has_failed wait calls t) (wanted_at wait calls t)
        (verified_good calls t (good_of calls t) refl at) at))
