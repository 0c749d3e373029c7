-- What a verifier's fields say, by the calls for which it stands.
use Rattle.std.proofs.Common.{◌≡◌, ℕ, zero, suc, ◌+◌, ◌<◌, ◌≤◌, ◌&&◌, ◌||◌, not, Bool, true, false, cond, leb, ltb}
use Rattle.std.proofs.Common.{List, Option, Some, None, refl, sym, ap, ap₂, ◌∙◌, arith}
use Rattle.std.specs.Prelude.{is_some, is_none, option_map, ◌==◌}
use Rattle.std.specs.Option.{option_map_or}
use Rattle.std.proofs.lemmas.List.{nil_from_length}
use Rattle.std.proofs.lemmas.Bool.{ne_eqb}
use Rattle.pre_verify.specs.declared.states.VerifyState.{VerifyState}
use Rattle.pre_verify.specs.declared.states.VerifyState.TheVariants.{Idle, Wanted, Sending, Waiting, Failed, Verified}
use Rattle.pre_lldp.specs.LinkState.{Verify, verifies_since, last_verify, run_start, is_answered, is_verified_since, is_over, is_wanted_since}
use Rattle.pre_verify.specs.Calls.{Call, last_tick, good_of, verifies_of, responds_of, verified_at, wanted_at, is_going, has_failed_since, has_failed, state_at}
use Rattle.pre_verify.specs.Verifiers.{IsBy, IsBelow, IsFrom, IsRun, IsPresent, Stands, is_under_way, waited, is_wanting}
use Rattle.pre_verify.specs.declared.verifiers.Verifier.{Verifier}
use Rattle.pre_verify.proofs.Lists.{any_same, last_since}
use Rattle.pre_verify.proofs.Runs.{run_later}

pub IsBy-later : (o : Option ℕ) (s t : ℕ) → IsBy o s → s ≤ t → IsBy o t
IsBy-later None s t h le = tt
IsBy-later (Some r) s t h le = omega (arith, h, le)

pub IsBelow-later : (o : Option ℕ) (s t : ℕ) → IsBy o s → s < t → IsBelow o t
IsBelow-later None s t h le = tt
IsBelow-later (Some r) s t h le = omega (arith, h, le)

pub run_at : (v : Verifier) (wait : ℕ) (calls : List Call) (t : ℕ) → Stands v wait calls → v.latest.0 ≤ t → run_start (good_of calls) t ≡ v.since
run_at v wait calls t s le =
    run_later (good_of calls) v.latest.0 t v.since le s.run (λ i from. s.steady i (IsBy-later (option_map (λ tick. tick.0) v.settled) v.latest.0 i s.settled_by from))

-- no time brings a respond
pub verified_later : (verifies : List Verify) (responds : List ℕ) (T t : ℕ) (o : Option ℕ) → ((began : ℕ) → is_answered responds t began ≡ is_answered responds T began)
    → is_verified_since verifies responds t o ≡ is_verified_since verifies responds T o
verified_later verifies responds T t None heard = refl
verified_later verifies responds T t (Some u) heard =
    any_same (λ x. leb u x.began && is_answered responds t x.began) (λ x. leb u x.began && is_answered responds T x.began) verifies (λ x. ap (λ b. leb u x.began && b) (heard x.began))

pub verified_at-is : (v : Verifier) (wait : ℕ) (calls : List Call) (t : ℕ) → Stands v wait calls → v.latest.0 ≤ t → verified_at calls t ≡ v.verified
verified_at-is v wait calls t s le =
    ap (is_verified_since (verifies_of calls) (responds_of calls) t) (run_at v wait calls t s le)
    ∙ verified_later (verifies_of calls) (responds_of calls) v.latest.0 t v.since (λ began. s.heard t began le) ∙ sym s.verified

last_of_run : (u : ℕ) (verifies : List Verify) (o ended : Option ℕ) → IsFrom u o → last_verify verifies ≡ option_map (λ b. record { began = b; ended = ended }) o
    → (b : ℕ) × (last_verify (verifies_since u verifies) ≡ Some (record { began = b; ended = ended }))
last_of_run u verifies None ended h e = absurd h
last_of_run u verifies (Some b) ended h e = (b, last_since u verifies (record { began = b; ended = ended }) e h)

pub over-is : (v : Verifier) (wait : ℕ) (verifies : List Verify) (u t : ℕ) → v.wait ≡ wait → IsRun (option_map (λ tick. tick.0) v.settled) v.latest.0 v.attempts v.last v.first verifies u → last_verify verifies ≡ option_map (λ b. record { began = b; ended = v.ended }) v.last
    → is_over wait t (last_verify (verifies_since u verifies)) ≡ waited v t
over-is v wait verifies u t w r last = go v.attempts refl
  where
    go : (n : ℕ) → v.attempts ≡ n → is_over wait t (last_verify (verifies_since u verifies)) ≡ ((n == 0) || option_map_or (λ ended. leb (ended + v.wait) t) v.ended false)
    go zero e = ap (λ vs. is_over wait t (last_verify vs)) (nil_from_length (verifies_since u verifies) (r.count ∙ e))
    go (suc n) e =
        let x = last_of_run u verifies v.last v.ended (r.recent (omega (arith, e))) last in
        ap (is_over wait t) x.1 ∙ ap (λ m. option_map_or (λ ended. leb (ended + m) t) v.ended false) (sym w)
        ∙ sym (ap (λ b. b || option_map_or (λ ended. leb (ended + v.wait) t) v.ended false) (ne_eqb (suc n) 0 (λ z. absurd (omega arith))))

grouped : (a b c : Bool) → (a && (b && c)) ≡ ((a && b) && c)
grouped true b c = refl
grouped false b c = refl

and_false : (a : Bool) → (a && false) ≡ false
and_false true = refl
and_false false = refl

pub wanted_at-is : (v : Verifier) (wait : ℕ) (calls : List Call) (t : ℕ) → Stands v wait calls → v.latest.0 ≤ t → wanted_at wait calls t ≡ is_wanting v t
unfolding is_wanting
wanted_at-is v wait calls t s le =
    ap₂ (λ b o. not b && is_wanted_since (verifies_of calls) wait t o) (verified_at-is v wait calls t s le) (run_at v wait calls t s le) ∙ go v.since s.present
  where
    go : (o : Option ℕ) → IsPresent (option_map (λ tick. tick.0) v.settled) v.latest.0 v.attempts v.last v.first (verifies_of calls) o → (not v.verified && is_wanted_since (verifies_of calls) wait t o) ≡ (is_some o && not v.verified && ltb v.attempts 3 && waited v t)
    go None p = and_false (not v.verified)
    go (Some u) p =
        ap₂ (λ n b. not v.verified && (ltb n 3 && b)) p.count (over-is v wait (verifies_of calls) u t s.wait_is p s.last) ∙ grouped (not v.verified) (ltb v.attempts 3) (waited v t)

pub failed-is : (v : Verifier) (wait : ℕ) (calls : List Call) (t : ℕ) → Stands v wait calls → v.latest.0 ≤ t → has_failed wait calls t ≡ (is_some v.since && leb 3 v.attempts && waited v t)
failed-is v wait calls t s le = ap (has_failed_since wait (verifies_of calls) t) (run_at v wait calls t s le) ∙ go v.since s.present
  where
    go : (o : Option ℕ) → IsPresent (option_map (λ tick. tick.0) v.settled) v.latest.0 v.attempts v.last v.first (verifies_of calls) o → has_failed_since wait (verifies_of calls) t o ≡ (is_some o && leb 3 v.attempts && waited v t)
    go None p = refl
    go (Some u) p = ap₂ (λ n b. leb 3 n && b) p.count (over-is v wait (verifies_of calls) u t s.wait_is p s.last)

pub going-is : (v : Verifier) (wait : ℕ) (calls : List Call) → Stands v wait calls → is_going (last_verify (verifies_of calls)) ≡ is_under_way v
unfolding is_under_way
going-is v wait calls s = ap is_going s.last ∙ go v.last
  where
    go : (o : Option ℕ) → is_going (option_map (λ b. record { began = b; ended = v.ended }) o) ≡ (is_some o && is_none v.ended)
    go None = refl
    go (Some b) = refl

-- the first of the states that holds
abbrev pub first_of_states : Bool → Bool → Bool → Bool → Bool → VerifyState
first_of_states good verified going failed wanting =
    cond (not good) Idle (cond verified Verified (cond going Sending (cond failed Failed (cond wanting Wanted Waiting))))

same_state : (g g' v v' o o' f f' w w' : Bool) → g ≡ g' → v ≡ v' → o ≡ o' → f ≡ f' → w ≡ w' → first_of_states g v o f w ≡ first_of_states g' v' o' f' w'
same_state g g' v v' o o' f f' w w' a b c d e = cc

pub state-is : (v : Verifier) (wait : ℕ) (calls : List Call) → Stands v wait calls
    → first_of_states (is_some v.since) v.verified (is_under_way v) (is_some v.since && leb 3 v.attempts && waited v v.latest.0) (is_wanting v v.latest.0) ≡ state_at wait calls (last_tick calls)
state-is v wait calls s =
    let now : v.latest.0 ≤ v.latest.0 = omega arith in
    same_state _ _ _ _ _ _ _ _ _ _ (sym (s.steady v.latest.0 s.settled_by)) (sym (verified_at-is v wait calls v.latest.0 s now)) (sym (going-is v wait calls s))
    (sym (failed-is v wait calls v.latest.0 s now)) (sym (wanted_at-is v wait calls v.latest.0 s now))
    ∙ ap (state_at wait calls) s.latest

pub state_by : (g v o f w : Bool) (r : VerifyState) (g' v' o' f' w' : Bool) → g ≡ g' → v ≡ v' → o ≡ o' → f ≡ f' → w ≡ w' → r ≡ first_of_states g' v' o' f' w' → r ≡ first_of_states g v o f w
state_by g v o f w r g' v' o' f' w' a b c d e h = cc

pub sends : (v : Verifier) (wait : ℕ) (calls : List Call) → Stands v wait calls → is_some v.since ≡ true → v.verified ≡ false → is_under_way v ≡ true → Sending ≡ state_at wait calls (last_tick calls)
sends v wait calls s a b c = state_by (is_some v.since) v.verified (is_under_way v) _ _ Sending true false true _ _ a b c refl refl refl ∙ state-is v wait calls s

pub fails : (v : Verifier) (wait : ℕ) (calls : List Call) → Stands v wait calls → is_some v.since ≡ true → v.verified ≡ false → is_under_way v ≡ false
    → (is_some v.since && leb 3 v.attempts && waited v v.latest.0) ≡ true → Failed ≡ state_at wait calls (last_tick calls)
fails v wait calls s a b c d = state_by (is_some v.since) v.verified (is_under_way v) _ _ Failed true false false true _ a b c d refl refl ∙ state-is v wait calls s

pub wants_or_waits : (v : Verifier) (wait : ℕ) (calls : List Call) (w : Bool) → Stands v wait calls → is_some v.since ≡ true → v.verified ≡ false → is_under_way v ≡ false
    → (is_some v.since && leb 3 v.attempts && waited v v.latest.0) ≡ false → is_wanting v v.latest.0 ≡ w → cond w Wanted Waiting ≡ state_at wait calls (last_tick calls)
wants_or_waits v wait calls w s a b c d e =
    state_by (is_some v.since) v.verified (is_under_way v) _ (is_wanting v v.latest.0) (cond w Wanted Waiting) true false false false w a b c d e refl ∙ state-is v wait calls s
