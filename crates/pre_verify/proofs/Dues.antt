-- When time alone changes what a verifier says.
use Rattle.std.proofs.Common.{◌≡◌, ◌≢◌, ℕ, ◌+◌, ◌<◌, ◌≤◌, ◌&&◌, ◌||◌, Bool, true, false, leb, List, Some, None, refl, sym, ap, ap₂, subst, ◌∙◌, arith}
use Rattle.std.specs.Prelude.{◌==◌}
use Rattle.std.specs.Option.{option_map_or}
use Rattle.std.proofs.lemmas.Bool.{le-leb, lt-leb, ne_eqb, eq-eqb, true≢false}
use Rattle.pre_verify.specs.Calls.{Call, Same, IsDue}
use Rattle.pre_verify.specs.Verifiers.{Stands, waited, is_trying, is_wanting}
use Rattle.pre_verify.specs.declared.verifiers.Verifier.{Verifier}
use Rattle.pre_verify.proofs.Standing.{verified_at-is, wanted_at-is}

same : (v : Verifier) (wait : ℕ) (calls : List Call) (t : ℕ) → Stands v wait calls → v.latest.0 ≤ t → is_wanting v t ≡ is_wanting v v.latest.0 → Same wait calls v.latest.0 t
same v wait calls t s le e =
    let now : v.latest.0 ≤ v.latest.0 = omega arith in
    (verified_at-is v wait calls t s le ∙ sym (verified_at-is v wait calls v.latest.0 s now), wanted_at-is v wait calls t s le ∙ e ∙ sym (wanted_at-is v wait calls v.latest.0 s now))

due-none : (v : Verifier) (wait : ℕ) (calls : List Call) → Stands v wait calls → ((t : ℕ) → v.latest.0 ≤ t → is_wanting v t ≡ is_wanting v v.latest.0) → IsDue wait calls None
due-none v wait calls s steady =
    subst (λ (T : ℕ). (t : ℕ) → T ≤ t → Same wait calls T t) s.latest (λ t le. same v wait calls t s le (steady t le))

-- no verify is wanted, now or later
pub due-not_trying : (v : Verifier) (wait : ℕ) (calls : List Call) → Stands v wait calls → is_trying v ≡ false → IsDue wait calls None
unfolding is_wanting
due-not_trying v wait calls s e = due-none v wait calls s (λ t le. ap (λ b. b && waited v t) e ∙ sym (ap (λ b. b && waited v v.latest.0) e))

-- one is wanted from now on
pub due-first : (v : Verifier) (wait : ℕ) (calls : List Call) → Stands v wait calls → v.attempts ≡ 0 → IsDue wait calls None
unfolding is_wanting
due-first v wait calls s e =
    let zero_is : (v.attempts == 0) ≡ true = eq-eqb v.attempts 0 e in
    due-none v wait calls s (λ t le.
    ap (λ b. is_trying v && (b || option_map_or (λ ended. leb (ended + v.wait) t) v.ended false)) zero_is
    ∙ sym (ap (λ b. is_trying v && (b || option_map_or (λ ended. leb (ended + v.wait) v.latest.0) v.ended false)) zero_is))

-- a verify is under way
pub due-going : (v : Verifier) (wait : ℕ) (calls : List Call) → Stands v wait calls → v.ended ≡ None → IsDue wait calls None
unfolding is_wanting
due-going v wait calls s e =
    due-none v wait calls s (λ t le.
    ap (λ o. is_trying v && ((v.attempts == 0) || option_map_or (λ ended. leb (ended + v.wait) t) o false)) e
    ∙ sym (ap (λ o. is_trying v && ((v.attempts == 0) || option_map_or (λ ended. leb (ended + v.wait) v.latest.0) o false)) e))

waited-ended : (v : Verifier) (e t : ℕ) → v.ended ≡ Some e → (b : Bool) → (v.attempts == 0) ≡ b → leb (e + v.wait) t ≡ true → waited v t ≡ true
waited-ended v e t is true z h = ap (λ b. b || option_map_or (λ ended. leb (ended + v.wait) t) v.ended false) z
waited-ended v e t is false z h = ap₂ (λ b o. b || option_map_or (λ ended. leb (ended + v.wait) t) o false) z is ∙ h

waits-ended : (v : Verifier) (e t : ℕ) → v.ended ≡ Some e → (v.attempts == 0) ≡ false → leb (e + v.wait) t ≡ false → waited v t ≡ false
waits-ended v e t is z h = ap₂ (λ b o. b || option_map_or (λ ended. leb (ended + v.wait) t) o false) z is ∙ h

-- the verify time is over already
pub due-over : (v : Verifier) (wait : ℕ) (calls : List Call) (e : ℕ) → Stands v wait calls → v.ended ≡ Some e → e + v.wait ≤ v.latest.0 → IsDue wait calls None
unfolding is_wanting
due-over v wait calls e s is h =
    due-none v wait calls s (λ t le.
    ap (λ b. is_trying v && b) (waited-ended v e t is (v.attempts == 0) refl (le-leb (e + v.wait) t (omega arith)) ∙ sym (waited-ended v e v.latest.0 is (v.attempts == 0) refl (le-leb (e + v.wait) v.latest.0 h))))

-- it ends later
pub due-later : (v : Verifier) (wait : ℕ) (calls : List Call) (e : ℕ) → Stands v wait calls → is_trying v ≡ true → v.attempts ≢ 0 → v.ended ≡ Some e → v.latest.0 < e + v.wait → IsDue wait calls (Some (e + v.wait))
unfolding is_wanting
due-later v wait calls e s trying some is later =
    let over : ℕ = e + v.wait in
    let zero_not : (v.attempts == 0) ≡ false = ne_eqb v.attempts 0 some in
    let off : (t : ℕ) → t < over → is_wanting v t ≡ false = λ t h. ap₂ (λ a b. a && b) trying (waits-ended v e t is zero_not (lt-leb over t h)) in
    let on : is_wanting v over ≡ true = ap₂ (λ a b. a && b) trying (waited-ended v e over is (v.attempts == 0) refl (le-leb over over (omega arith))) in
    subst (λ (T : ℕ). (T < over) × (¬ Same wait calls T over) × ((t : ℕ) → T ≤ t → t < over → Same wait calls T t)) s.latest (
      later,
      (λ h. true≢false (sym on ∙ sym (wanted_at-is v wait calls over s (omega arith)) ∙ h.1 ∙ wanted_at-is v wait calls v.latest.0 s (omega arith) ∙ off v.latest.0 later)),
      (λ t le h. same v wait calls t s le (off t h ∙ sym (off v.latest.0 later))),
    )
