use Rattle.std.proofs.Common.{◌≡◌, ℕ, true, false, [], ◌∷◌, ◌++◌, Some, None, refl, sym, ap, subst, ◌∙◌, arith}
use Rattle.std.specs.Prelude.{option_map}
use Rattle.std.proofs.lemmas.List.{append-nil}
use Rattle.pre_lldp.specs.LinkState.{run_start, is_answered, is_verified_since, last_verify, verifies_since}
use Rattle.pre_verify.specs.Calls.{Call, settled, good_of, verifies_of, responds_of}
use Rattle.pre_verify.specs.Verifiers.{IsPresent, IsRun}
use Rattle.pre_verify.proofs.Runs.{last_tick-push, good_of-push, verifies_of-push, responds_of-push, no_run}
use Rattle.pre_verify.proofs.Standing.{IsBy-later, verified_later}
use Rattle.pre_verify.proofs.Steps.{settles-from, run-new, run-continued_any, none_from, quiet-none, quiet-before, verified-new, present-new, present-settled_any}
use Rattle.pre_verify.proofs.verifiers.Verifier.settle.Goals as goal

pub returns-then-not-good-clause-stands : goal.returns-then-not-good-clause-stands
returns-then-not-good-clause-stands c = λ wait calls s.
    let v = c.args.self.now in
    let t : ℕ = c.args.now.0 in
    let call : Call = settled t c.args.good in
    let vs : verifies_of (calls ++ call ∷ []) ≡ verifies_of calls = verifies_of-push calls call in
    let rs : responds_of (calls ++ call ∷ []) ≡ responds_of calls = responds_of-push calls call ∙ append-nil (responds_of calls) in
    let good : c.args.good ≡ false = c.if-not-good.true in
    record {
      wait_is = s.wait_is;
      latest = sym (last_tick-push calls call);
      settled_by = omega arith;
      last_by = IsBy-later v.last v.latest.0 t s.last_by c.requires.order;
      steady = λ i from. good_of-push calls call i ∙ settles-from t i (good_of calls i) c.args.good from ∙ good;
      run = no_run (good_of (calls ++ call ∷ [])) t (good_of-push calls call t ∙ settles-from t t (good_of calls t) c.args.good (omega arith) ∙ good);
      heard = λ q began le. ap (λ xs. is_answered xs q began) rs ∙ s.heard q began (omega arith) ∙ sym (s.heard t began c.requires.order) ∙ sym (ap (λ xs. is_answered xs t began) rs);
      verified = refl;
      last = ap last_verify vs ∙ s.last;
      newest = λ u b. ap (verifies_since u) vs ∙ s.newest u b;
      present = IsBy-later v.last v.latest.0 t s.last_by c.requires.order;
    }

pub returns-then-is_some-clause-stands : goal.returns-then-is_some-clause-stands
returns-then-is_some-clause-stands c = λ wait calls s.
    let v = c.args.self.now in
    let t : ℕ = c.args.now.0 in
    let call : Call = settled t c.args.good in
    let vs : verifies_of (calls ++ call ∷ []) ≡ verifies_of calls = verifies_of-push calls call in
    let rs : responds_of (calls ++ call ∷ []) ≡ responds_of calls = responds_of-push calls call ∙ append-nil (responds_of calls) in
    let some = sym c.if-is_some.ensures in
    let good : c.args.good ≡ true = c.if-not-good.false in
    record {
      wait_is = s.wait_is;
      latest = sym (last_tick-push calls call);
      settled_by = omega arith;
      last_by = IsBy-later v.last v.latest.0 t s.last_by c.requires.order;
      steady = λ i from. good_of-push calls call i ∙ settles-from t i (good_of calls i) c.args.good from ∙ good ∙ sym some;
      run = ap (λ g. run_start (good_of (calls ++ settled t g ∷ [])) t) good ∙ run-continued_any v wait calls t s some c.requires.order c.requires.later;
      heard = λ q began le. ap (λ xs. is_answered xs q began) rs ∙ s.heard q began (omega arith) ∙ sym (s.heard t began c.requires.order) ∙ sym (ap (λ xs. is_answered xs t began) rs);
      verified = s.verified ∙ sym (verified_later (verifies_of calls) (responds_of calls) v.latest.0 t v.since (λ b. s.heard t b c.requires.order))
          ∙ ap (λ xs. is_verified_since (verifies_of calls) xs t v.since) (sym rs) ∙ ap (λ ys. is_verified_since ys (responds_of (calls ++ call ∷ [])) t v.since) (sym vs);
      last = ap last_verify vs ∙ s.last;
      newest = λ u b. ap (verifies_since u) vs ∙ s.newest u b;
      present = subst (λ ys. IsPresent (Some t) t v.attempts v.last v.first ys v.since) (sym vs)
          (present-settled_any (option_map (λ tick. tick.0) v.settled) v.latest.0 t v.attempts v.last v.first (verifies_of calls) v.since some c.requires.order s.present);
    }

pub returns-clause-stands : goal.returns-clause-stands
returns-clause-stands c = λ wait calls s.
    let v = c.args.self.now in
    let t : ℕ = c.args.now.0 in
    let call : Call = settled t c.args.good in
    let vs : verifies_of (calls ++ call ∷ []) ≡ verifies_of calls = verifies_of-push calls call in
    let rs : responds_of (calls ++ call ∷ []) ≡ responds_of calls = responds_of-push calls call ∙ append-nil (responds_of calls) in
    let none = none_from v.since (sym c.if-is_some.ensures) in
    let good : c.args.good ≡ true = c.if-not-good.false in
    let quiet = quiet-none (option_map (λ tick. tick.0) v.settled) v.latest.0 v.attempts v.last v.first (verifies_of calls) v.since none s.present in
    let nothing : verifies_since t (verifies_of calls) ≡ [] = s.newest t (quiet-before v.last (option_map (λ tick. tick.0) v.settled) t quiet c.requires.later) in
    record {
      wait_is = s.wait_is;
      latest = sym (last_tick-push calls call);
      settled_by = omega arith;
      last_by = IsBy-later v.last v.latest.0 t s.last_by c.requires.order;
      steady = λ i from. good_of-push calls call i ∙ settles-from t i (good_of calls i) c.args.good from ∙ good;
      run = ap (λ g. run_start (good_of (calls ++ settled t g ∷ [])) t) good ∙ run-new v wait calls t s none c.requires.later;
      heard = λ q began le. ap (λ xs. is_answered xs q began) rs ∙ s.heard q began (omega arith) ∙ sym (s.heard t began c.requires.order) ∙ sym (ap (λ xs. is_answered xs t began) rs);
      verified = s.verified ∙ ap (λ o. is_verified_since (verifies_of calls) (responds_of calls) v.latest.0 o) none
          ∙ verified-new t (verifies_of calls) (responds_of calls) nothing
          ∙ ap (λ xs. is_verified_since (verifies_of calls) xs t (Some t)) (sym rs) ∙ ap (λ ys. is_verified_since ys (responds_of (calls ++ call ∷ [])) t (Some t)) (sym vs);
      last = ap last_verify vs ∙ s.last;
      newest = λ u b. ap (verifies_since u) vs ∙ s.newest u b;
      present = subst (λ ys. IsRun (Some t) t 0 v.last None ys t) (sym vs) (present-new t v.last (verifies_of calls) nothing);
    }
