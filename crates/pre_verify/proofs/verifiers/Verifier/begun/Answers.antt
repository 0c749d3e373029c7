use Rattle.std.proofs.Common.{◌≡◌, ℕ, ◌+◌, [], ◌∷◌, ◌++◌, Some, None, refl, sym, ap, subst, ◌∙◌, arith, rules}
use Rattle.std.specs.Prelude.{option_map}
use Rattle.pre_lldp.specs.LinkState.{Verify, is_answered, is_verified_since, last_verify, verifies_since}
use Rattle.pre_verify.specs.Calls.{Call, begun, verifies_of, responds_of}
use Rattle.pre_verify.specs.Verifiers.{IsPresent}
use Rattle.std.proofs.lemmas.List.{append-nil}
use Rattle.pre_verify.proofs.Lists.{last_verify-push}
use Rattle.pre_verify.proofs.Runs.{last_tick-push, good_of-push, verifies_of-push, responds_of-push}
use Rattle.pre_verify.proofs.Standing.{IsBy-later}
use Rattle.pre_verify.proofs.Steps.{run-kept, wanting-parts, verified-begun, newest-begun, present-begun_any}
use Rattle.pre_verify.proofs.verifiers.Verifier.begun.Goals as goal

pub invariant_of-self : goal.invariant_of-self
invariant_of-self c =
    let wants = wanting-parts c.args.self.now c.args.now.0 c.requires.wanted in
    record { wait_within = search rules; ended_within = λ e is. absurd cc; attempts_within = omega arith }

pub returns-clause-stands : goal.returns-clause-stands
returns-clause-stands c = λ wait calls s.
    let v = c.args.self.now in
    let t : ℕ = c.args.now.0 in
    let call : Call = begun t in
    let x : Verify = record { began = t; ended = None } in
    let vs = verifies_of-push calls call in
    let rs : responds_of (calls ++ call ∷ []) ≡ responds_of calls = responds_of-push calls call ∙ append-nil (responds_of calls) in
    let some = wanting-parts v t c.requires.wanted in
    record {
      wait_is = s.wait_is;
      latest = sym (last_tick-push calls call);
      settled_by = IsBy-later (option_map (λ tick. tick.0) v.settled) v.latest.0 t s.settled_by c.requires.order;
      last_by = omega arith;
      steady = λ i from. good_of-push calls call i ∙ s.steady i from;
      run = run-kept v wait calls call t s c.requires.order (λ i b. refl);
      heard = λ q began le. ap (λ xs. is_answered xs q began) rs ∙ s.heard q began (omega arith) ∙ sym (s.heard t began c.requires.order) ∙ sym (ap (λ xs. is_answered xs t began) rs);
      verified = verified-begun v.latest.0 t (verifies_of calls) (responds_of calls) v.since v.verified (λ b. s.heard t b c.requires.order) s.verified
          ∙ ap (λ xs. is_verified_since (verifies_of calls ++ x ∷ []) xs t v.since) (sym rs) ∙ ap (λ ys. is_verified_since ys (responds_of (calls ++ call ∷ [])) t v.since) (sym vs);
      last = ap last_verify vs ∙ last_verify-push (verifies_of calls) x;
      newest = λ u b. ap (verifies_since u) vs ∙ newest-begun t u v.last (verifies_of calls) s.newest (IsBy-later v.last v.latest.0 t s.last_by c.requires.order) b;
      present = subst (λ ys. IsPresent (option_map (λ tick. tick.0) v.settled) t (v.attempts + 1) (Some t) c.or-self.result ys v.since) (sym vs)
          (subst (λ o. IsPresent (option_map (λ tick. tick.0) v.settled) t (v.attempts + 1) (Some t) o (verifies_of calls ++ x ∷ []) v.since) (sym c.or-self.ensures)
          (present-begun_any (option_map (λ tick. tick.0) v.settled) v.latest.0 t v.attempts v.last v.first (verifies_of calls) v.since some.0 c.requires.order s.present));
    }
