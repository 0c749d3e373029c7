use Rattle.std.proofs.Common.{◌≡◌, ℕ, [], ◌∷◌, ◌++◌, refl, sym, ap, subst, ◌∙◌, arith}
use Rattle.std.specs.Prelude.{option_map}
use Rattle.std.proofs.lemmas.List.{append-nil}
use Rattle.pre_lldp.specs.LinkState.{is_answered, is_verified_since, last_verify, verifies_since}
use Rattle.pre_verify.specs.Calls.{Call, ended, end_last, verifies_of, responds_of}
use Rattle.pre_verify.specs.Verifiers.{IsPresent}
use Rattle.pre_verify.proofs.Lists.{none-end_last}
use Rattle.pre_verify.proofs.Runs.{last_tick-push, good_of-push, verifies_of-push, responds_of-push}
use Rattle.pre_verify.proofs.Standing.{IsBy-later, verified_later}
use Rattle.pre_verify.proofs.Steps.{run-kept, verified-ended, last-ended, present-ended}
use Rattle.pre_verify.proofs.verifiers.Verifier.verify_ended.Goals as goal

pub returns-clause-stands : goal.returns-clause-stands
returns-clause-stands c = λ wait calls s.
    let v = c.args.self.now in
    let t : ℕ = c.args.now.0 in
    let call : Call = ended t in
    let vs = verifies_of-push calls call in
    let rs : responds_of (calls ++ call ∷ []) ≡ responds_of calls = responds_of-push calls call ∙ append-nil (responds_of calls) in
    record {
      wait_is = s.wait_is;
      latest = sym (last_tick-push calls call);
      settled_by = IsBy-later (option_map (λ tick. tick.0) v.settled) v.latest.0 t s.settled_by c.requires.order;
      last_by = IsBy-later v.last v.latest.0 t s.last_by c.requires.order;
      steady = λ i from. good_of-push calls call i ∙ s.steady i from;
      run = run-kept v wait calls call t s c.requires.order (λ i b. refl);
      heard = λ q began le. ap (λ xs. is_answered xs q began) rs ∙ s.heard q began (omega arith) ∙ sym (s.heard t began c.requires.order) ∙ sym (ap (λ xs. is_answered xs t began) rs);
      verified = s.verified ∙ sym (verified_later (verifies_of calls) (responds_of calls) v.latest.0 t v.since (λ b. s.heard t b c.requires.order))
          ∙ sym (verified-ended t (verifies_of calls) (responds_of calls) t v.since)
          ∙ ap (λ xs. is_verified_since (end_last t (verifies_of calls)) xs t v.since) (sym rs) ∙ ap (λ ys. is_verified_since ys (responds_of (calls ++ call ∷ [])) t v.since) (sym vs);
      last = ap last_verify vs ∙ last-ended t (verifies_of calls) v.last v.ended s.last;
      newest = λ u b. ap (verifies_since u) vs ∙ none-end_last u t (verifies_of calls) (s.newest u b);
      present = subst (λ ys. IsPresent (option_map (λ tick. tick.0) v.settled) t v.attempts v.last v.first ys v.since) (sym vs)
          (present-ended (option_map (λ tick. tick.0) v.settled) v.latest.0 t v.attempts v.last v.first (verifies_of calls) v.since c.requires.order s.present);
    }
