use Rattle.std.proofs.Common.{ℕ, [], ◌∷◌, ◌++◌, refl, sym, ap, subst, ◌∙◌}
use Rattle.std.specs.Prelude.{option_map}
use Rattle.pre_lldp.specs.LinkState.{is_answered, is_verified_since, last_verify, verifies_since}
use Rattle.pre_verify.specs.Calls.{Call, responded, verifies_of, responds_of}
use Rattle.pre_verify.specs.Verifiers.{IsPresent}
use Rattle.pre_verify.proofs.Runs.{last_tick-push, good_of-push, verifies_of-push, responds_of-push}
use Rattle.pre_verify.proofs.Standing.{IsBy-later}
use Rattle.pre_verify.proofs.Steps.{run-kept, present-later, verified-responded, heard-responded}
use Rattle.pre_verify.proofs.verifiers.Verifier.responded.Goals as goal

pub returns-clause-stands : goal.returns-clause-stands
returns-clause-stands c = λ wait calls s.
    let v = c.args.self.now in
    let t : ℕ = c.args.now.0 in
    let call : Call = responded t in
    let vs = verifies_of-push calls call in
    let rs = responds_of-push calls call in
    record {
      wait_is = s.wait_is;
      latest = sym (last_tick-push calls call);
      settled_by = IsBy-later (option_map (λ tick. tick.0) v.settled) v.latest.0 t s.settled_by c.requires;
      last_by = IsBy-later v.last v.latest.0 t s.last_by c.requires;
      steady = λ i from. good_of-push calls call i ∙ s.steady i from;
      run = run-kept v wait calls call t s c.requires (λ i b. refl);
      heard = λ q began le.
          ap (λ xs. is_answered xs q began) rs
          ∙ heard-responded (responds_of calls) v.latest.0 t q began (λ r b h. s.heard r b h) c.requires le
          ∙ sym (ap (λ xs. is_answered xs t began) rs);
      verified = c.is_verified_by-self.ensures
          ∙ verified-responded (option_map (λ tick. tick.0) v.settled) v.latest.0 t v.attempts v.last v.first (verifies_of calls) (responds_of calls) v.since v.verified s.present (λ b. s.heard t b c.requires) s.verified
          ∙ ap (λ xs. is_verified_since (verifies_of calls) xs t v.since) (sym rs) ∙ ap (λ ys. is_verified_since ys (responds_of (calls ++ call ∷ [])) t v.since) (sym vs);
      last = ap last_verify vs ∙ s.last;
      newest = λ u b. ap (verifies_since u) vs ∙ s.newest u b;
      present = subst (λ ys. IsPresent (option_map (λ tick. tick.0) v.settled) t v.attempts v.last v.first ys v.since) (sym vs)
          (present-later (option_map (λ tick. tick.0) v.settled) v.latest.0 t v.attempts v.last v.first (verifies_of calls) v.since c.requires s.present);
    }
