use Rattle.std.proofs.Common.{◌≡◌, ◌+◌, ◌*◌, ℕ, sym, ◌∙◌, ap, ap₂, subst, List, Option}
use Rattle.std.specs.Prelude.{nat_le}
use Rattle.pre_send.specs.declared.going.Going.{Going}
use Rattle.pre_send.specs.Calls.{Told}
use Rattle.pre_send.specs.Sendings.{IsFree}
use Rattle.pre_send.specs.Senders.{is_free_with}
use Rattle.pre_send.proofs.Standing.{free_is}
use Rattle.pre_send.proofs.senders.Sender.free.Goals as goal

pub returns-in-Some-last-clause-exact : goal.returns-in-Some-last-clause-exact
returns-in-Some-last-clause-exact c = λ cost add_frag calls st.
    let s = c.args.self.now in
    let t : ℕ = c.args.now.0 in
    let known = free_is cost s.going s.kept s.last st.packets t st.place in
    let same : is_free_with s.going cost s.last t ≡ nat_le (c.in-Some-last.last + 12 * s.cost) t =
    ap₂ (λ (g : Option Going) (l : Option ℕ). is_free_with g cost l t) c.in-None.is c.in-Some-last.is ∙ ap (λ (k : ℕ). nat_le (c.in-Some-last.last + 12 * k) t) (sym st.cost_is) in (
      λ h. subst (λ (l : List Told). IsFree cost l t) (sym st.sending.told) (known.0 (same ∙ h)),
      λ h. sym same ∙ known.1 (subst (λ (l : List Told). IsFree cost l t) st.sending.told h),
    )
