use Rattle.std.proofs.Common.{◌≡◌, ◌+◌, ◌*◌, ℕ, sym, ap, subst, inr, List, Option, Some, None, refl, Bool, false}
use Rattle.std.specs.Prelude.{is_some}
use Rattle.pre_base.specs.declared.numbers.Tick.{Tick}
use Rattle.pre_send.specs.declared.going.Going.{Going}
use Rattle.pre_send.specs.Calls.{Told}
use Rattle.pre_send.specs.Answers.{IsFreeAt}
use Rattle.pre_send.specs.Senders.{IsAt}
use Rattle.pre_send.proofs.Standing.{free_from, gone_from}
use Rattle.pre_send.proofs.senders.Sender.free_at.Goals as goal

none_from : (o : Option Going) → (b : Bool) → b ≡ is_some o → b ≡ false → o ≡ None
none_from None b is no_one = refl
none_from (Some g) b is no_one = absurd (cc (is, no_one))

pub returns-in-Some-clause-exact : goal.returns-in-Some-clause-exact
returns-in-Some-clause-exact c = λ cost add_frag calls st.
    let s = c.args.self.now in
    let t : Tick = record { 0 = c.in-Some.last + 12 * s.cost } in
    let idle : s.going ≡ None = none_from s.going c.is_some.result c.is_some.ensures c.if-is_some.false in
    let at = subst (λ (g : Option Going). IsAt cost g s.kept s.last st.packets) idle st.place in
    let from = gone_from cost s.last t.0 (inr (c.in-Some.last, c.in-Some.is, ap (λ (k : ℕ). c.in-Some.last + 12 * k) st.cost_is)) in
    subst (λ (l : List Told). IsFreeAt cost l (Some t)) (sym st.sending.told) (free_from cost s.kept s.last st.packets t at from)
