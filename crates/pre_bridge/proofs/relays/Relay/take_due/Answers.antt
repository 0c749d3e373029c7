use Rattle.std.proofs.Common.{refl, sym, ap, ◌∙◌}
use Rattle.std.specs.Prelude.{position}
use Rattle.std.specs.Option.{option_map}
use Rattle.pre_bridge.specs.Ingresses.{is_due_at}
use Rattle.std.specs.Vec.{with_item}
use Rattle.pre_bridge.specs.Inside.{handed}
use Rattle.pre_bridge.proofs.Standing.{take_none, take_some, due_place, not_empty}
use Rattle.pre_bridge.proofs.relays.Relay.take_due.Goals as goal

pub returns-in_err-place-clause-stands : goal.returns-in_err-place-clause-stands
returns-in_err-place-clause-stands c net streams calls s = (take_none c.args.self.now net streams calls c.args.now.0 s (ap (position (λ n. is_due_at c.args.now.0 n.queue.items)) (sym c.deref.ensures.value) ∙ sym c.in_err-place.ensures)).0

pub returns-in_err-place-clause-given : goal.returns-in_err-place-clause-given
returns-in_err-place-clause-given c net streams calls s = c.from_residual.ensures ∙ sym (ap (option_map handed) (take_none c.args.self.now net streams calls c.args.now.0 s (ap (position (λ n. is_due_at c.args.now.0 n.queue.items)) (sym c.deref.ensures.value) ∙ sym c.in_err-place.ensures)).1)

pub returns-in_err-waiting-clause-stands : goal.returns-in_err-waiting-clause-stands
returns-in_err-waiting-clause-stands c net streams calls s =
    absurd (not_empty c.args.now.0 c.index_mut.result.now.queue.items (due_place c.args.self.now c.args.now.0 c.in_ok-place.place c.index_mut.result.now (ap (position (λ n. is_due_at c.args.now.0 n.queue.items)) (sym c.deref.ensures.value) ∙ sym c.in_ok-place.ensures) c.index_mut.ensures.value).1 (sym c.in_err-waiting.ensures.oldest))

pub returns-in_err-waiting-clause-given : goal.returns-in_err-waiting-clause-given
returns-in_err-waiting-clause-given c net streams calls s =
    absurd (not_empty c.args.now.0 c.index_mut.result.now.queue.items (due_place c.args.self.now c.args.now.0 c.in_ok-place.place c.index_mut.result.now (ap (position (λ n. is_due_at c.args.now.0 n.queue.items)) (sym c.deref.ensures.value) ∙ sym c.in_ok-place.ensures) c.index_mut.ensures.value).1 (sym c.in_err-waiting.ensures.oldest))

pub returns-clause-stands : goal.returns-clause-stands
returns-clause-stands c net streams calls s =
    (take_some c.args.self.now (record c.args.self.now { ingresses = with_item c.args.self.now.ingresses c.in_ok-place.place c.release.new.self }) net streams calls c.args.now.0 c.in_ok-place.place c.index_mut.result.now c.release.new.self c.in_ok-waiting.waiting s
    (ap (position (λ n. is_due_at c.args.now.0 n.queue.items)) (sym c.deref.ensures.value) ∙ sym c.in_ok-place.ensures) c.index_mut.ensures.value (sym c.in_ok-waiting.ensures.oldest) c.release.ensures.rest refl refl refl).0

pub returns-clause-given : goal.returns-clause-given
returns-clause-given c net streams calls s =
    sym (take_some c.args.self.now (record c.args.self.now { ingresses = with_item c.args.self.now.ingresses c.in_ok-place.place c.release.new.self }) net streams calls c.args.now.0 c.in_ok-place.place c.index_mut.result.now c.release.new.self c.in_ok-waiting.waiting s
    (ap (position (λ n. is_due_at c.args.now.0 n.queue.items)) (sym c.deref.ensures.value) ∙ sym c.in_ok-place.ensures) c.index_mut.ensures.value (sym c.in_ok-waiting.ensures.oldest) c.release.ensures.rest refl refl refl).1
