use Rattle.std.proofs.Common.{◌≡◌, ◌+◌, set, refl, sym, ap, ap₂, ◌∙◌, arith}
use Rattle.std.specs.Vec.{with_item}
use Rattle.std.proofs.lemmas.Option.{slice_get_within, same_Some, none-some}
use Rattle.std.specs.Prelude.{IsErr}
use Rattle.pre_bridge.specs.Table.{arc_among}
use Rattle.pre_bridge.proofs.Standing.{at_place, onward_is, Stands-refused, deliver_some}
use Rattle.pre_bridge.proofs.Results.{ok_of, no_err}
use Rattle.pre_bridge.proofs.relays.Relay.deliver.Goals as goal

pub returns-in_default-clause-stands : goal.returns-in_default-clause-stands
returns-in_default-clause-stands c net streams calls s =
    let here = at_place c.args.self.now c.args.arc.0 c.from-place.result c.index-ingress.result.now c.requires.room c.from-place.ensures c.index-ingress.ensures in
    Stands-refused c.args.self.now net streams calls c.args.now.0 c.args.arc.0 c.args.frame s
    ((onward_is c.args.self.now net streams calls c.args.arc.0 c.args.frame.vid c.index-ingress.result.now s here.0).0
    ∙ ap (λ hops. arc_among hops c.index-ingress.result.now.node c.args.frame.vid) (sym c.deref.ensures.value) ∙ sym c.in_default.ensures)

pub returns-in_default-clause-refused : goal.returns-in_default-clause-refused
returns-in_default-clause-refused c net streams calls s =
    let here = at_place c.args.self.now c.args.arc.0 c.from-place.result c.index-ingress.result.now c.requires.room c.from-place.ensures c.index-ingress.ensures in (
      λ err. (onward_is c.args.self.now net streams calls c.args.arc.0 c.args.frame.vid c.index-ingress.result.now s here.0).0
          ∙ ap (λ hops. arc_among hops c.index-ingress.result.now.node c.args.frame.vid) (sym c.deref.ensures.value) ∙ sym c.in_default.ensures,
      λ none. refl,
    )

pub index_mut-requires : goal.index_mut-requires
index_mut-requires c =
    let here = at_place c.args.self.now c.args.arc.0 c.from-place.result c.index-ingress.result.now c.requires.room c.from-place.ensures c.index-ingress.ensures in
    omega (arith, slice_get_within c.args.self.now.ingresses.items c.args.arc.0 c.index-ingress.result.now here.0)

pub returns-clause-stands : goal.returns-clause-stands
returns-clause-stands c net streams calls s =
    let here = at_place c.args.self.now c.args.arc.0 c.from-place.result c.index-ingress.result.now c.requires.room c.from-place.ensures c.index-ingress.ensures in
    let there = at_place c.args.self.now c.args.arc.0 c.from-place.result c.index_mut.result.now c.requires.room c.from-place.ensures c.index_mut.ensures.value in
    let same : c.index_mut.result.now ≡ c.index-ingress.result.now = same_Some c.index_mut.result.now c.index-ingress.result.now (sym there.0 ∙ here.0) in
    let ok : ¬ IsErr c.keep.result = λ err. absurd (omega (arith, c.keep.ensures.full.0 err, there.1)) in
    deliver_some c.args.self.now (record c.args.self.now { ingresses = with_item c.args.self.now.ingresses c.from-place.result c.keep.new.self; latest = c.args.now }) net streams calls c.args.now.0 c.args.arc.0 c.args.frame c.in-Some.next
    (record { due = record { 0 = c.args.now.0 + c.from.result }; next = c.in-Some.next; frame = c.args.frame }) c.index_mut.result.now c.keep.new.self s there.0 there.1 c.requires.order
    (ap₂ (λ hops node. arc_among hops node c.args.frame.vid) (sym c.deref.ensures.value) (ap (λ n. n.node) same) ∙ sym c.in-Some.ensures)
    (ap (λ n. record { due = record { 0 = c.args.now.0 + n }; next = c.in-Some.next; frame = c.args.frame }) (c.from.ensures ∙ sym (ap (λ n. n.latency) same)))
    (ok_of c.keep.result ok c.keep.ensures.kept) refl (ap (λ i. set c.args.self.now.ingresses.items i c.keep.new.self) c.from-place.ensures) refl

pub returns-clause-refused : goal.returns-clause-refused
returns-clause-refused c net streams calls s =
    let here = at_place c.args.self.now c.args.arc.0 c.from-place.result c.index-ingress.result.now c.requires.room c.from-place.ensures c.index-ingress.ensures in
    let there = at_place c.args.self.now c.args.arc.0 c.from-place.result c.index_mut.result.now c.requires.room c.from-place.ensures c.index_mut.ensures.value in
    let goes = (onward_is c.args.self.now net streams calls c.args.arc.0 c.args.frame.vid c.index-ingress.result.now s here.0).0
    ∙ ap (λ hops. arc_among hops c.index-ingress.result.now.node c.args.frame.vid) (sym c.deref.ensures.value) ∙ sym c.in-Some.ensures in
    (λ err. absurd (omega (arith, c.keep.ensures.full.0 err, there.1)), λ none. absurd (none-some c.in-Some.next (sym none ∙ goes)))

pub returns-clause-back : goal.returns-clause-back
returns-clause-back c =
    let there = at_place c.args.self.now c.args.arc.0 c.from-place.result c.index_mut.result.now c.requires.room c.from-place.ensures c.index_mut.ensures.value in
    no_err _ c.keep.result (λ err. absurd (omega (arith, c.keep.ensures.full.0 err, there.1)))
