use Rattle.std.proofs.Common.{◌≡◌, [], All, IsSome, ◌∙◌, sym, subst, arith, set, Some}
use Rattle.std.specs.Vec.{vec_capacity}
use Rattle.std.proofs.lemmas.List.{nil_from_length}
use Rattle.pre_base.specs.declared.limits.TheConstants.{GREATEST_FRAME}
use Rattle.pre_rings.specs.Slots.{IsKept}
use Rattle.pre_rings.proofs.SlotLemmas.{slots_are_out, in_at, set_out}
use Rattle.pre_rings.proofs.KeptLemmas.{IfNone-always, all_are_out, pop_is_in, IsKept-pop}
use Rattle.pre_rings.proofs.store.FrameStore.take_slot.Goals as goal

pub returns-in_err-slot-clause-all_out : goal.returns-in_err-slot-clause-all_out
returns-in_err-slot-clause-all_out c =
    let sizes = c.self.inside.sizes.items in
    let region = c.self.inside.octets.items in
    let empty : c.self.inside.free.items ≡ [] = nil_from_length c.self.inside.free.items (omega (arith, c.in_err-slot.ensures.cases, c.self.inside.free.ok.0)) in
    let kept = subst (λ l. IsKept GREATEST_FRAME sizes region l (vec_capacity c.self.inside.free)) empty c.self.invariant in
    IfNone-always c.from_residual.result (subst (λ v. All (λ entry. IsSome entry) v) c.self.view_is (slots_are_out GREATEST_FRAME sizes region (all_are_out GREATEST_FRAME sizes region _ kept)))

pub invariant_of-self-2 : goal.invariant_of-self-2
invariant_of-self-2 c =
    let sizes = c.self.inside.sizes.items in
    let region = c.self.inside.octets.items in
    let kept = subst (λ l. IsKept GREATEST_FRAME sizes region l (vec_capacity c.self.inside.free)) c.in_ok-slot.ensures.items c.self.invariant in
    subst (λ p. IsKept GREATEST_FRAME (set sizes p (Some 0)) region c.pop.new.self.items (vec_capacity c.pop.new.self)) (sym (c.from.ensures ∙ c.place.ensures))
    (IsKept-pop GREATEST_FRAME sizes region c.pop.new.self.items (vec_capacity c.self.inside.free) (vec_capacity c.pop.new.self) c.in_ok-slot.slot (omega (arith, c.in_ok-slot.ensures.capacity)) kept)

pub returns-clause-was_in : goal.returns-clause-was_in
returns-clause-was_in c =
    let sizes = c.self.inside.sizes.items in
    let region = c.self.inside.octets.items in
    let kept = subst (λ l. IsKept GREATEST_FRAME sizes region l (vec_capacity c.self.inside.free)) c.in_ok-slot.ensures.items c.self.invariant in
    let was = pop_is_in GREATEST_FRAME sizes region c.pop.new.self.items (vec_capacity c.self.inside.free) c.in_ok-slot.slot kept in
    in_at GREATEST_FRAME sizes region c.args.self.now c.in_ok-slot.slot c.self.view_is was.0 was.1

pub returns-clause-taken : goal.returns-clause-taken
returns-clause-taken c = set_out GREATEST_FRAME c.self.inside.sizes.items c.self.inside.octets.items c.args.self.now c.in_ok-slot.slot c.from.result c.self.view_is (c.from.ensures ∙ c.place.ensures)
