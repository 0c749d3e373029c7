use Rattle.std.proofs.Common.{[], ◌∷◌, ◌++◌, None, ◌∙◌, sym, ap, subst, arith, set, cond}
use Rattle.std.specs.Vec.{vec_capacity}
use Rattle.std.specs.Result.{is_ok}
use Rattle.pre_base.specs.declared.limits.TheConstants.{GREATEST_FRAME}
use Rattle.pre_rings.specs.Slots.{IsKept}
use Rattle.pre_rings.proofs.SlotLemmas.{out_at, set_in}
use Rattle.pre_rings.proofs.KeptLemmas.{out_has_room, IsKept-push}
use Rattle.pre_rings.proofs.store.FrameStore.give_back.Goals as goal

pub index_mut-requires : goal.index_mut-requires
index_mut-requires c =
    let out = out_at GREATEST_FRAME c.self.inside.sizes.items c.self.inside.octets.items c.args.self.now c.args.slot c.from.result c.self.view_is (c.from.ensures ∙ c.place.ensures) c.requires in
    omega (arith, out.1, c.self.inside.sizes.ok.0)

pub unwrap-requires : goal.unwrap-requires
unwrap-requires c =
    let sizes = c.self.inside.sizes.items in
    let region = c.self.inside.octets.items in
    let out = out_at GREATEST_FRAME sizes region c.args.self.now c.args.slot c.from.result c.self.view_is (c.from.ensures ∙ c.place.ensures) c.requires in
    let room = out_has_room GREATEST_FRAME sizes region c.self.inside.free.items (vec_capacity c.self.inside.free) c.from.result out.0 c.self.invariant out.1 out.2 in
    c.push.ensures.succeeds (omega (arith, room, c.self.inside.free.ok.0))

pub invariant_of-self : goal.invariant_of-self
invariant_of-self c =
    let sizes = c.self.inside.sizes.items in
    let region = c.self.inside.octets.items in
    let at = c.from.result in
    let out = out_at GREATEST_FRAME sizes region c.args.self.now c.args.slot at c.self.view_is (c.from.ensures ∙ c.place.ensures) c.requires in
    let pushed = c.push.ensures.items ∙ ap (λ r. cond (is_ok r) (c.self.inside.free.items ++ c.args.slot ∷ []) c.self.inside.free.items) c.unwrap.ensures ∙ ap (λ p. c.self.inside.free.items ++ p ∷ []) (sym (c.from.ensures ∙ c.place.ensures)) in
    subst (λ l. IsKept GREATEST_FRAME (set sizes at None) region l (vec_capacity c.push.new.self)) (sym pushed)
    (IsKept-push GREATEST_FRAME sizes region c.self.inside.free.items (vec_capacity c.self.inside.free) (vec_capacity c.push.new.self) at out.0 c.push.ensures.capacity out.1 out.2 c.self.invariant)

pub returns : goal.returns
returns c = set_in GREATEST_FRAME c.self.inside.sizes.items c.self.inside.octets.items c.args.self.now c.args.slot c.from.result c.self.view_is (c.from.ensures ∙ c.place.ensures)
