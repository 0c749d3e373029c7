use Rattle.std.proofs.Common.{◌≡◌, ◌*◌, Some, length, set, ◌∙◌, sym, ap, subst, arith, refl}
use Rattle.std.specs.Vec.{vec_capacity}
use Rattle.std.proofs.lemmas.List.{with_items_is}
use Rattle.pre_base.specs.declared.limits.TheConstants.{GREATEST_FRAME}
use Rattle.pre_rings.specs.Slots.{slots_of, IsKept}
use Rattle.pre_rings.proofs.SlotLemmas.{out_at, written, length-written, set_filled}
use Rattle.pre_rings.proofs.KeptLemmas.{part_within, IsKept-fill}
use Rattle.pre_rings.proofs.store.FrameStore.fill.Goals as goal

pub put_part-requires : goal.put_part-requires
put_part-requires c =
    let sizes = c.self.inside.sizes.items in
    let region = c.self.inside.octets.items in
    let at = c.from-place.result in
    let out = out_at GREATEST_FRAME sizes region c.args.self.now c.args.slot.now at c.self.view_is (c.from-place.ensures ∙ c.place.ensures) c.requires.out in
    let room = part_within GREATEST_FRAME sizes region c.self.inside.free.items _ at (length c.args.octets.now) c.self.invariant out.1 c.requires.size in
    omega (arith, room, ap length c.deref_mut.ensures.value)

pub index_mut-requires : goal.index_mut-requires
index_mut-requires c =
    let out = out_at GREATEST_FRAME c.self.inside.sizes.items c.self.inside.octets.items c.args.self.now c.args.slot.now c.from-place.result c.self.view_is (c.from-place.ensures ∙ c.place.ensures) c.requires.out in
    omega (arith, out.1, c.self.inside.sizes.ok.0)

pub invariant_of-self : goal.invariant_of-self
invariant_of-self c =
    let sizes = c.self.inside.sizes.items in
    let region = c.self.inside.octets.items in
    let at = c.from-place.result in
    let octets = c.args.octets.now in
    let out = out_at GREATEST_FRAME sizes region c.args.self.now c.args.slot.now at c.self.view_is (c.from-place.ensures ∙ c.place.ensures) c.requires.out in
    let room = part_within GREATEST_FRAME sizes region c.self.inside.free.items _ at (length octets) c.self.invariant out.1 c.requires.size in
    let new : c.put_part.new.region ≡ written region (at * GREATEST_FRAME) octets = c.put_part.ensures ∙ ap (λ r. written r (at * GREATEST_FRAME) octets) c.deref_mut.ensures.value in
    let long = ap length new ∙ length-written region (at * GREATEST_FRAME) octets room in
    let same = with_items_is c.self.inside.octets c.put_part.new.region (long ∙ sym c.self.inside.octets.ok.0) in
    subst (λ r. IsKept GREATEST_FRAME (set sizes at (Some (length octets))) r c.self.inside.free.items (vec_capacity c.self.inside.free)) (sym same)
    (IsKept-fill GREATEST_FRAME sizes region c.put_part.new.region c.self.inside.free.items (vec_capacity c.self.inside.free) at out.0 (length octets) out.1 out.2 c.requires.size long c.self.invariant)

pub returns : goal.returns
returns c =
    let sizes = c.self.inside.sizes.items in
    let region = c.self.inside.octets.items in
    let at = c.from-place.result in
    let octets = c.args.octets.now in
    let place = c.from-place.ensures ∙ c.place.ensures in
    let out = out_at GREATEST_FRAME sizes region c.args.self.now c.args.slot.now at c.self.view_is place c.requires.out in
    let room = part_within GREATEST_FRAME sizes region c.self.inside.free.items _ at (length octets) c.self.invariant out.1 c.requires.size in
    let new : c.put_part.new.region ≡ written region (at * GREATEST_FRAME) octets = c.put_part.ensures ∙ ap (λ r. written r (at * GREATEST_FRAME) octets) c.deref_mut.ensures.value in
    let long = ap length new ∙ length-written region (at * GREATEST_FRAME) octets room in
    let same = with_items_is c.self.inside.octets c.put_part.new.region (long ∙ sym c.self.inside.octets.ok.0) ∙ new in
    ap (slots_of GREATEST_FRAME (set sizes at (Some (length octets)))) same
    ∙ set_filled GREATEST_FRAME sizes region octets c.args.self.now c.args.slot.now at (at * GREATEST_FRAME) c.self.view_is place refl c.requires.size c.self.invariant.whole out.1 c.self.invariant.widths
