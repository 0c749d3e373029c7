use Rattle.std.proofs.Common.{◌*◌, Some, length, take, drop, ◌∙◌, sym, ap, arith, refl}
use Rattle.pre_base.specs.declared.limits.TheConstants.{GREATEST_FRAME}
use Rattle.pre_rings.proofs.SlotLemmas.{out_at, held_at}
use Rattle.pre_rings.proofs.KeptLemmas.{part_within, size_within, size_read}
use Rattle.pre_rings.proofs.store.FrameStore.octets.Goals as goal

pub index-requires : goal.index-requires
index-requires c =
    let out = out_at GREATEST_FRAME c.self.inside.sizes.items c.self.inside.octets.items c.args.self.now c.args.slot.now c.from-place.result c.self.view_is (c.from-place.ensures ∙ c.place.ensures) c.requires in
    omega (arith, out.1, c.self.inside.sizes.ok.0)

pub part_of-requires : goal.part_of-requires
part_of-requires c =
    let sizes = c.self.inside.sizes.items in
    let region = c.self.inside.octets.items in
    let at = c.from-place.result in
    let out = out_at GREATEST_FRAME sizes region c.args.self.now c.args.slot.now at c.self.view_is (c.from-place.ensures ∙ c.place.ensures) c.requires in
    let size = c.from-size.ensures ∙ c.unwrap_or.ensures ∙ size_read sizes at out.0 c.index.result.now out.1 c.index.ensures out.2 in
    let short = size_within GREATEST_FRAME sizes region c.self.inside.free.items _ at out.0 c.self.invariant out.1 out.2 in
    let room = part_within GREATEST_FRAME sizes region c.self.inside.free.items _ at out.0 c.self.invariant out.1 short in
    omega (arith, size, room, ap length c.deref.ensures.value)

pub returns : goal.returns
returns c =
    let sizes = c.self.inside.sizes.items in
    let region = c.self.inside.octets.items in
    let at = c.from-place.result in
    let place = c.from-place.ensures ∙ c.place.ensures in
    let out = out_at GREATEST_FRAME sizes region c.args.self.now c.args.slot.now at c.self.view_is place c.requires in
    let size = c.from-size.ensures ∙ c.unwrap_or.ensures ∙ size_read sizes at out.0 c.index.result.now out.1 c.index.ensures out.2 in
    held_at GREATEST_FRAME sizes region c.args.self.now c.args.slot.now at (at * GREATEST_FRAME) out.0 c.self.view_is place out.1 out.2 refl
    ∙ ap (λ l. Some (Some l)) (sym (c.part_of.ensures ∙ ap (λ n. take n (drop (at * GREATEST_FRAME) c.deref.result.now)) size ∙ ap (λ r. take out.0 (drop (at * GREATEST_FRAME) r)) c.deref.ensures.value))
