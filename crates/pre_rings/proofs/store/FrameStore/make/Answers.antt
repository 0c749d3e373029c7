use Rattle.std.proofs.Common.{rules, ◌≡◌, None, replicate, ◌∙◌, sym, ap, subst, arith}
use Rattle.std.specs.Vec.{vec_capacity}
use Rattle.pre_base.specs.declared.limits.TheConstants.{GREATEST_FRAME}
use Rattle.pre_rings.specs.Slots.{slots_of, IsKept}
use Rattle.pre_rings.proofs.SlotLemmas.{slots_of-replicate}
use Rattle.pre_rings.proofs.KeptLemmas.{IsKept-new}
use Rattle.pre_rings.proofs.store.FrameStore.make.Goals as goal

pub invariant_of-result : goal.invariant_of-result
invariant_of-result c =
    let count = c.from-count.ensures in
    let none : c.in_ok-sizes.sizes.items ≡ replicate c.args.slots None = c.in_ok-sizes.ensures.items_if_clones_equal (λ y h. search rules) ∙ ap (λ n. replicate n None) count in
    subst (λ sizes. IsKept GREATEST_FRAME sizes c.in_ok-octets.octets.items c.in_ok-free.free.items (vec_capacity c.in_ok-free.free)) (sym none)
    (IsKept-new GREATEST_FRAME c.args.slots (vec_capacity c.in_ok-free.free) c.in_ok-octets.octets.items c.in_ok-free.free.items
    (omega (arith, c.in_ok-octets.ensures.len, c.in_ok-octets.octets.ok.0, count)) c.in_ok-free.ensures.capacity c.in_ok-free.ensures.once)

pub returns : goal.returns
returns c =
    let count = c.from-count.ensures in
    let none : c.in_ok-sizes.sizes.items ≡ replicate c.args.slots None = c.in_ok-sizes.ensures.items_if_clones_equal (λ y h. search rules) ∙ ap (λ n. replicate n None) count in
    ap (λ sizes. slots_of GREATEST_FRAME sizes c.in_ok-octets.octets.items) none ∙ slots_of-replicate GREATEST_FRAME c.args.slots c.in_ok-octets.octets.items
