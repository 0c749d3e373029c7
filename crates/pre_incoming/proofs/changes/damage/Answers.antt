use Rattle.std.proofs.Common.{◌≡◌, ◌+◌, ◌^◌, ◌-◌, sym, ◌∙◌, ap, arith, Some}
use Rattle.std.specs.Prelude.{slice_get}
use Rattle.pre_history.specs.Octets.{xored}
use Rattle.pre_history.proofs.Lists.{found_at}
use Rattle.pre_incoming.proofs.Damaging.{none_yet, applied, of_other, of_other_arc, cut_off}
use Rattle.pre_incoming.proofs.changes.damage.Goals as goal
use Rattle.pre_incoming.proofs.changes.damage.Goals.{then-eq+then-line-ordinal, else-eq, else-eq-via-then-eq+else-line-ordinal, else-eq-via-else-eq}

pub loop-line-init : goal.loop-line-init
loop-line-init c = sym (none_yet c.args.arc.0 c.args.ordinal c.args.smd c.as_slice-line-items.result.now c.args.octets.now)

pub loop-line-preserved : goal.loop-line-preserved
loop-line-preserved c =
    let at : slice_get c.as_slice-line-items.result.now c.loop-line.line-index ≡ Some c.line-item.result
    = found_at c.as_slice-line-items.result.now c.loop-line.line-index c.line-item.result c.loop-line-test.true (sym c.line-item.is) in
    elim c.if-eq.branch [
      | then-eq+then-line-ordinal w ↦
          w.octets-is
          ∙ (cut_off (c.args.smd + c.line-item.result.offset) (2 ^ 64 - 1)
          w.saturating_add.result c.loop-line.octets w.xor_from.new.octets w.as_slice.result.now c.line-item.result.octets w.xor_from.ensures w.saturating_add.ensures w.as_slice.ensures (omega arith)
          ∙ (ap (xored (c.args.smd + c.line-item.result.offset) c.line-item.result.octets) c.loop-line.invariant
          ∙ sym (applied c.args.arc.0 c.args.ordinal c.args.smd c.as_slice-line-items.result.now c.args.octets.now c.loop-line.line-index c.line-item.result at
          (sym c.eq.ensures ∙ w.if-eq.true) w.if-line-ordinal.true)))
      | else-eq w ↦ elim w.else-eq.branch [
        | else-eq-via-then-eq+else-line-ordinal v ↦
            w.octets-is ∙ (c.loop-line.invariant
            ∙ sym (of_other c.args.arc.0 c.args.ordinal c.args.smd c.as_slice-line-items.result.now c.args.octets.now c.loop-line.line-index c.line-item.result at
            (sym c.eq.ensures ∙ v.if-eq.true) v.if-line-ordinal.false))
        | else-eq-via-else-eq v ↦
            w.octets-is ∙ (c.loop-line.invariant
            ∙ sym (of_other_arc c.args.arc.0 c.args.ordinal c.args.smd c.as_slice-line-items.result.now c.args.octets.now c.loop-line.line-index c.line-item.result at
            (sym c.eq.ensures ∙ v.if-eq.false)))
      ]
    ]
