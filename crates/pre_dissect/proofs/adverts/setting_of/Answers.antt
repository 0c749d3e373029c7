use Rattle.std.proofs.Common.{sym, ◌∙◌}
use Rattle.pre_dissect.proofs.Settings.{applied, other_arc, too_late}
use Rattle.pre_dissect.proofs.adverts.setting_of.Goals as goal
use Rattle.pre_dissect.proofs.adverts.setting_of.Goals.{then-eq+then-line-tick, else-eq, else-eq-via-then-eq+else-line-tick, else-eq-via-else-eq}

pub loop-line-preserved : goal.loop-line-preserved
loop-line-preserved c =
    let a = c.args.arc.0 in
    let t = c.args.tick.0 in
    let i = c.loop-line.line-index in
    let lines = c.as_slice-line-items.result.now in
    elim c.if-eq.branch [
      | then-eq+then-line-tick w ↦ w.setting-is ∙ sym (applied a t i lines _ c.loop-line-test.true (sym c.eq.ensures ∙ w.if-eq.true) w.if-line-tick.true)
      | else-eq w ↦ elim w.else-eq.branch [
        | else-eq-via-then-eq+else-line-tick v ↦ w.setting-is ∙ (c.loop-line.invariant ∙ sym (too_late a t i lines _ c.loop-line-test.true v.if-line-tick.false))
        | else-eq-via-else-eq v ↦ w.setting-is ∙ (c.loop-line.invariant ∙ sym (other_arc a t i lines _ c.loop-line-test.true (sym c.eq.ensures ∙ v.if-eq.false)))
      ]
    ]
