use Rattle.std.proofs.Common.{[], ◌∷◌, ◌++◌, ◌∙◌, ap, sym, take}
use Rattle.pre_check.specs.declared.due.Due.TheVariants as due
use Rattle.pre_check.specs.Due.{due_bounds}
use Rattle.pre_check.proofs.Dues.{further, bounds_more, bounds_same}
use Rattle.pre_check.proofs.due.push_bounds.Goals as goal
use Rattle.pre_check.proofs.due.push_bounds.Goals.{then-is_some+in_ok-push, else-is_some}

pub loop-stream-preserved : goal.loop-stream-preserved
loop-stream-preserved c =
    let rows = c.args.rows.now in
    let k = c.loop-stream.stream in
    let r = c.index-rows-stream.result in
    elim c.if-is_some.branch [
      | then-is_some+in_ok-push w ↦
          further c.args.due.now (due_bounds (take k rows)) _ (due.Bound (record { 0 = k }) ∷ []) c.loop-stream.due c.if-is_some.due c.loop-stream.invariant (w.due-is ∙ w.in_ok-push.ensures.ok)
          (bounds_more rows k r c.loop-stream-test.true c.index-rows-stream.is (sym w.if-is_some.ensures))
      | else-is_some w ↦ w.due-is ∙ c.loop-stream.invariant ∙ ap (λ l. c.args.due.now ++ l) (sym (bounds_same rows k r c.loop-stream-test.true c.index-rows-stream.is (sym w.if-is_some.ensures)))
    ]
