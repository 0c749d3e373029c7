use Rattle.std.proofs.Common.{ℕ, [], ◌∷◌, ◌++◌, ◌∙◌, ap, sym, map}
use Rattle.std.specs.Prelude.{filter}
use Rattle.std.specs.List.{range_with_len}
use Rattle.pre_bound.specs.Uses.{has_arc}
use Rattle.pre_check.specs.declared.due.Due.{Due}
use Rattle.pre_check.specs.declared.due.Due.TheVariants as due
use Rattle.pre_check.proofs.Listing.{listed_yes, listed_no}
use Rattle.pre_check.proofs.Dues.{further}
use Rattle.pre_check.proofs.due.push_arcs.Goals as goal
use Rattle.pre_check.proofs.due.push_arcs.Goals.{then-has_arc+in_ok-push, else-has_arc}

pub loop-place-preserved : goal.loop-place-preserved
loop-place-preserved c =
    let f : ℕ → Due = λ arc. due.Arc (record { 0 = arc }) in
    let p = has_arc c.args.rows.now in
    let k = c.loop-place.place in
    elim c.if-has_arc.branch [
      | then-has_arc+in_ok-push w ↦
          further c.args.due.now (map f (filter p (range_with_len 0 k))) _ (f k ∷ []) c.loop-place.due c.if-has_arc.due c.loop-place.invariant (w.due-is ∙ w.in_ok-push.ensures.ok) (listed_yes f p k (sym w.if-has_arc.ensures))
      | else-has_arc w ↦ w.due-is ∙ c.loop-place.invariant ∙ ap (λ l. c.args.due.now ++ l) (sym (listed_no f p k (sym w.if-has_arc.ensures)))
    ]
