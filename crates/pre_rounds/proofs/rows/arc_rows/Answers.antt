use Rattle.std.proofs.Common.{ℕ, ◌++◌, ◌∷◌, [], None, sym, ◌∙◌, ap}
use Rattle.pre_bound.specs.declared.rows.ArcRow.{ArcRow}
use Rattle.pre_bound.specs.Uses.{has_arc}
use Rattle.pre_certify.proofs.Listing.{listed_yes, listed_no}
use Rattle.pre_rounds.specs.Written.{arc_at}
use Rattle.pre_rounds.proofs.rows.arc_rows.Goals as goal
use Rattle.pre_rounds.proofs.rows.arc_rows.Goals.{then-has_arc+in_ok-push, else-has_arc}

abbrev row : ℕ → ℕ → ArcRow
row arc largest = record { arc = record { 0 = arc }; rank = None; largest = largest }

pub loop-place-preserved : goal.loop-place-preserved
loop-place-preserved c = elim c.if-has_arc.branch [
  | then-has_arc+in_ok-push w ↦
      w.found-is ∙ w.in_ok-push.ensures.ok
      ∙ ap (λ n. c.loop-place.found ++ row c.loop-place.place n ∷ []) w.largest_used.ensures.largest
      ∙ ap (λ l. l ++ arc_at c.args.net.now c.args.rows.now c.loop-place.place ∷ []) c.loop-place.invariant
      ∙ sym (listed_yes (arc_at c.args.net.now c.args.rows.now) (has_arc c.args.rows.now) c.loop-place.place (sym w.if-has_arc.ensures))
  | else-has_arc w ↦
      w.found-is ∙ c.loop-place.invariant ∙ sym (listed_no (arc_at c.args.net.now c.args.rows.now) (has_arc c.args.rows.now) c.loop-place.place (sym w.if-has_arc.ensures))
]
