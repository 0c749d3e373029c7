use Rattle.std.proofs.Common.{ℕ, [], ◌∷◌, ◌++◌, ◌/◌, ◌%◌, Bool, ◌∙◌, ap, sym, map}
use Rattle.std.specs.Prelude.{filter}
use Rattle.std.specs.List.{range_with_len}
use Rattle.pre_bound.specs.Uses.{has_port}
use Rattle.pre_check.specs.Due.{due_port}
use Rattle.pre_check.proofs.Listing.{listed_yes, listed_no}
use Rattle.pre_check.proofs.Dues.{further}
use Rattle.pre_check.proofs.due.push_ports.Goals as goal
use Rattle.pre_check.proofs.due.push_ports.Goals.{then-has_port+in_ok-push, else-has_port}

pub loop-place-preserved : goal.loop-place-preserved
loop-place-preserved c =
    let p : ℕ → Bool = λ place. has_port c.args.rows.now (place / 8) (place % 8) in
    let k = c.loop-place.place in
    elim c.if-has_port.branch [
      | then-has_port+in_ok-push w ↦
          further c.args.due.now (map due_port (filter p (range_with_len 0 k))) _ (due_port k ∷ []) c.loop-place.due c.if-has_port.due c.loop-place.invariant (w.due-is ∙ w.in_ok-push.ensures.ok) (listed_yes due_port p k (sym w.if-has_port.ensures))
      | else-has_port w ↦ w.due-is ∙ c.loop-place.invariant ∙ ap (λ l. c.args.due.now ++ l) (sym (listed_no due_port p k (sym w.if-has_port.ensures)))
    ]
