use Rattle.std.proofs.Common.{ℕ, ◌/◌, ◌%◌, ◌++◌, ◌∷◌, [], sym, ◌∙◌, ap, map}
use Rattle.std.specs.Prelude.{filter}
use Rattle.std.specs.List.{range_with_len}
use Rattle.pre_bound.specs.declared.rows.PortRow.{PortRow}
use Rattle.pre_bound.specs.Uses.{has_port}
use Rattle.pre_certify.proofs.Listing.{listed_yes, listed_no}
use Rattle.pre_rounds.specs.Rounds.{port_over}
use Rattle.pre_rounds.specs.Tables.{bursts_in}
use Rattle.pre_rounds.proofs.rows.port_rows.Goals as goal
use Rattle.pre_rounds.proofs.rows.port_rows.Goals.{then-has_port+in_ok-push, else-has_port}

pub loop-place-preserved : goal.loop-place-preserved
loop-place-preserved c =
    let row : ℕ → PortRow = λ place. port_over c.args.net.now c.args.rows.now (bursts_in c.args.bursts.now) (place / 8) (place % 8) in
    elim c.if-has_port.branch [
      | then-has_port+in_ok-push w ↦
          let k = c.loop-place.place in
          w.found-is ∙ w.in_ok-push.ensures.ok ∙ ap (λ l. l ++ w.settled_row.result ∷ []) c.loop-place.invariant
          ∙ ap (λ r. map row (filter (λ place. has_port c.args.rows.now (place / 8) (place % 8)) (range_with_len 0 k)) ++ r ∷ []) w.settled_row.ensures
          ∙ sym (listed_yes row (λ place. has_port c.args.rows.now (place / 8) (place % 8)) k (sym w.if-has_port.ensures))
      | else-has_port w ↦
          w.found-is ∙ c.loop-place.invariant
          ∙ sym (listed_no row (λ place. has_port c.args.rows.now (place / 8) (place % 8)) c.loop-place.place (sym w.if-has_port.ensures))
    ]
