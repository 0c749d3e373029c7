use Rattle.std.proofs.Common.{◌/◌, ◌%◌, ◌<◌, ◌++◌, ◌∷◌, [], sym, ◌∙◌, ap, arith, length, map}
use Rattle.std.specs.Prelude.{filter}
use Rattle.std.specs.List.{range_with_len}
use Rattle.pre_bound.specs.Uses.{has_port}
use Rattle.pre_bound.specs.Listed.{port_row}
use Rattle.pre_certify.specs.Tables.{delays_in}
use Rattle.pre_certify.specs.Written.{values_at}
use Rattle.pre_certify.proofs.Listing.{listed_yes, listed_no, port_row-settled}
use Rattle.pre_certify.proofs.rows.port_rows.Goals as goal
use Rattle.pre_certify.proofs.rows.port_rows.Goals.{then-has_port+in_ok-push, else-has_port}

pub loop-place-preserved : goal.loop-place-preserved
loop-place-preserved c = elim c.if-has_port.branch [
  | then-has_port+in_ok-push w ↦
      let v = values_at c.args.net.now c.args.rows.now (delays_in c.args.delays.now) in
      let k = c.loop-place.place in
      let arc : k / 8 < length c.args.net.now.arcs = omega (arith, c.loop-place-test.true, c.len-place-end.ensures) in
      let prio : k % 8 < 8 = omega arith in
      let row = w.settled_row.ensures ∙ port_row-settled c.args.net.now c.args.rows.now (delays_in c.args.delays.now) k (c.requires.table.settled (k / 8) (k % 8) arc prio (sym w.if-has_port.ensures)) in
      w.found-is ∙ w.in_ok-push.ensures.ok ∙ ap (λ l. l ++ w.settled_row.result ∷ []) c.loop-place.invariant
      ∙ ap (λ r. map (port_row v) (filter (λ place. has_port c.args.rows.now (place / 8) (place % 8)) (range_with_len 0 k)) ++ r ∷ []) row
      ∙ sym (listed_yes (port_row v) (λ place. has_port c.args.rows.now (place / 8) (place % 8)) k (sym w.if-has_port.ensures))
  | else-has_port w ↦
      w.found-is ∙ c.loop-place.invariant
      ∙ sym (listed_no (port_row (values_at c.args.net.now c.args.rows.now (delays_in c.args.delays.now))) (λ place. has_port c.args.rows.now (place / 8) (place % 8)) c.loop-place.place (sym w.if-has_port.ensures))
]
