use Rattle.std.proofs.Common.{◌≡◌, ◌/◌, ◌%◌, false, ◌∙◌, sym, ap, arith}
use Rattle.std.proofs.lemmas.Bool.{le-ltb, true≢false}
use Rattle.pre_bound.specs.Uses.{ring_at}
use Rattle.pre_rounds.specs.Passing.{need_over, is_short}
use Rattle.pre_rounds.specs.Tables.{bursts_in}
use Rattle.pre_rounds.proofs.Places.{ports_more}
use Rattle.pre_rounds.proofs.bounds.first_short.Goals as goal
use Rattle.pre_rounds.proofs.bounds.first_short.Goals.{then-has_port+else-need-ring_at, else-has_port}

pub loop-place-preserved : goal.loop-place-preserved
loop-place-preserved c =
    let net = c.args.net.now in
    let rows = c.args.rows.now in
    let b = bursts_in c.args.bursts.now in
    let k = c.loop-place.place in
    ports_more net rows (λ a p. is_short net rows b a p ≡ false) k c.loop-place.invariant
    (elim c.if-has_port.branch [
      | then-has_port+else-need-ring_at w ↦
          λ port.
          let size = ap (λ row. row.size / 84) w.settled_row-need.ensures in
          let fits = w.if-need-ring_at.false in
          let room = w.ring_at.ensures in
          le-ltb (ring_at net (k / 8) (k % 8)) (need_over net rows b (k / 8) (k % 8)) (omega (arith, size, fits, room))
      | else-has_port w ↦ λ port. absurd (true≢false (sym port ∙ sym w.if-has_port.ensures))
    ])
