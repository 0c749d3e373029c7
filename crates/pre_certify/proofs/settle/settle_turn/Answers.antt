use Rattle.std.proofs.Common.{◌≡◌, ◌+◌, ◌*◌, ◌/◌, ◌%◌, ◌<◌, ◌∙◌, refl, sym, ap, subst, arith, length, true, false}
use Rattle.pre_bound.specs.Along.{port_delay}
use Rattle.pre_bound.specs.Passing.{passes}
use Rattle.pre_certify.specs.Tables.{delays_in}
use Rattle.pre_certify.specs.Turns.{ranks_in, turn_of, SettledBefore}
use Rattle.pre_certify.proofs.Stepping.{settled-step}
use Rattle.pre_certify.proofs.settle.settle_turn.Goals as goal

pub returns-in-Some-clause-settled : goal.returns-in-Some-clause-settled
returns-in-Some-clause-settled c =
    let due = c.if-not-is_due.ensures.due refl in
    let a = c.args.turn % 2048 / 8 in
    let p = c.args.turn % 8 in
    let prio : p < 8 = omega arith in
    let ranked = due.1 in
    let here : turn_of (ranks_in c.args.ranks.now) a p ≡ c.args.turn = omega (arith, ranked) in
    let room : a * 8 + p < length c.args.delays.now = omega (arith, due.0, c.requires.long) in
    subst (λ t. SettledBefore c.args.net.now c.args.rows.now (ranks_in c.args.ranks.now) (delays_in t) (c.args.turn + 1)) (sym c.set.ensures)
    (settled-step c.args.net.now c.args.rows.now (ranks_in c.args.ranks.now) c.args.net.now.rules.arc_count.1 c.order_law.ensures.same c.requires.prios c.requires.rise c.args.delays.now a p c.in-Some.row.delay c.args.turn
    due.0 prio here room c.requires.before
    (ap (λ r. r.delay) c.in-Some.ensures.1 ∙ ap (λ t. port_delay c.args.net.now c.args.rows.now (delays_in t) a p) c.as_slice.ensures)
    (subst (λ t. passes c.args.net.now c.args.rows.now (delays_in t) a p ≡ false) c.as_slice.ensures c.in-Some.ensures.0))

pub returns-in-None-clause-large : goal.returns-in-None-clause-large
returns-in-None-clause-large c =
    let due = c.if-not-is_due.ensures.due refl in
    let a = c.args.turn % 2048 / 8 in
    let p = c.args.turn % 8 in
    let prio : p < 8 = omega arith in
    let ranked = due.1 in
    record {
      within = (due.0, prio);
      port = due.2;
      turn_is = omega (arith, ranked);
      large = subst (λ t. passes c.args.net.now c.args.rows.now (delays_in t) a p ≡ true) c.as_slice.ensures c.in-None.ensures;
    }
