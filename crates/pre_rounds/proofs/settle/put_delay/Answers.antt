use Rattle.std.proofs.Common.{◌+◌, sym, ap, subst, arith}
use Rattle.pre_rounds.specs.Tables.{bursts_in, HaveDelays}
use Rattle.pre_rounds.proofs.Places.{delays_more}
use Rattle.pre_rounds.proofs.settle.put_delay.Goals as goal

pub returns-in-Some-clause-delays : goal.returns-in-Some-clause-delays
returns-in-Some-clause-delays c =
    let net = c.args.net.now in
    let rows = c.args.rows.now in
    let b = bursts_in c.args.bursts.now in
    let k = c.args.place in
    subst (λ t. HaveDelays net rows b t (k + 1)) (sym c.set.ensures)
    (delays_more net rows b c.args.delays.now k c.in-Some.row.delay (omega (arith, c.requires.place, c.requires.long)) c.requires.before (ap (λ r. r.delay) c.in-Some.ensures.1) c.in-Some.ensures.0)
