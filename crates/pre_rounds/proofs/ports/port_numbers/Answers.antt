use Rattle.std.proofs.Common.{◌+◌, ◌*◌, ◌<◌, ◌≤◌, sym, subst, arith}
use Rattle.pre_bound.specs.Uses.{cost_at}
use Rattle.pre_certify.proofs.Loading.{part_fits, rates_small}
use Rattle.pre_rounds.proofs.ports.port_numbers.Goals as goal

pub hop_delay-requires-clause-rate : goal.hop_delay-requires-clause-rate
hop_delay-requires-clause-rate c =
    let some : 1 ≤ cost_at c.args.net.now c.args.arc.0 = subst (λ n. 1 ≤ n) c.cost_at-cost.ensures.cost (c.cost_at-cost.ensures.some c.requires.arc) in
    let small = rates_small c.args.net.now c.args.rows.now c.args.arc.0 (c.args.prio + 1) 8 (omega arith) some c.requires.load in
    omega (arith, small, c.rates_on-rate.ensures.rates)

pub hop_delay-requires-clause-load : goal.hop_delay-requires-clause-load
hop_delay-requires-clause-load c =
    let fits = part_fits c.args.net.now c.args.rows.now c.args.arc.0 (c.args.prio + 1) 8 (omega arith) c.requires.load in
    subst (λ k. k * c.rates_on-rate.result < 1_000_000) (sym c.cost_at-cost.ensures.cost) (subst (λ r. cost_at c.args.net.now c.args.arc.0 * r < 1_000_000) (sym c.rates_on-rate.ensures.rates) fits)

pub size_with-requires-clause-rates : goal.size_with-requires-clause-rates
size_with-requires-clause-rates c =
    let some : 1 ≤ cost_at c.args.net.now c.args.arc.0 = subst (λ n. 1 ≤ n) c.cost_at-cost.ensures.cost (c.cost_at-cost.ensures.some c.requires.arc) in
    let small = rates_small c.args.net.now c.args.rows.now c.args.arc.0 c.args.prio (c.args.prio + 1) (omega (arith, c.requires.prio)) some c.requires.load in
    omega (arith, small)
