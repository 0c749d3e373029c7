use Rattle.std.proofs.Common.{◌^◌, take}
use Rattle.pre_bound.specs.Uses.{rate_of}
use Rattle.pre_bound.specs.Along.{burst_at}
use Rattle.pre_certify.specs.Tables.{delays_in}
use Rattle.pre_certify.proofs.Growing.{none_iff, grown_exit}
use Rattle.pre_certify.proofs.ports.burst_at.Goals as goal

pub returns-in_err-burst : goal.returns-in_err-burst
returns-in_err-burst c =
    none_iff c.from_residual.result _ _ c.from_residual.ensures
    (grown_exit c.args.net.now (λ a. delays_in c.args.delays.now a c.args.row.now.prio) (rate_of c.args.row.now) c.rate_of-rate.result c.loop-arc.burst c.delay_at.result c.cost_at.result (10 ^ 12)
    (burst_at c.args.net.now (delays_in c.args.delays.now) c.args.row.now c.args.hop) (take c.args.hop c.as_slice.result.now) c.loop-arc.arc-index c.loop-arc-test.true c.rate_of-rate.ensures.rate
    c.loop-arc.invariant.0 c.delay_at.ensures.delay c.cost_at.ensures.cost c.in_err-burst.ensures)
