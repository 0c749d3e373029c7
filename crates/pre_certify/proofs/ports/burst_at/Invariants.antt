use Rattle.std.proofs.Common.{◌≡◌, ◌≤◌, ◌^◌, drop}
use Rattle.pre_bound.specs.Uses.{rate_of}
use Rattle.pre_bound.specs.Along.{burst_at, grown_over}
use Rattle.pre_certify.specs.Tables.{delays_in}
use Rattle.pre_certify.proofs.ports.burst_at.Given as goal

abbrev pub invariant-loop-arc : goal.invariant-loop-arc
invariant-loop-arc l =
    (grown_over l.net (λ a. delays_in l.delays a l.row.prio) (rate_of l.row) l.burst (drop l.arc-index l.arc-items) ≡ burst_at l.net (delays_in l.delays) l.row l.hop)
    × (l.burst ≤ 10 ^ 12)
