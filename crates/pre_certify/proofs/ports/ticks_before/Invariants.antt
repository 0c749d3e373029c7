use Rattle.std.proofs.Common.{◌≡◌, ◌+◌, ◌≤◌, ◌^◌, drop}
use Rattle.pre_bound.specs.Along.{route_ticks}
use Rattle.pre_certify.specs.Tables.{delays_in}
use Rattle.pre_bound.specs.Passing.{ticks_before}
use Rattle.pre_certify.proofs.ports.ticks_before.Given as goal

abbrev pub invariant-loop-arc : goal.invariant-loop-arc
invariant-loop-arc l =
    (ticks_before l.net (delays_in l.delays) l.row l.hop ≡ l.ticks + route_ticks l.net (λ a. delays_in l.delays a l.row.prio) (drop l.arc-index l.arc-items))
    × (l.ticks ≤ 10 ^ 12)
