use Rattle.std.proofs.Common.{◌≡◌, ◌+◌, ◌≤◌, ◌^◌, drop}
use Rattle.pre_bound.specs.Along.{bursts_on}
use Rattle.pre_certify.specs.Tables.{delays_in}
use Rattle.pre_certify.proofs.ports.bursts_on.Given as goal

abbrev pub invariant-loop-row : goal.invariant-loop-row
invariant-loop-row l =
    (bursts_on l.net (delays_in l.delays) l.arc.0 l.low l.high l.rows ≡ l.bursts + bursts_on l.net (delays_in l.delays) l.arc.0 l.low l.high (drop l.row-index l.rows))
    × (l.bursts ≤ 10 ^ 12)
