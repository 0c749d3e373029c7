use Rattle.std.proofs.Common.{◌≡◌, ◌+◌, ◌≤◌, drop}
use Rattle.pre_bound.specs.Along.{route_ticks}
use Rattle.pre_check.specs.Said.{delay_in}
use Rattle.pre_check.proofs.clauses.route_fits.Given as goal

abbrev pub invariant-loop-arc : goal.invariant-loop-arc
invariant-loop-arc l =
    (route_ticks l.net (λ a. delay_in l.ports a l.row.prio) l.row.arcs ≡ l.ticks + route_ticks l.net (λ a. delay_in l.ports a l.row.prio) (drop l.arc-index l.arc-items))
    × (l.ticks ≤ l.bound)
