use Rattle.std.proofs.Common.{◌≡◌, ◌*◌, ◌≤◌, ◌^◌, take}
use Rattle.pre_bound.specs.Uses.{rates_on}
use Rattle.pre_check.proofs.uses.rates_on.Given as goal

abbrev pub invariant-loop-row : goal.invariant-loop-row
invariant-loop-row l = (l.rates ≡ rates_on l.arc.0 l.low l.high (take l.row-index l.rows)) × (l.rates ≤ l.row-index * 10 ^ 12)
