use Rattle.std.proofs.Common.{◌≡◌, ◌+◌, length}
use Rattle.pre_check.specs.Breaches.{first_from}
use Rattle.pre_check.proofs.verdicts.first_of.Given as goal

abbrev pub invariant-loop-rest : goal.invariant-loop-rest
invariant-loop-rest l = (first_from l.clause l.rest ≡ first_from 1 l.fn.breaches) × (l.clause + length l.rest ≡ 1 + length l.fn.breaches)

abbrev pub decreases-loop-rest : goal.decreases-loop-rest
decreases-loop-rest l = length l.rest
