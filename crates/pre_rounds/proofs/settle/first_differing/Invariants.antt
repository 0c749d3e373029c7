use Rattle.std.proofs.Common.{◌≡◌, ◌+◌, ◌*◌, ◌<◌, false}
use Rattle.pre_bound.specs.Good.{AtPorts}
use Rattle.pre_rounds.specs.Passing.{some_differs}
use Rattle.pre_rounds.specs.Tables.{bursts_in}
use Rattle.pre_rounds.proofs.settle.first_differing.Given as goal

abbrev pub invariant-loop-place : goal.invariant-loop-place
invariant-loop-place l = AtPorts l.net l.rows (λ a p. a * 8 + p < l.place → some_differs l.rows (bursts_in l.bursts) (bursts_in l.other) a p ≡ false)
