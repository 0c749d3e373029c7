use Rattle.std.proofs.Common.{◌≡◌, ◌+◌, ◌*◌, ◌<◌, false}
use Rattle.pre_bound.specs.Good.{AtPorts}
use Rattle.pre_rounds.specs.Passing.{is_short}
use Rattle.pre_rounds.specs.Tables.{bursts_in}
use Rattle.pre_rounds.proofs.bounds.first_short.Given as goal

abbrev pub invariant-loop-place : goal.invariant-loop-place
invariant-loop-place l = AtPorts l.net l.rows (λ a p. a * 8 + p < l.place → is_short l.net l.rows (bursts_in l.bursts) a p ≡ false)
