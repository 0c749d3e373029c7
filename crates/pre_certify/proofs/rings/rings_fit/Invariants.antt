use Rattle.std.proofs.Common.{◌+◌, ◌*◌, ◌<◌}
use Rattle.pre_bound.specs.Good.{AtPorts}
use Rattle.pre_certify.specs.Tables.{delays_in}
use Rattle.pre_certify.specs.Causes.{HasRoom}
use Rattle.pre_certify.proofs.rings.rings_fit.Given as goal

abbrev pub invariant-loop-place : goal.invariant-loop-place
invariant-loop-place l = AtPorts l.net l.rows (λ a p. a * 8 + p < l.place → HasRoom l.net l.rows (delays_in l.delays) a p)
