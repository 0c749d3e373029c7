use Rattle.std.proofs.Common.{◌≡◌, length}
use Rattle.pre_streams.specs.FileRules.{holds_along}
use Rattle.pre_streams.proofs.arc_rules.holds_along.Given as goal

abbrev pub invariant-loop-rest : goal.invariant-loop-rest
invariant-loop-rest l = holds_along l.net l.rule l.rest ≡ holds_along l.net l.rule l.fn.route

abbrev pub decreases-loop-rest : goal.decreases-loop-rest
decreases-loop-rest l = length l.rest
