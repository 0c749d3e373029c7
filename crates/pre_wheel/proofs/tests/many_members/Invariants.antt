use Rattle.std.proofs.Common.{◌≡◌}
use Rattle.pre_wheel.proofs.tests.many_members.Given as goal

abbrev pub invariant-loop-member : goal.invariant-loop-member
invariant-loop-member g l = l.wheel.members ≡ 997
