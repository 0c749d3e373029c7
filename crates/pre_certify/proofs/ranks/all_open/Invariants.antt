use Rattle.std.proofs.Common.{◌≡◌, replicate, None}
use Rattle.pre_certify.proofs.ranks.all_open.Given as goal

abbrev pub invariant-loop-arc : goal.invariant-loop-arc
invariant-loop-arc l = l.ranks ≡ replicate l._arc None
