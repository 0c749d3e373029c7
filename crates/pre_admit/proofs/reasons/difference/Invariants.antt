use Rattle.std.proofs.Common.{◌≡◌, take}
use Rattle.pre_admit.proofs.reasons.difference.Given as goal

abbrev pub invariant-loop-hop : goal.invariant-loop-hop
invariant-loop-hop l = take l.hop l.a ≡ take l.hop l.b
