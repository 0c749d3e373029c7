use Rattle.std.proofs.Common.{◌≡◌, replicate}
use Rattle.pre_trace.specs.Sums.{no_closing}
use Rattle.pre_trace.proofs.tallies.slots_of.Given as goal

abbrev pub invariant-loop-turn : goal.invariant-loop-turn
invariant-loop-turn l = l.slots ≡ replicate l._turn no_closing
