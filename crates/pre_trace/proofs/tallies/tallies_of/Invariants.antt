use Rattle.std.proofs.Common.{◌≡◌, replicate}
use Rattle.pre_trace.specs.Sums.{no_tally}
use Rattle.pre_trace.proofs.tallies.tallies_of.Given as goal

abbrev pub invariant-loop-turn : goal.invariant-loop-turn
invariant-loop-turn l = l.tallies ≡ replicate l._turn no_tally
