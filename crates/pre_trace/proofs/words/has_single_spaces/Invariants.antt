use Rattle.std.proofs.Common.{◌≡◌, length}
use Rattle.pre_trace.specs.Values.{has_single_spaces}
use Rattle.pre_trace.proofs.Spaces.{spaced}
use Rattle.pre_trace.proofs.words.has_single_spaces.Given as goal

abbrev pub invariant-loop-rest : goal.invariant-loop-rest
invariant-loop-rest l = has_single_spaces l.fn.line ≡ spaced l.after l.rest

abbrev pub decreases-loop-rest : goal.decreases-loop-rest
decreases-loop-rest l = length l.rest
